-- To which procedures the places of a program belong, by how many each has.
use Rattle.std.proofs.Common.{◌≡◌, ◌∙◌, ℕ, zero, suc, ◌+◌, ◌-◌, Bool, false, true, List, [], ◌∷◌, ◌++◌, map, length, replicate, drop, Option, None, Some, slice_get, refl, sym, ap, arith, append_assoc, IsTrue, Result, Ok, Err}
use Rattle.std.specs.Prelude.{OnOk}
use Rattle.std.specs.Option.{option_map}
use Rattle.std.proofs.lemmas.Option.{same_Some}
use Rattle.std.proofs.lemmas.List.{length-append, length-map, map-append}
use Rattle.typed_tree.specs.TypedTree.{TypedStatement, Assert, Assume, Havoc, Assign, Call, If, While, Break, Goto, Return, Label, TypedBlock, Empty, Then, TypedProcedure, TypedProgram}
use Rattle.typed_tree.specs.TypingRules.ValidProgram.{is_valid}
use Rattle.typed_tree.specs.TypingRules.Counts.{plain_invariants, plain_requires, checked_at_call, assertions, points, block_assertions, block_points, body_assertions, body_points}
use Rattle.typed_tree.proofs.TypingRules.ValidLaws as valid
use Rattle.letter_acts.specs.declared.sites.Site.{Site}
use Rattle.boogie_run.specs.BoogiePoints.Points.{Todo, Start, Entry, Point, at_exit, before, past}
use Rattle.boogie_run.specs.BoogiePoints.Actions as actions
use Rattle.boogie_run.specs.BoogiePoints.Actions.{Action, action_at, free_conditions, ensured_conditions, start_conditions, first_assertion, first_place}
use Rattle.boogie_run.proofs.BoogiePoints.ConditionLaws.{plain_requires_counted, free_requires_counted}
use Rattle.boogie_run.specs.BoogiePlaces.Places.{parts_from, at_statement, points_in, points_of, points_of_body, start_points, Place, located, points_with, places_from, starts_if_any, program_places}
use Rattle.lowered_graph.specs.Lowered.{action_sites, sites_of, place_owners}
use Rattle.lowered_graph.proofs.CallPlaces.{action_is}
use Rattle.icfg_lower.specs.declared.program_layout.marks.Marks.{Marks}
use Rattle.icfg_lower.specs.ProgramLayout.Layouts.{marks_with, marks_of}
use Rattle.icfg_lower.proofs.ProgramLayout.CountLaws.{ensured_counted}
use Rattle.icfg_lower.specs.Ties.Owners.{owners, site_owners, owners_from, site_owners_from}
use Rattle.icfg_lower.proofs.SiteCounts.{asserted, asserted_at, at_stage, body_asserted, start_asserted}

replicate_sum : {X : Type 0} (m n : ℕ) (x : X) → replicate (m + n) x ≡ replicate m x ++ replicate n x
replicate_sum zero n x = ap (λ (k : ℕ). replicate k x) (let e : 0 + n ≡ n = omega arith in e)
replicate_sum {X} (suc m) n x =
    let e : suc m + n ≡ suc (m + n) = omega arith in
    ap (λ (k : ℕ). replicate k x) e ∙ ap (λ (l : List X). x ∷ l) (replicate_sum m n x)

-- ---- how many points there are

parts_length : (p : Point) (k n : ℕ) → length (parts_from p k n) ≡ n
parts_length p k zero = refl
parts_length p k (suc n) = ap suc (parts_length p (k + 1) n)

both_lengths : {X : Type 0} (xs ys : List X) (m n : ℕ) → length xs ≡ m → length ys ≡ n → length (xs ++ ys) ≡ m + n
both_lengths xs ys m n e f = length-append xs ys ∙ omega arith

mutual
  points_length : (procs : List TypedProcedure) (s : TypedStatement) (b : TypedBlock) (loop : Bool) (id at : ℕ) (under : List Todo) → length (points_in procs s b loop id at under) ≡ points procs s
  points_length procs (Assert span e) b loop id at under = refl
  points_length procs (Assume span e) b loop id at under = refl
  points_length procs (Havoc span cs) b loop id at under = parts_length (at_statement (Havoc span cs) b loop id at under) 0 (length cs)
  points_length procs (Assign span cs es) b loop id at under = refl
  points_length procs (Call span cs f es) b loop id at under = parts_length (at_statement (Call span cs f es) b loop id at under) 0 (checked_at_call (slice_get procs f) + 1)
  points_length procs (If span g x y) b loop id at under =
      let after : List Todo = past procs (If span g x y) b loop id at ∷ under in
      let both : length (points_of procs x false id (at + 1) after ++ points_of procs y false (id + block_assertions procs x) (at + 1 + block_points procs x) after) ≡ block_points procs x + block_points procs y =
      both_lengths (points_of procs x false id (at + 1) after) (points_of procs y false (id + block_assertions procs x) (at + 1 + block_points procs x) after) (block_points procs x) (block_points procs y)
      (block_length procs x false id (at + 1) after) (block_length procs y false (id + block_assertions procs x) (at + 1 + block_points procs x) after) in
      omega arith
  points_length procs (While span g is x) b loop id at under =
      let here : Todo = record { rest = Then (While span g is x) b; of_loop = loop; id = id; at = at } in
      let inner : List Point = points_of procs x true (id + plain_invariants is) (at + length is + 1) (here ∷ under) in
      let both : length (parts_from (before (here ∷ under)) 0 (length is + 1) ++ inner) ≡ (length is + 1) + block_points procs x =
      both_lengths (parts_from (before (here ∷ under)) 0 (length is + 1)) inner (length is + 1) (block_points procs x) (parts_length (before (here ∷ under)) 0 (length is + 1))
      (block_length procs x true (id + plain_invariants is) (at + length is + 1) (here ∷ under)) in
      omega arith
  points_length procs (Break span k) b loop id at under = refl
  points_length procs (Goto span ks) b loop id at under = refl
  points_length procs (Return span) b loop id at under = refl
  points_length procs (Label k) b loop id at under = refl

  block_length : (procs : List TypedProcedure) (b : TypedBlock) (loop : Bool) (id at : ℕ) (under : List Todo) → length (points_of procs b loop id at under) ≡ block_points procs b
  block_length procs Empty loop id at under = refl
  block_length procs (Then s b) loop id at under =
      both_lengths (points_in procs s b loop id at under) (points_of procs b loop (id + assertions procs s) (at + points procs s) under) (points procs s) (block_points procs b)
      (points_length procs s b loop id at under) (block_length procs b loop (id + assertions procs s) (at + points procs s) under)

body_length : (t : TypedProgram) (n : ℕ) (q : TypedProcedure) (b : TypedBlock) → length (points_of_body t n q b) ≡ body_points t.procs q.specs (Some b)
body_length t n q b =
    let free : ℕ = length (free_conditions q.specs) in
    let first : ℕ = first_assertion t.procs n in
    let whole : Todo = record { rest = b; of_loop = false; id = first; at = first_place t n + free } in
    let entry : Point = record { stage = Entry; todo = whole ∷ []; part = 0 } in
    let inner : List Point = points_of t.procs b false first (first_place t n + free) [] in
    let exits : List Point = parts_from at_exit 0 (length (ensured_conditions q.specs) + 1) in
    let behind : length (inner ++ exits) ≡ block_points t.procs b + (length (ensured_conditions q.specs) + 1) =
    both_lengths inner exits (block_points t.procs b) (length (ensured_conditions q.specs) + 1) (block_length t.procs b false first (first_place t n + free) []) (parts_length at_exit 0 (length (ensured_conditions q.specs) + 1)) in
    let all : length (parts_from entry 0 free ++ (inner ++ exits)) ≡ free + (block_points t.procs b + (length (ensured_conditions q.specs) + 1)) =
    both_lengths (parts_from entry 0 free) (inner ++ exits) free (block_points t.procs b + (length (ensured_conditions q.specs) + 1)) (parts_length entry 0 free) behind in
    omega (arith, free_requires_counted q.specs, ensured_counted q.specs)

-- ---- the owners of points and of their assertions

owners_located : (n : ℕ) (ps : List Point) → owners (located n ps) ≡ replicate (length ps) n
owners_located n [] = refl
owners_located n (p ∷ ps) = ap (λ (l : List ℕ). n ∷ l) (owners_located n ps)

sites_of-append : (t : TypedProgram) (ps rs : List Place) → sites_of t (ps ++ rs) ≡ sites_of t ps ++ sites_of t rs
sites_of-append t [] rs = refl
sites_of-append t (p ∷ ps) rs =
    let here : List (ℕ × Site) = action_sites t p.proc (action_at t p.proc p.point) in
    ap (λ (l : List (ℕ × Site)). here ++ l) (sites_of-append t ps rs) ∙ sym (append_assoc here (sites_of t ps) (sites_of t rs))

site_owners-append : (t : TypedProgram) (ps rs : List Place) → site_owners t (ps ++ rs) ≡ site_owners t ps ++ site_owners t rs
site_owners-append t ps rs = ap (λ (l : List (ℕ × Site)). map (λ s. s.0) l) (sites_of-append t ps rs) ∙ map-append (λ (s : ℕ × Site). s.0) (sites_of t ps) (sites_of t rs)

action_owners : (t : TypedProgram) (n : ℕ) (a : Action) → map (λ s. s.0) (action_sites t n a) ≡ replicate (asserted a) n
action_owners t n (actions.Check id at e next) = refl
action_owners t n (actions.Suppose e next) = refl
action_owners t n (actions.Demand id at e args next) = refl
action_owners t n (actions.Write cs es next) = refl
action_owners t n (actions.Guess c next) = refl
action_owners t n (actions.Test e hit miss) = refl
action_owners t n (actions.Pick ways) = refl
action_owners t n (actions.Jump next) = refl
action_owners t n (actions.Enter f args) = refl
action_owners t n (actions.Keep f args c next) = refl
action_owners t n (actions.Grant f args e next) = refl
action_owners t n (actions.Finish f args targets next) = refl
action_owners t n actions.Leave = refl

site_owners_located : (t : TypedProgram) (n : ℕ) (q : TypedProcedure) (b : TypedBlock) (ps : List Point) → slice_get t.procs n ≡ Some q → q.body ≡ Some b →
    site_owners t (located n ps) ≡ replicate (asserted_at (at_stage t n q b) ps) n
site_owners_located t n q b [] e k = refl
site_owners_located t n q b (p ∷ ps) e k =
    let here : List (ℕ × Site) = action_sites t n (action_at t n p) in
    map-append (λ (s : ℕ × Site). s.0) here (sites_of t (located n ps))
    ∙ ap (λ (l : List ℕ). l ++ site_owners t (located n ps)) (action_owners t n (action_at t n p) ∙ ap (λ (a : Action). replicate (asserted a) n) (action_is t n q b p e k))
    ∙ ap (λ (l : List ℕ). replicate (asserted (at_stage t n q b p)) n ++ l) (site_owners_located t n q b ps e k)
    ∙ sym (replicate_sum (asserted (at_stage t n q b p)) (asserted_at (at_stage t n q b) ps) n)

owners_with : (t : TypedProgram) (n : ℕ) (q : TypedProcedure) (o : Option TypedBlock) → owners (located n (points_with t n q o)) ≡ replicate (body_points t.procs q.specs o) n
owners_with t n q None = refl
owners_with t n q (Some b) = owners_located n (points_of_body t n q b) ∙ ap (λ (k : ℕ). replicate k n) (body_length t n q b)

site_owners_with : (t : TypedProgram) (n : ℕ) (q : TypedProcedure) (o : Option TypedBlock) → slice_get t.procs n ≡ Some q → q.body ≡ o →
    site_owners t (located n (points_with t n q o)) ≡ replicate (body_assertions t.procs q.specs o) n
site_owners_with t n q None e k = refl
site_owners_with t n q (Some b) e k = site_owners_located t n q b (points_of_body t n q b) e k ∙ ap (λ (m : ℕ). replicate m n) (body_asserted t n q b)

-- ---- by the numbers of procedures

count_places : (procs : List TypedProcedure) (q : TypedProcedure) (first entry : ℕ) (o : Option TypedBlock) → (marks_with procs q first entry o).end ≡ entry + body_points procs q.specs o
count_places procs q first entry None = omega arith
count_places procs q first entry (Some b) = omega (arith, free_requires_counted q.specs, ensured_counted q.specs)

count_assertions : (procs : List TypedProcedure) (q : TypedProcedure) (first entry : ℕ) (o : Option TypedBlock) → (marks_with procs q first entry o).last ≡ first + body_assertions procs q.specs o
count_assertions procs q first entry None = omega arith
count_assertions procs q first entry (Some b) = omega arith

at_first : (procs : List TypedProcedure) (q : TypedProcedure) (first entry : ℕ) (o : Option TypedBlock) → ((marks_with procs q first entry o).entry ≡ entry) × ((marks_with procs q first entry o).first ≡ first)
at_first procs q first entry None = (refl, refl)
at_first procs q first entry (Some b) = (refl, refl)

-- a procedure has as many places and assertions as its numbers say, and these are in order
places_marked : (t : TypedProgram) (n : ℕ) (q : TypedProcedure) (m : Marks) → m ≡ marks_of t (n, q) → m.end ≡ m.entry + body_points t.procs q.specs q.body
places_marked t n q m e =
    let first : ℕ = first_assertion t.procs n in
    let a : m.end ≡ (marks_with t.procs q first (first_place t n) q.body).end = ap (λ (x : Marks). x.end) e in
    let b : m.entry ≡ (marks_with t.procs q first (first_place t n) q.body).entry = ap (λ (x : Marks). x.entry) e in
    omega (arith, a, b, count_places t.procs q first (first_place t n) q.body, (at_first t.procs q first (first_place t n) q.body).0)

assertions_marked : (t : TypedProgram) (n : ℕ) (q : TypedProcedure) (m : Marks) → m ≡ marks_of t (n, q) → m.last ≡ m.first + body_assertions t.procs q.specs q.body
assertions_marked t n q m e =
    let first : ℕ = first_assertion t.procs n in
    let a : m.last ≡ (marks_with t.procs q first (first_place t n) q.body).last = ap (λ (x : Marks). x.last) e in
    let b : m.first ≡ (marks_with t.procs q first (first_place t n) q.body).first = ap (λ (x : Marks). x.first) e in
    omega (arith, a, b, count_assertions t.procs q first (first_place t n) q.body, (at_first t.procs q first (first_place t n) q.body).1)

pub drop_at : {X : Type 0} (xs : List X) (n : ℕ) (x : X) → slice_get xs n ≡ Some x → drop n xs ≡ x ∷ drop (n + 1) xs
drop_at [] n x e = cc
drop_at {X} (y ∷ xs) zero x e = let f : y ≡ x = cc in ap (λ (z : X). z ∷ xs) f
drop_at {X} (y ∷ xs) (suc n) x e =
    let f : suc n + 1 ≡ suc (n + 1) = omega arith in
    drop_at xs n x e ∙ ap (λ (k : ℕ). x ∷ drop k (y ∷ xs)) (sym f)

-- with the places of one more procedure
next_owners : (t : TypedProgram) (n : ℕ) (q : TypedProcedure) (m : Marks) (old new : List ℕ) → slice_get t.procs n ≡ Some q → m ≡ marks_of t (n, q) → new ≡ old ++ replicate (m.end - m.entry) n →
    new ++ owners_from t (n + 1) ≡ old ++ owners_from t n
next_owners t n q m old new e f g =
    let rest : List Place = places_from t (n + 1) (drop (n + 1) t.procs) in
    let here : List Place = located n (points_with t n q q.body) in
    let count : m.end - m.entry ≡ body_points t.procs q.specs q.body = omega (arith, places_marked t n q m f) in
    ap (λ (l : List ℕ). l ++ owners rest) (g ∙ ap (λ (k : ℕ). old ++ replicate k n) count ∙ ap (λ (l : List ℕ). old ++ l) (sym (owners_with t n q q.body)))
    ∙ append_assoc old (owners here) (owners rest) ∙ ap (λ (l : List ℕ). old ++ l) (sym (map-append (λ (p : Place). p.proc) here rest))
    ∙ ap (λ (qs : List TypedProcedure). old ++ owners (places_from t n qs)) (sym (drop_at t.procs n q e))

-- with those of its assertions
next_site_owners : (t : TypedProgram) (n : ℕ) (q : TypedProcedure) (m : Marks) (old new : List ℕ) → slice_get t.procs n ≡ Some q → m ≡ marks_of t (n, q) → new ≡ old ++ replicate (m.last - m.first) n →
    new ++ site_owners_from t (n + 1) ≡ old ++ site_owners_from t n
next_site_owners t n q m old new e f g =
    let rest : List Place = places_from t (n + 1) (drop (n + 1) t.procs) in
    let here : List Place = located n (points_with t n q q.body) in
    let count : m.last - m.first ≡ body_assertions t.procs q.specs q.body = omega (arith, assertions_marked t n q m f) in
    ap (λ (l : List ℕ). l ++ site_owners t rest) (g ∙ ap (λ (k : ℕ). old ++ replicate k n) count ∙ ap (λ (l : List ℕ). old ++ l) (sym (site_owners_with t n q q.body e refl)))
    ∙ append_assoc old (site_owners t here) (site_owners t rest) ∙ ap (λ (l : List ℕ). old ++ l) (sym (site_owners-append t here rest))
    ∙ ap (λ (qs : List TypedProcedure). old ++ site_owners t (places_from t n qs)) (sym (drop_at t.procs n q e))

-- a procedure with its numbers
record IsMarked (t : TypedProgram) (n : ℕ) (m : Marks) : Type 0 where
  procedure : TypedProcedure
  is : slice_get t.procs n ≡ Some procedure
  marks : m ≡ marks_of t (n, procedure)

marked : (t : TypedProgram) (n : ℕ) (m : Marks) (o : Option TypedProcedure) → slice_get t.procs n ≡ o → option_map (λ q. marks_of t (n, q)) o ≡ Some m → IsMarked t n m
marked t n m None e h = absurd (cc)
marked t n m (Some q) e h = record { procedure = q; is = e; marks = sym (same_Some (marks_of t (n, q)) m h) }

pub places_added : (t : TypedProgram) (n : ℕ) (m : Marks) (old new : List ℕ) → option_map (λ q. marks_of t (n, q)) (slice_get t.procs n) ≡ Some m → new ≡ old ++ replicate (m.end - m.entry) n →
    new ++ owners_from t (n + 1) ≡ old ++ owners_from t n
places_added t n m old new h g = let k = marked t n m (slice_get t.procs n) refl h in next_owners t n k.procedure m old new k.is k.marks g

pub assertions_added : (t : TypedProgram) (n : ℕ) (m : Marks) (old new : List ℕ) → option_map (λ q. marks_of t (n, q)) (slice_get t.procs n) ≡ Some m → new ≡ old ++ replicate (m.last - m.first) n →
    new ++ site_owners_from t (n + 1) ≡ old ++ site_owners_from t n
assertions_added t n m old new h g = let k = marked t n m (slice_get t.procs n) refl h in next_site_owners t n k.procedure m old new k.is k.marks g

-- what follows from what a call ensures, where it succeeds
pub on_ok : {T E P Q : Type 0} (r : Result T E) → (P → Q) → OnOk r P → OnOk r Q
on_ok (Ok x) f h = f h
on_ok (Err e) f h = h

-- ---- the program

starts_length : (t : TypedProgram) (q : TypedProcedure) → length (start_points t q) ≡ length t.axioms + plain_requires q.specs
starts_length t q =
    let point : Point = record { stage = Start; todo = []; part = 0 } in
    let count : length (start_conditions t q) ≡ length t.axioms + plain_requires q.specs = simp (length-append, length-map) (omega (arith, plain_requires_counted q.specs)) in
    parts_length point 0 (length (start_conditions t q)) ∙ count

-- The owners of the places: of the start and its conditions the entry procedure, of the others the procedures in order.
pub owners_are : (t : TypedProgram) (starts : ℕ) → IsTrue (is_valid t) → starts ≡ length t.axioms + checked_at_call (slice_get t.procs t.entry) →
    place_owners t ≡ (replicate (1 + starts) t.entry ++ owners_from t 0) ++ site_owners_from t 0
owners_are t starts v e =
    let entry = valid.entry t v in
    let q : TypedProcedure = entry.0 in
    let b : TypedBlock = entry.1 in
    let all : List Place = places_from t 0 t.procs in
    let begin : List Place = located t.entry (start_points t q) in
    let found : program_places t ≡ begin ++ all = ap (λ (o : Option TypedProcedure). located t.entry (starts_if_any t o) ++ all) entry.2 in
    let count : length (start_points t q) ≡ starts =
    (let c : checked_at_call (slice_get t.procs t.entry) ≡ plain_requires q.specs = ap checked_at_call entry.2 in omega (arith, starts_length t q)) in
    let of_begin : owners begin ≡ replicate starts t.entry = owners_located t.entry (start_points t q) ∙ ap (λ (k : ℕ). replicate k t.entry) count in
    let no_sites : site_owners t begin ≡ [] =
    site_owners_located t t.entry q b (start_points t q) entry.2 entry.3 ∙ ap (λ (k : ℕ). replicate k t.entry) (start_asserted t t.entry q b) in
    let of_places : owners (program_places t) ≡ replicate starts t.entry ++ owners all =
    ap owners found ∙ map-append (λ (p : Place). p.proc) begin all ∙ ap (λ (l : List ℕ). l ++ owners all) of_begin in
    let of_sites : site_owners t (program_places t) ≡ site_owners t all =
    ap (site_owners t) found ∙ site_owners-append t begin all ∙ ap (λ (l : List ℕ). l ++ site_owners t all) no_sites in
    let one_more : replicate (1 + starts) t.entry ≡ t.entry ∷ replicate starts t.entry = ap (λ (k : ℕ). replicate k t.entry) (let f : 1 + starts ≡ suc starts = omega arith in f) in
    ap (λ (l : List ℕ). t.entry ∷ (l ++ site_owners t (program_places t))) of_places
    ∙ ap (λ (l : List ℕ). t.entry ∷ ((replicate starts t.entry ++ owners all) ++ l)) of_sites
    ∙ ap (λ (l : List ℕ). (l ++ owners all) ++ site_owners t all) (sym one_more)
