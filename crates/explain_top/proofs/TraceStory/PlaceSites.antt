-- The places read off the statements are those of the points.
use Rattle.std.proofs.Common.{◌≡◌, ◌∙◌, ℕ, zero, suc, ◌+◌, Bool, true, false, List, [], ◌∷◌, ◌++◌, map, length, replicate, Option, None, Some, refl, sym, ap, arith, length-append}
use Rattle.std.specs.Prelude.{slice_get}
use Rattle.std.specs.Option.{option_or, option_map, option_and_then}
use Rattle.std.proofs.lemmas.List.{map-append, length-map}
use Rattle.std.proofs.lemmas.Option.{slice_get_past}
use Rattle.boogie_tree.specs.declared.span.Span.{Span}
use Rattle.typed_tree.specs.TypedTree.{TypedInvariant, TypedStatement, Assert, Assume, Havoc, Assign, Call, If, While, Break, Goto, Return, Label, TypedBlock, Empty, Then, TypedProcedure, TypedProgram}
use Rattle.typed_tree.specs.BrokenRules.{expression_span}
use Rattle.typed_tree.specs.TypingRules.Counts.{assertions, points, block_assertions, block_points, plain_invariants, checked_at_call}
use Rattle.boogie_run.specs.BoogiePoints.Points.{Todo, Start, Entry, Point, at_exit, before, past}
use Rattle.boogie_run.specs.BoogiePoints.Actions.{plain_conditions, free_conditions, ensured_conditions, start_conditions, first_assertion, first_place}
use Rattle.boogie_run.specs.BoogiePoints.Sites.{invariant_span, start_spans, stage_span}
use Rattle.boogie_run.specs.BoogiePlaces.Places.{parts_from, at_statement, points_in, points_of, points_of_body, start_points, located, points_with, places_from, starts_if_any}
use Rattle.explain_top.specs.TraceStory.Ties.PlaceSites.{PlaceSite, site_of, place_sites, here, condition_site, axiom_site, statement_sites, block_sites, body_sites, sites_from, start_sites, program_sites}

map_twice : {X Y Z : Type 0} (f : Y → Z) (g : X → Y) (xs : List X) → map f (map g xs) ≡ map (λ x. f (g x)) xs
map_twice f g [] = refl
map_twice {Z = Z} f g (x ∷ xs) = ap (λ (ys : List Z). f (g x) ∷ ys) (map_twice f g xs)

zero_more : {X : Type 0} (f : ℕ → X) (j : ℕ) → f (0 + j) ≡ f j
zero_more f j = let z : 0 + j ≡ j = omega arith in ap f z

-- the condition of that number
at_zero : (is : List TypedInvariant) (j : ℕ) (i : TypedInvariant) → slice_get is j ≡ Some i → option_map invariant_span (slice_get is (0 + j)) ≡ Some i.span
at_zero is j i e = zero_more (λ (m : ℕ). option_map invariant_span (slice_get is m)) j ∙ ap (option_map invariant_span) e

-- behind the last there is none
past_all : (is : List TypedInvariant) → option_map invariant_span (slice_get is (0 + length is)) ≡ None
past_all is = ap (option_map invariant_span) (slice_get_past is (0 + length is) (omega arith))

module _ (t : TypedProgram) (n : ℕ) (q : TypedProcedure) (found : slice_get t.procs n ≡ Some q) where
  abbrev site_here : Point → PlaceSite
  site_here p = site_of t (record { proc = n; point = p })

  site_is : (p : Point) → site_here p ≡ (n, stage_span t q p.stage p)
  site_is p = ap (λ (o : Option TypedProcedure). let s : Option Span = option_and_then (λ r. stage_span t r p.stage p) o in (n, s)) found

  spot : (at : Span) (p : Point) → stage_span t q p.stage p ≡ Some at → site_here p ≡ here n at
  spot at p e = site_is p ∙ ap (λ (o : Option Span). (n, o)) e

  alone : (at : Span) (p : Point) → stage_span t q p.stage p ≡ Some at → map site_here (p ∷ []) ≡ here n at ∷ []
  alone at p e = ap (λ (s : PlaceSite). s ∷ []) (spot at p e)

  -- parts that stand at one place
  many : (at : Span) (p : Point) (k m : ℕ) → ((j : ℕ) → stage_span t q p.stage (record p { part = j }) ≡ Some at) → map site_here (parts_from p k m) ≡ replicate m (here n at)
  many at p k zero h = refl
  many at p k (suc m) h =
      let first = spot at (record p { part = k }) (h k) in
      let rest = many at p (k + 1) m h in
      (λ i. first i ∷ rest i)

  -- parts that stand where the members of a list do
  listed : {X : Type 0} (f : X → Span) (p : Point) (k : ℕ) (xs : List X) → ((j : ℕ) (x : X) → slice_get xs j ≡ Some x → stage_span t q p.stage (record p { part = k + j }) ≡ Some (f x)) →
      map site_here (parts_from p k (length xs)) ≡ map (λ x. here n (f x)) xs
  listed f p k [] h = refl
  listed f p k (x ∷ xs) h =
      let k_is : k ≡ k + 0 = omega arith in
      let first : site_here (record p { part = k }) ≡ here n (f x) = spot (f x) (record p { part = k }) (ap (λ (m : ℕ). stage_span t q p.stage (record p { part = m })) k_is ∙ h 0 x refl) in
      let rest = listed f p (k + 1) xs (λ j y e. (let s : (k + 1) + j ≡ k + suc j = omega arith in ap (λ (m : ℕ). stage_span t q p.stage (record p { part = m })) s ∙ h (suc j) y e)) in
      (λ i. first i ∷ rest i)

  -- and a last one
  ended : {X : Type 0} (f : X → Span) (p : Point) (k : ℕ) (xs : List X) (last : PlaceSite) → ((j : ℕ) (x : X) → slice_get xs j ≡ Some x → stage_span t q p.stage (record p { part = k + j }) ≡ Some (f x)) →
      site_here (record p { part = k + length xs }) ≡ last → map site_here (parts_from p k (length xs + 1)) ≡ map (λ x. here n (f x)) xs ++ last ∷ []
  ended f p k [] last h l =
      let k_is : k ≡ k + 0 = omega arith in
      ap (λ (s : PlaceSite). s ∷ []) (ap (λ (m : ℕ). site_here (record p { part = m })) k_is ∙ l)
  ended f p k (x ∷ xs) last h l =
      let more : suc (length xs) + 1 ≡ suc (length xs + 1) = omega arith in
      let k_is : k ≡ k + 0 = omega arith in
      let s : (k + 1) + length xs ≡ k + suc (length xs) = omega arith in
      let first : site_here (record p { part = k }) ≡ here n (f x) = spot (f x) (record p { part = k }) (ap (λ (m : ℕ). stage_span t q p.stage (record p { part = m })) k_is ∙ h 0 x refl) in
      let rest = ended f p (k + 1) xs last (λ j y e. (let s : (k + 1) + j ≡ k + suc j = omega arith in ap (λ (m : ℕ). stage_span t q p.stage (record p { part = m })) s ∙ h (suc j) y e))
      (ap (λ (m : ℕ). site_here (record p { part = m })) s ∙ l) in
      ap (λ (m : ℕ). map site_here (parts_from p k m)) more ∙ (λ i. first i ∷ rest i)

  -- the head of a loop
  head_places : (at : Span) (p : Point) (is : List TypedInvariant) → ((m : ℕ) → stage_span t q p.stage (record p { part = m }) ≡ option_or (option_map invariant_span (slice_get is m)) (Some at)) →
      map site_here (parts_from p 0 (length is + 1)) ≡ map (condition_site n) is ++ here n at ∷ []
  head_places at p is h =
      ended invariant_span p 0 is (here n at) (λ j i e. h (0 + j) ∙ ap (λ (o : Option Span). option_or o (Some at)) (at_zero is j i e))
      (spot at (record p { part = 0 + length is }) (h (0 + length is) ∙ ap (λ (o : Option Span). option_or o (Some at)) (past_all is)))

  mutual
    statement_places : (s : TypedStatement) (b : TypedBlock) (loop : Bool) (id at : ℕ) (under : List Todo) → map site_here (points_in t.procs s b loop id at under) ≡ statement_sites t.procs n s
    statement_places (Assert sp e) b loop id at under = alone sp (at_statement (Assert sp e) b loop id at under) refl
    statement_places (Assume sp e) b loop id at under = alone sp (at_statement (Assume sp e) b loop id at under) refl
    statement_places (Havoc sp cs) b loop id at under = many sp (at_statement (Havoc sp cs) b loop id at under) 0 (length cs) (λ j. refl)
    statement_places (Assign sp cs es) b loop id at under = alone sp (at_statement (Assign sp cs es) b loop id at under) refl
    statement_places (Call sp cs f es) b loop id at under = many sp (at_statement (Call sp cs f es) b loop id at under) 0 (checked_at_call (slice_get t.procs f) + 1) (λ j. refl)
    statement_places (If sp g x y) b loop id at under =
        let after : List Todo = past t.procs (If sp g x y) b loop id at ∷ under in
        let first = spot sp (at_statement (If sp g x y) b loop id at under) refl in
        let one = block_places x false id (at + 1) after in
        let two = block_places y false (id + block_assertions t.procs x) (at + 1 + block_points t.procs x) after in
        let both = map-append site_here (points_of t.procs x false id (at + 1) after) (points_of t.procs y false (id + block_assertions t.procs x) (at + 1 + block_points t.procs x) after) ∙ (λ i. one i ++ two i) in
        (λ i. first i ∷ both i)
    statement_places (While sp g is x) b loop id at under =
        let todo : Todo = record { rest = Then (While sp g is x) b; of_loop = loop; id = id; at = at } in
        let head = head_places sp (before (todo ∷ under)) is (λ m. refl) in
        let inside = block_places x true (id + plain_invariants is) (at + length is + 1) (todo ∷ under) in
        map-append site_here (parts_from (before (todo ∷ under)) 0 (length is + 1)) (points_of t.procs x true (id + plain_invariants is) (at + length is + 1) (todo ∷ under)) ∙ (λ i. head i ++ inside i)
    statement_places (Break sp k) b loop id at under = alone sp (at_statement (Break sp k) b loop id at under) refl
    statement_places (Goto sp ks) b loop id at under = alone sp (at_statement (Goto sp ks) b loop id at under) refl
    statement_places (Return sp) b loop id at under = alone sp (at_statement (Return sp) b loop id at under) refl
    statement_places (Label k) b loop id at under = refl

    block_places : (b : TypedBlock) (loop : Bool) (id at : ℕ) (under : List Todo) → map site_here (points_of t.procs b loop id at under) ≡ block_sites t.procs n b
    block_places Empty loop id at under = refl
    block_places (Then s b) loop id at under =
        let one = statement_places s b loop id at under in
        let two = block_places b loop (id + assertions t.procs s) (at + points t.procs s) under in
        map-append site_here (points_in t.procs s b loop id at under) (points_of t.procs b loop (id + assertions t.procs s) (at + points t.procs s) under) ∙ (λ i. one i ++ two i)

  body_places : (body : TypedBlock) → map site_here (points_of_body t n q body) ≡ body_sites t.procs n q (Some body)
  body_places body =
      let free = free_conditions q.specs in
      let said = ensured_conditions q.specs in
      let start : ℕ = first_place t n + length free in
      let all : Todo = record { rest = body; of_loop = false; id = first_assertion t.procs n; at = start } in
      let entry : Point = record { stage = Entry; todo = all ∷ []; part = 0 } in
      let last : PlaceSite = (n, None) in
      let one : map site_here (parts_from entry 0 (length free)) ≡ map (condition_site n) free = listed invariant_span entry 0 free (at_zero free) in
      let two = block_places body false (first_assertion t.procs n) start [] in
      let three : map site_here (parts_from at_exit 0 (length said + 1)) ≡ map (condition_site n) said ++ last ∷ [] =
      ended invariant_span at_exit 0 said last (at_zero said) (site_is (record at_exit { part = 0 + length said }) ∙ ap (λ (o : Option Span). (n, o)) (past_all said)) in
      let rest = map-append site_here (points_of t.procs body false (first_assertion t.procs n) start []) (parts_from at_exit 0 (length said + 1)) ∙ (λ i. two i ++ three i) in
      map-append site_here (parts_from entry 0 (length free)) (points_of t.procs body false (first_assertion t.procs n) start [] ++ parts_from at_exit 0 (length said + 1)) ∙ (λ i. one i ++ rest i)

  -- what is assumed at the start
  start_places : map site_here (start_points t q) ≡ map (axiom_site n) t.axioms ++ map (condition_site n) (plain_conditions q.specs)
  start_places =
      let axioms = t.axioms in
      let plain = plain_conditions q.specs in
      let p : Point = record { stage = Start; todo = []; part = 0 } in
      let many_conditions : length (start_conditions t q) ≡ length axioms + length plain =
      length-append axioms (map (λ (i : TypedInvariant). i.cond) plain) ∙ ap (λ (m : ℕ). length axioms + m) (length-map plain (λ (i : TypedInvariant). i.cond)) in
      let many_spans : length (start_spans t q) ≡ length axioms + length plain =
      length-append (map expression_span axioms) (map invariant_span plain) ∙ (λ i. length-map axioms expression_span i + length-map plain invariant_span i) in
      let spans = listed (λ (s : Span). s) p 0 (start_spans t q) (λ j s e. zero_more (slice_get (start_spans t q)) j ∙ e) in
      let parted : map (here n) (start_spans t q) ≡ map (axiom_site n) axioms ++ map (condition_site n) plain =
      map-append (here n) (map expression_span axioms) (map invariant_span plain) ∙ (λ i. map_twice (here n) expression_span axioms i ++ map_twice (here n) invariant_span plain i) in
      ap (λ (m : ℕ). map site_here (parts_from p 0 m)) (many_conditions ∙ sym many_spans) ∙ spans ∙ parted

-- ---- programs

located_sites : (t : TypedProgram) (n : ℕ) (ps : List Point) → map (site_of t) (located n ps) ≡ map (λ p. site_of t (record { proc = n; point = p })) ps
located_sites t n [] = refl
located_sites t n (p ∷ ps) = ap (λ (ss : List PlaceSite). site_of t (record { proc = n; point = p }) ∷ ss) (located_sites t n ps)

procedure_sites : (t : TypedProgram) (n : ℕ) (q : TypedProcedure) → slice_get t.procs n ≡ Some q → (o : Option TypedBlock) → map (site_of t) (located n (points_with t n q o)) ≡ body_sites t.procs n q o
procedure_sites t n q found None = refl
procedure_sites t n q found (Some b) = located_sites t n (points_of_body t n q b) ∙ body_places t n q found b

all_sites : (t : TypedProgram) (n : ℕ) (qs : List TypedProcedure) → ((j : ℕ) → slice_get t.procs (n + j) ≡ slice_get qs j) → map (site_of t) (places_from t n qs) ≡ sites_from t.procs n qs
all_sites t n [] h = refl
all_sites t n (q ∷ qs) h =
    let n_is : n ≡ n + 0 = omega arith in
    let found : slice_get t.procs n ≡ Some q = ap (slice_get t.procs) n_is ∙ h 0 in
    let one = procedure_sites t n q found q.body in
    let two = all_sites t (n + 1) qs (λ j. (let s : (n + 1) + j ≡ n + suc j = omega arith in ap (slice_get t.procs) s ∙ h (suc j))) in
    map-append (site_of t) (located n (points_with t n q q.body)) (places_from t (n + 1) qs) ∙ (λ i. one i ++ two i)

starts : (t : TypedProgram) (o : Option TypedProcedure) → slice_get t.procs t.entry ≡ o → map (site_of t) (located t.entry (starts_if_any t o)) ≡ start_sites t o
starts t None e = refl
starts t (Some q) e = located_sites t t.entry (start_points t q) ∙ start_places t t.entry q e

pub program_sites_are : (t : TypedProgram) → program_sites t ≡ place_sites t
program_sites_are t =
    let one = starts t (slice_get t.procs t.entry) refl in
    let two = all_sites t 0 t.procs (λ j. zero_more (slice_get t.procs) j) in
    sym (map-append (site_of t) (located t.entry (starts_if_any t (slice_get t.procs t.entry))) (places_from t 0 t.procs) ∙ (λ i. one i ++ two i))
