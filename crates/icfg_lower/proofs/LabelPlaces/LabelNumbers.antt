-- The places of the labels of a body, by numbers alone.
use Rattle.std.proofs.Common.{◌≡◌, ℕ, zero, suc, ◌+◌, ◌<◌, Bool, true, false, List, [], ◌∷◌, ◌++◌, map, length, nat_eq, slice_get, Option, None, Some, refl, ap, sym, ◌∙◌, arith, IsTrue, Contains}
use Rattle.std.specs.Prelude.{unwrap_or, if◌then◌else◌}
use Rattle.std.specs.Option.{option_or, option_map, option_and_then}
use Rattle.std.proofs.lemmas.List.{length-append}
use Rattle.std.proofs.lemmas.Option.{same_Some, slice_get_within, get_or_from_slice_get}
use Rattle.std.proofs.lemmas.Bool.{and_parts}
use Rattle.std.proofs.lemmas.Bool.Decides.{nat_tests}
use Rattle.typed_tree.specs.TypedTree.{TypedStatement, Assert, Assume, Havoc, Assign, Call, If, While, Break, Goto, Return, Label, TypedBlock, Empty, Then, TypedProcedure, TypedProgram}
use Rattle.typed_tree.specs.TypingRules.Counts.{assertions, points, block_assertions, block_points, plain_invariants}
use Rattle.typed_tree.specs.TypingRules.Shape.{statement_labels, block_labels, counts_from}
use Rattle.typed_tree.specs.TypingRules.ValidProgram.{is_valid}
use Rattle.typed_tree.proofs.TypingRules.ValidLaws as valid
use Rattle.boogie_run.specs.BoogiePoints.Points.{Todo, Point, at_exit, unless_ended, settled, past, found_in, found_block}
use Rattle.boogie_run.specs.BoogiePoints.Actions.{point_behind, free_conditions, first_assertion, first_place}
use Rattle.boogie_run.specs.BoogiePlaces.Places.{place_of, number_with, number_if_any}
use Rattle.lowered_graph.specs.Arcs.{place_number}
use Rattle.icfg_lower.specs.declared.program_layout.marks.Marks.{Marks}
use Rattle.icfg_lower.specs.ProgramLayout.Layouts.{marks_with, marks_of}
use Rattle.icfg_lower.specs.LabelPlaces.Labels.{label_place, labels_with, labels_if_any, label_numbers}
use Rattle.icfg_lower.specs.LabelPlaces.Ties.Ways.{place_of_rest, places_in, places_of}

-- ---- a label among others

-- what stands at the first place of number k in the first list
abbrev stands_at : ℕ → List ℕ → List ℕ → Option ℕ
stands_at k [] ns = None
stands_at k (l ∷ ls) [] = None
stands_at k (l ∷ ls) (n ∷ ns) = if nat_eq l k then Some n else stands_at k ls ns

stands-append : (k : ℕ) (ls ms ns os : List ℕ) → length ls ≡ length ns → stands_at k (ls ++ ms) (ns ++ os) ≡ option_or (stands_at k ls ns) (stands_at k ms os)
stands-append k [] ms [] os e = refl
stands-append k [] ms (n ∷ ns) os e = absurd (omega arith)
stands-append k (l ∷ ls) ms [] os e = absurd (omega arith)
stands-append k (l ∷ ls) ms (n ∷ ns) os e = by_test (nat_eq l k) (stands-append k ls ms ns os (omega arith))
  where
    by_test : (b : Bool) → stands_at k (ls ++ ms) (ns ++ os) ≡ option_or (stands_at k ls ns) (stands_at k ms os) →
        (if b then Some n else stands_at k (ls ++ ms) (ns ++ os)) ≡ option_or (if b then Some n else stands_at k ls ns) (stands_at k ms os)
    by_test true h = refl
    by_test false h = h

mutual
  as_many_in : (procs : List TypedProcedure) (s : TypedStatement) (at next : ℕ) → length (statement_labels s) ≡ length (places_in procs s at next)
  as_many_in procs (If span g x y) at next =
      let second : ℕ = at + 1 + block_points procs x in
      length-append (block_labels x) (block_labels y) ∙ ap (λ (m : ℕ). m + length (block_labels y)) (as_many procs x (at + 1) next)
      ∙ ap (λ (m : ℕ). length (places_of procs x (at + 1) next) + m) (as_many procs y second next)
      ∙ sym (length-append (places_of procs x (at + 1) next) (places_of procs y second next))
  as_many_in procs (While span g is x) at next = as_many procs x (at + length is + 1) at
  as_many_in procs (Label n) at next = refl
  as_many_in procs (Assert span e) at next = refl
  as_many_in procs (Assume span e) at next = refl
  as_many_in procs (Havoc span cs) at next = refl
  as_many_in procs (Assign span cs es) at next = refl
  as_many_in procs (Call span cs f es) at next = refl
  as_many_in procs (Break span k) at next = refl
  as_many_in procs (Goto span ks) at next = refl
  as_many_in procs (Return span) at next = refl

  as_many : (procs : List TypedProcedure) (b : TypedBlock) (at after : ℕ) → length (block_labels b) ≡ length (places_of procs b at after)
  as_many procs Empty at after = refl
  as_many procs (Then s b) at after =
      let next : ℕ = place_of_rest b (at + points procs s) after in
      length-append (statement_labels s) (block_labels b) ∙ ap (λ (m : ℕ). m + length (block_labels b)) (as_many_in procs s at next)
      ∙ ap (λ (m : ℕ). length (places_in procs s at next) + m) (as_many procs b (at + points procs s) after)
      ∙ sym (length-append (places_in procs s at next) (places_of procs b (at + points procs s) after))

-- ---- the place of a label that is found

map-or : {X Y : Type 0} (f : X → Y) (o p : Option X) → option_map f (option_or o p) ≡ option_or (option_map f o) (option_map f p)
map-or f None p = refl
map-or f (Some x) p = refl

module _ (t : TypedProgram) (n : ℕ) (q : TypedProcedure) (w : TypedBlock) where
  abbrev number : Point → ℕ
  number p = place_of t n q w p

  abbrev number_found : Option (List Todo) → Option ℕ
  number_found o = option_map (λ u. number (settled u)) o

  rest_number : (b : TypedBlock) (loop : Bool) (id at : ℕ) (u : List Todo) (after : Point) → number (unless_ended b loop id at u after) ≡ place_of_rest b at (number after)
  rest_number Empty loop id at u after = refl
  rest_number (Then (Label m) b) loop id at u after = rest_number b loop id at u after
  rest_number (Then (Assert span e) b) loop id at u after = omega arith
  rest_number (Then (Assume span e) b) loop id at u after = omega arith
  rest_number (Then (Havoc span cs) b) loop id at u after = omega arith
  rest_number (Then (Assign span cs es) b) loop id at u after = omega arith
  rest_number (Then (Call span cs f es) b) loop id at u after = omega arith
  rest_number (Then (If span g x y) b) loop id at u after = omega arith
  rest_number (Then (While span g is x) b) loop id at u after = omega arith
  rest_number (Then (Break span k) b) loop id at u after = omega arith
  rest_number (Then (Goto span ks) b) loop id at u after = omega arith
  rest_number (Then (Return span) b) loop id at u after = omega arith

  -- a label itself
  at_label : (k m : ℕ) (b : TypedBlock) (loop : Bool) (id at : ℕ) (u : List Todo) (test : Bool) →
      number_found (if test then Some (record { rest = b; of_loop = loop; id = id; at = at } ∷ u) else None)
      ≡ (if test then Some (number (settled (past t.procs (Label m) b loop id at ∷ u))) else None)
  at_label k m b loop id at u true =
      let same : number (unless_ended b loop id at u (settled u)) ≡ number (unless_ended b loop (id + 0) (at + 0) u (settled u)) =
      rest_number b loop id at u (settled u) ∙ ap (λ (i : ℕ). place_of_rest b i (number (settled u))) (omega arith) ∙ sym (rest_number b loop (id + 0) (at + 0) u (settled u)) in
      ap (λ (i : ℕ). Some i) same
  at_label k m b loop id at u false = refl

  mutual
    in_statement : (k : ℕ) (s : TypedStatement) (b : TypedBlock) (loop : Bool) (id at : ℕ) (u : List Todo) →
        number_found (found_in t.procs k s b loop id at u) ≡ stands_at k (statement_labels s) (places_in t.procs s at (number (settled (past t.procs s b loop id at ∷ u))))
    in_statement k (Label m) b loop id at u = at_label k m b loop id at u (nat_eq m k)
    in_statement k (If span g x y) b loop id at u =
        let under : List Todo = past t.procs (If span g x y) b loop id at ∷ u in
        let next : ℕ = number (settled under) in
        let second : ℕ = at + 1 + block_points t.procs x in
        map-or (λ v. number (settled v)) (found_block t.procs k x false id (at + 1) under) (found_block t.procs k y false (id + block_assertions t.procs x) second under)
        ∙ ap (λ (o : Option ℕ). option_or o (number_found (found_block t.procs k y false (id + block_assertions t.procs x) second under))) (in_block k x false id (at + 1) under)
        ∙ ap (λ (o : Option ℕ). option_or (stands_at k (block_labels x) (places_of t.procs x (at + 1) next)) o) (in_block k y false (id + block_assertions t.procs x) second under)
        ∙ sym (stands-append k (block_labels x) (block_labels y) (places_of t.procs x (at + 1) next) (places_of t.procs y second next) (as_many t.procs x (at + 1) next))
    in_statement k (While span g is x) b loop id at u =
        let here : Todo = record { rest = Then (While span g is x) b; of_loop = loop; id = id; at = at } in
        in_block k x true (id + plain_invariants is) (at + length is + 1) (here ∷ u)
        ∙ ap (λ (i : ℕ). stands_at k (block_labels x) (places_of t.procs x (at + length is + 1) i)) (omega arith)
    in_statement k (Assert span e) b loop id at u = refl
    in_statement k (Assume span e) b loop id at u = refl
    in_statement k (Havoc span cs) b loop id at u = refl
    in_statement k (Assign span cs es) b loop id at u = refl
    in_statement k (Call span cs f es) b loop id at u = refl
    in_statement k (Break span m) b loop id at u = refl
    in_statement k (Goto span ks) b loop id at u = refl
    in_statement k (Return span) b loop id at u = refl

    in_block : (k : ℕ) (b : TypedBlock) (loop : Bool) (id at : ℕ) (u : List Todo) →
        number_found (found_block t.procs k b loop id at u) ≡ stands_at k (block_labels b) (places_of t.procs b at (number (settled u)))
    in_block k Empty loop id at u = refl
    in_block k (Then s b) loop id at u =
        let behind : ℕ = at + points t.procs s in
        let after : ℕ = number (settled u) in
        let next : ℕ = place_of_rest b behind after in
        let more : Option (List Todo) = found_block t.procs k b loop (id + assertions t.procs s) behind u in
        map-or (λ v. number (settled v)) (found_in t.procs k s b loop id at u) more
        ∙ ap (λ (o : Option ℕ). option_or o (number_found more)) (in_statement k s b loop id at u)
        ∙ ap (λ (i : ℕ). option_or (stands_at k (statement_labels s) (places_in t.procs s at i)) (number_found more)) (rest_number b loop (id + assertions t.procs s) behind u (settled u))
        ∙ ap (λ (o : Option ℕ). option_or (stands_at k (statement_labels s) (places_in t.procs s at next)) o) (in_block k b loop (id + assertions t.procs s) behind u)
        ∙ sym (stands-append k (statement_labels s) (block_labels b) (places_in t.procs s at next) (places_of t.procs b behind after) (as_many_in t.procs s at next))

-- ---- labels that count

number_is : (a b : ℕ) → nat_eq a b ≡ true → a ≡ b
number_is a b e = grind (arith, nat_tests)

same_number : (a b : ℕ) → a ≡ b → nat_eq a b ≡ true
same_number a b e = grind (arith, nat_tests)

other_number : (a b : ℕ) → a < b → nat_eq a b ≡ false
other_number a b l = grind (arith, nat_tests)

counted_stand : (m k : ℕ) (ls ns : List ℕ) → counts_from m ls ≡ true → length ls ≡ length ns → stands_at (m + k) ls ns ≡ slice_get ns k
counted_stand m k [] [] c e = refl
counted_stand m k [] (n ∷ ns) c e = absurd (omega arith)
counted_stand m k (l ∷ ls) [] c e = absurd (omega arith)
counted_stand m zero (l ∷ ls) (n ∷ ns) c e =
    let first : m ≡ l = number_is m l (and_parts (nat_eq m l) (counts_from (m + 1) ls) c).0 in
    ap (λ (b : Bool). if b then Some n else stands_at (m + 0) ls ns) (same_number l (m + 0) (omega arith))
counted_stand m (suc k) (l ∷ ls) (n ∷ ns) c e =
    let parts = and_parts (nat_eq m l) (counts_from (m + 1) ls) c in
    let first : m ≡ l = number_is m l parts.0 in
    ap (λ (b : Bool). if b then Some n else stands_at (m + suc k) ls ns) (other_number l (m + suc k) (omega arith))
    ∙ ap (λ (i : ℕ). stands_at i ls ns) (omega arith) ∙ counted_stand (m + 1) k ls ns parts.1 (omega arith)

told_by : (f : ℕ → ℕ) (d m : ℕ) (ls ns : List ℕ) → counts_from m ls ≡ true → length ls ≡ length ns → ((k : ℕ) → unwrap_or (slice_get ns k) d ≡ f (m + k)) → ns ≡ map f ls
told_by f d m [] [] c e h = refl
told_by f d m [] (n ∷ ns) c e h = absurd (omega arith)
told_by f d m (l ∷ ls) [] c e h = absurd (omega arith)
told_by f d m (l ∷ ls) (n ∷ ns) c e h =
    let parts = and_parts (nat_eq m l) (counts_from (m + 1) ls) c in
    let first : m ≡ l = number_is m l parts.0 in
    let here : n ≡ f l = h 0 ∙ ap f (omega arith) in
    let more : ns ≡ map f ls = told_by f d (m + 1) ls ns parts.1 (omega arith) (λ k. let i : m + suc k ≡ m + 1 + k = omega arith in h (suc k) ∙ ap f i) in
    ap (λ (i : ℕ). i ∷ ns) here ∙ ap (λ (is : List ℕ). f l ∷ is) more

-- ---- the labels of a procedure

contained : {X : Type 0} (xs : List X) (n : ℕ) (x : X) → slice_get xs n ≡ Some x → Contains xs x
contained xs n x e = (n, slice_get_within xs n x e, get_or_from_slice_get xs n x x e)

module _ (t : TypedProgram) (n : ℕ) (q : TypedProcedure) (b : TypedBlock) (is : slice_get t.procs n ≡ Some q) (has : q.body ≡ Some b) where
  number_here : (p : Point) → place_number t n p ≡ place_of t n q b p
  number_here p = ap (λ (o : Option TypedProcedure). number_if_any t n o p) is ∙ ap (λ (o : Option TypedBlock). number_with t n q o p) has

  way_number : (o : Option (List Todo)) → place_number t n (point_behind o) ≡ unwrap_or (option_map (λ u. place_of t n q b (settled u)) o) (place_of t n q b at_exit)
  way_number None = number_here at_exit
  way_number (Some u) = number_here (settled u)

  abbrev numbers : List ℕ
  numbers = places_of t.procs b (first_place t n + length (free_conditions q.specs)) (place_of t n q b at_exit)

  module _ (v : IsTrue (is_valid t)) where
    labels_count : counts_from 0 (block_labels b) ≡ true
    labels_count = valid.labels t q b v (contained t.procs n q is) has

    told : (k : ℕ) → unwrap_or (slice_get numbers k) (place_of t n q b at_exit) ≡ label_place t n q b k
    told k =
        let at : ℕ = first_place t n + length (free_conditions q.specs) in
        let zero_first : 0 + k ≡ k = omega arith in
        let found : option_map (λ u. place_of t n q b (settled u)) (found_block t.procs k b false (first_assertion t.procs n) at []) ≡ slice_get numbers k =
        in_block t n q b k b false (first_assertion t.procs n) at []
        ∙ ap (λ (i : ℕ). stands_at i (block_labels b) numbers) (sym zero_first)
        ∙ counted_stand 0 k (block_labels b) numbers labels_count (as_many t.procs b at (place_of t n q b at_exit)) in
        ap (λ (o : Option ℕ). unwrap_or o (place_of t n q b at_exit)) (sym found) ∙ sym (way_number (found_block t.procs k b false (first_assertion t.procs n) at []))

    numbers_are : numbers ≡ map (label_place t n q b) (block_labels b)
    numbers_are =
        told_by (label_place t n q b) (place_of t n q b at_exit) 0 (block_labels b) numbers labels_count
        (as_many t.procs b (first_place t n + length (free_conditions q.specs)) (place_of t n q b at_exit))
        (λ k. let zero_first : k ≡ 0 + k = omega arith in told k ∙ ap (label_place t n q b) zero_first)

    labels_are : label_numbers t n ≡ map (label_place t n q b) (block_labels b)
    labels_are = ap (λ (o : Option TypedProcedure). labels_if_any t n o) is ∙ ap (λ (o : Option TypedBlock). labels_with t n q o) has

-- the places of the labels, with the body's first place and the one behind its statements
pub labels_placed : (t : TypedProgram) (n : ℕ) (q : TypedProcedure) (b : TypedBlock) (at exit : ℕ) → IsTrue (is_valid t) → slice_get t.procs n ≡ Some q → q.body ≡ Some b →
    at ≡ first_place t n + length (free_conditions q.specs) → exit ≡ at + block_points t.procs b → places_of t.procs b at exit ≡ label_numbers t n
labels_placed t n q b at exit v is has a e =
    let behind : exit ≡ place_of t n q b at_exit = omega arith in
    ap (λ (i : ℕ). places_of t.procs b i exit) a ∙ ap (λ (i : ℕ). places_of t.procs b (first_place t n + length (free_conditions q.specs)) i) behind
    ∙ numbers_are t n q b is has v ∙ sym (labels_are t n q b is has v)

-- the way to a label, from the list of all of them
pub label_told : (t : TypedProgram) (n k : ℕ) (q : TypedProcedure) (b : TypedBlock) → IsTrue (is_valid t) → slice_get t.procs n ≡ Some q → q.body ≡ Some b →
    unwrap_or (slice_get (label_numbers t n) k) (place_number t n at_exit)
    ≡ place_number t n (point_behind (found_block t.procs k b false (first_assertion t.procs n) (first_place t n + length (free_conditions q.specs)) []))
label_told t n k q b v is has =
    ap (λ (ns : List ℕ). unwrap_or (slice_get ns k) (place_number t n at_exit)) (labels_are t n q b is has v ∙ sym (numbers_are t n q b is has v))
    ∙ ap (λ (i : ℕ). unwrap_or (slice_get (numbers t n q b is has) k) i) (number_here t n q b is has at_exit) ∙ told t n q b is has v k

-- ---- by the body of a procedure, if any

abbrev pub body_if_any : TypedProgram → ℕ → Option TypedBlock
body_if_any t n = option_and_then (λ q. q.body) (slice_get t.procs n)

record HasBody (t : TypedProgram) (n : ℕ) (b : TypedBlock) : Type 0 where
  procedure : TypedProcedure
  is : slice_get t.procs n ≡ Some procedure
  has : procedure.body ≡ Some b

has_body : (t : TypedProgram) (n : ℕ) (b : TypedBlock) (o : Option TypedProcedure) → slice_get t.procs n ≡ o → option_and_then (λ q. q.body) o ≡ Some b → HasBody t n b
has_body t n b None e h = absurd (cc)
has_body t n b (Some q) e h = record { procedure = q; is = e; has = h }

-- with a body, by the numbers of the procedure
pub with_marks : (t : TypedProgram) (n : ℕ) (b : TypedBlock) (m : Marks) → IsTrue (is_valid t) → body_if_any t n ≡ Some b → option_map (λ r. marks_of t (n, r)) (slice_get t.procs n) ≡ Some m →
    (m.exit ≡ m.body + block_points t.procs b) × (places_of t.procs b m.body m.exit ≡ label_numbers t n)
with_marks t n b m v h e =
    let k = has_body t n b (slice_get t.procs n) refl h in
    let q : TypedProcedure = k.procedure in
    let same : m ≡ marks_with t.procs q (first_assertion t.procs n) (first_place t n) (Some b) =
    same_Some m (marks_with t.procs q (first_assertion t.procs n) (first_place t n) (Some b))
    (sym e ∙ ap (λ (o : Option TypedProcedure). option_map (λ r. marks_of t (n, r)) o) k.is ∙ ap (λ (o : Option TypedBlock). Some (marks_with t.procs q (first_assertion t.procs n) (first_place t n) o)) k.has) in
    let body : m.body ≡ first_place t n + length (free_conditions q.specs) = ap (λ (x : Marks). x.body) same in
    let exit : m.exit ≡ first_place t n + length (free_conditions q.specs) + block_points t.procs b = ap (λ (x : Marks). x.exit) same in
    let behind : m.exit ≡ m.body + block_points t.procs b = omega arith in
    (behind, labels_placed t n q b m.body m.exit v k.is k.has body behind)
