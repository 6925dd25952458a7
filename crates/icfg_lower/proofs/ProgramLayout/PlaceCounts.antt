-- How many places a program has.
use Rattle.std.proofs.Common.{◌≡◌, ℕ, zero, suc, ◌+◌, Bool, true, false, List, [], ◌∷◌, ◌++◌, map, length, Option, None, Some, slice_get, refl, ap, ◌∙◌, arith, IsTrue}
use Rattle.std.proofs.lemmas.List.{length-append, length-map}
use Rattle.typed_tree.specs.TypedTree.{TypedStatement, Assert, Assume, Havoc, Assign, Call, If, While, Break, Goto, Return, Label, TypedBlock, Empty, Then, TypedProcedure, TypedProgram}
use Rattle.typed_tree.specs.TypingRules.ValidProgram.{is_valid}
use Rattle.typed_tree.specs.TypingRules.Counts.{plain_invariants, plain_requires, checked_at_call, assertions, points, block_assertions, block_points, body_points}
use Rattle.typed_tree.proofs.TypingRules.ValidLaws as valid
use Rattle.boogie_run.specs.BoogiePoints.Points.{Todo, Start, Entry, Point, at_exit, before, past}
use Rattle.boogie_run.specs.BoogiePoints.Actions.{free_conditions, ensured_conditions, start_conditions, first_assertion, first_place, assertions_before, points_before}
use Rattle.boogie_run.proofs.BoogiePoints.ConditionLaws.{plain_requires_counted, free_requires_counted}
use Rattle.boogie_run.specs.BoogiePlaces.Places.{parts_from, at_statement, points_in, points_of, points_of_body, start_points, count_from, Place, located, points_with, places_from, starts_if_any, program_places}
use Rattle.lowered_graph.specs.Arcs.{first_error}
use Rattle.lowered_graph.specs.Lowered.{program_sites}
use Rattle.lowered_graph.proofs.SiteNumbers.{number_of_site, assertions_of_all, sites_counted}
use Rattle.icfg_lower.proofs.ProgramLayout.CountLaws.{ensured_counted}

parts_length : (p : Point) (k n : ℕ) → length (parts_from p k n) ≡ n
parts_length p k zero = refl
parts_length p k (suc n) = ap suc (parts_length p (k + 1) n)

both_lengths : {X : Type 0} (xs ys : List X) (m n : ℕ) → length xs ≡ m → length ys ≡ n → length (xs ++ ys) ≡ m + n
both_lengths xs ys m n e f = length-append xs ys ∙ omega arith

mutual
  points_length : (procs : List TypedProcedure) (s : TypedStatement) (b : TypedBlock) (loop : Bool) (id at : ℕ) (under : List Todo) → length (points_in procs s b loop id at under) ≡ points procs s
  points_length procs (Assert span e) b loop id at under = refl
  points_length procs (Assume span e) b loop id at under = refl
  points_length procs (Havoc span cs) b loop id at under = parts_length (at_statement (Havoc span cs) b loop id at under) 0 (length cs)
  points_length procs (Assign span cs es) b loop id at under = refl
  points_length procs (Call span cs f es) b loop id at under = parts_length (at_statement (Call span cs f es) b loop id at under) 0 (checked_at_call (slice_get procs f) + 1)
  points_length procs (If span g x y) b loop id at under =
      let after : List Todo = past procs (If span g x y) b loop id at ∷ under in
      let then_points : List Point = points_of procs x false id (at + 1) after in
      let else_points : List Point = points_of procs y false (id + block_assertions procs x) (at + 1 + block_points procs x) after in
      let both : length (then_points ++ else_points) ≡ block_points procs x + block_points procs y =
      both_lengths then_points else_points (block_points procs x) (block_points procs y) (block_length procs x false id (at + 1) after)
      (block_length procs y false (id + block_assertions procs x) (at + 1 + block_points procs x) after) in
      omega arith
  points_length procs (While span g is x) b loop id at under =
      let here : Todo = record { rest = Then (While span g is x) b; of_loop = loop; id = id; at = at } in
      let inner : List Point = points_of procs x true (id + plain_invariants is) (at + length is + 1) (here ∷ under) in
      let both : length (parts_from (before (here ∷ under)) 0 (length is + 1) ++ inner) ≡ (length is + 1) + block_points procs x =
      both_lengths (parts_from (before (here ∷ under)) 0 (length is + 1)) inner (length is + 1) (block_points procs x) (parts_length (before (here ∷ under)) 0 (length is + 1))
      (block_length procs x true (id + plain_invariants is) (at + length is + 1) (here ∷ under)) in
      omega arith
  points_length procs (Break span k) b loop id at under = refl
  points_length procs (Goto span ks) b loop id at under = refl
  points_length procs (Return span) b loop id at under = refl
  points_length procs (Label k) b loop id at under = refl

  block_length : (procs : List TypedProcedure) (b : TypedBlock) (loop : Bool) (id at : ℕ) (under : List Todo) → length (points_of procs b loop id at under) ≡ block_points procs b
  block_length procs Empty loop id at under = refl
  block_length procs (Then s b) loop id at under =
      both_lengths (points_in procs s b loop id at under) (points_of procs b loop (id + assertions procs s) (at + points procs s) under) (points procs s) (block_points procs b)
      (points_length procs s b loop id at under) (block_length procs b loop (id + assertions procs s) (at + points procs s) under)

body_length : (t : TypedProgram) (n : ℕ) (q : TypedProcedure) (b : TypedBlock) → length (points_of_body t n q b) ≡ body_points t.procs q.specs (Some b)
body_length t n q b =
    let free : ℕ = length (free_conditions q.specs) in
    let first : ℕ = first_assertion t.procs n in
    let whole : Todo = record { rest = b; of_loop = false; id = first; at = first_place t n + free } in
    let entry : Point = record { stage = Entry; todo = whole ∷ []; part = 0 } in
    let inner : List Point = points_of t.procs b false first (first_place t n + free) [] in
    let exits : List Point = parts_from at_exit 0 (length (ensured_conditions q.specs) + 1) in
    let behind : length (inner ++ exits) ≡ block_points t.procs b + (length (ensured_conditions q.specs) + 1) =
    both_lengths inner exits (block_points t.procs b) (length (ensured_conditions q.specs) + 1) (block_length t.procs b false first (first_place t n + free) []) (parts_length at_exit 0 (length (ensured_conditions q.specs) + 1)) in
    let all : length (parts_from entry 0 free ++ (inner ++ exits)) ≡ free + (block_points t.procs b + (length (ensured_conditions q.specs) + 1)) =
    both_lengths (parts_from entry 0 free) (inner ++ exits) free (block_points t.procs b + (length (ensured_conditions q.specs) + 1)) (parts_length entry 0 free) behind in
    omega (arith, free_requires_counted q.specs, ensured_counted q.specs)

located_length : (n : ℕ) (ps : List Point) → length (located n ps) ≡ length ps
located_length n [] = refl
located_length n (p ∷ ps) = ap suc (located_length n ps)

with_length : (t : TypedProgram) (n : ℕ) (q : TypedProcedure) (o : Option TypedBlock) → length (located n (points_with t n q o)) ≡ body_points t.procs q.specs o
with_length t n q None = refl
with_length t n q (Some b) = located_length n (points_of_body t n q b) ∙ body_length t n q b

from_length : (t : TypedProgram) (n : ℕ) (qs : List TypedProcedure) → length (places_from t n qs) ≡ points_before t.procs qs (length qs)
from_length t n [] = refl
from_length t n (q ∷ qs) =
    both_lengths (located n (points_with t n q q.body)) (places_from t (n + 1) qs) (body_points t.procs q.specs q.body) (points_before t.procs qs (length qs))
    (with_length t n q q.body) (from_length t (n + 1) qs)

starts_length : (t : TypedProgram) (q : TypedProcedure) → length (located t.entry (start_points t q)) ≡ length t.axioms + plain_requires q.specs
starts_length t q =
    let point : Point = record { stage = Start; todo = []; part = 0 } in
    let count : length (start_conditions t q) ≡ length t.axioms + plain_requires q.specs = simp (length-append, length-map) (omega (arith, plain_requires_counted q.specs)) in
    located_length t.entry (start_points t q) ∙ parts_length point 0 (length (start_conditions t q)) ∙ count

-- the errors come behind the places of all procedures
pub errors_behind : (t : TypedProgram) → IsTrue (is_valid t) → first_error t ≡ first_place t (length t.procs)
errors_behind t v =
    let entry = valid.entry t v in
    let q : TypedProcedure = entry.0 in
    let starts : List Place = located t.entry (starts_if_any t (slice_get t.procs t.entry)) in
    let of_starts : length starts ≡ length t.axioms + plain_requires q.specs = ap (λ (o : Option TypedProcedure). length (located t.entry (starts_if_any t o))) entry.2 ∙ starts_length t q in
    let checked : checked_at_call (slice_get t.procs t.entry) ≡ plain_requires q.specs = ap checked_at_call entry.2 in
    let all : length (program_places t) ≡ (length t.axioms + plain_requires q.specs) + points_before t.procs t.procs (length t.procs) =
    both_lengths starts (places_from t 0 t.procs) (length t.axioms + plain_requires q.specs) (points_before t.procs t.procs (length t.procs)) of_starts (from_length t 0 t.procs) in
    omega arith

-- ---- assertions

length_of : {X : Type 0} (f : X → ℕ) (xs : List X) (n k : ℕ) → map f xs ≡ count_from n k → length xs ≡ k
length_of f [] n zero e = refl
length_of f [] n (suc k) e = cc
length_of f (x ∷ xs) n zero e = cc
length_of f (x ∷ xs) n (suc k) e =
    let rest : map f xs ≡ count_from (n + 1) k = cc in
    ap suc (length_of f xs (n + 1) k rest)

all_before : (procs ps : List TypedProcedure) → assertions_of_all procs ps ≡ assertions_before procs ps (length ps)
all_before procs [] = refl
all_before procs (p ∷ ps) = omega (arith, all_before procs ps)

pub sites_behind : (t : TypedProgram) → IsTrue (is_valid t) → 1 + length (program_sites t) ≡ first_assertion t.procs (length t.procs)
sites_behind t v = omega (arith, length_of number_of_site (program_sites t) 1 (assertions_of_all t.procs t.procs) (sites_counted t v), all_before t.procs t.procs)
