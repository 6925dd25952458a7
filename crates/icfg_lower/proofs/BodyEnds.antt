-- Where the bodies of procedures begin and return.
use Rattle.std.proofs.Common.{◌≡◌, ◌∙◌, ℕ, zero, suc, ◌+◌, ◌<◌, Bool, false, List, [], ◌∷◌, ◌++◌, map, length, drop, Option, None, Some, slice_get, refl, sym, ap, arith, append_assoc}
use Rattle.std.specs.Option.{option_map, option_and_then}
use Rattle.typed_tree.specs.TypedTree.{Assert, Assume, Havoc, Assign, Call, If, While, Break, Goto, Return, Label, TypedInvariant, TypedBlock, Empty, Then, TypedProcedure, TypedProgram}
use Rattle.typed_tree.specs.TypingRules.Counts.{block_points}
use Rattle.boogie_run.specs.BoogiePoints.Points.{Todo, Point, at_exit, unless_ended}
use Rattle.boogie_run.specs.BoogiePoints.Actions.{entry_point, free_conditions, ensured_conditions, first_assertion, first_place}
use Rattle.boogie_run.specs.BoogiePoints.Starts.{point_of_procedure, point_of_call}
use Rattle.boogie_run.specs.BoogiePlaces.Places.{place_of, number_with, number_if_any}
use Rattle.lowered_graph.specs.Arcs.{place_number, return_point, return_place}
use Rattle.lowered_graph.specs.Lowered.{counted_procs, entry_of, exit_of}
use Rattle.icfg_lower.specs.declared.program_layout.marks.Marks.{Marks}
use Rattle.icfg_lower.specs.ProgramLayout.Layouts.{marks_with, marks_of}
use Rattle.icfg_lower.specs.Ties.Bodies.{body_marks}
use Rattle.icfg_lower.proofs.PlaceOwners.{drop_at}

number_here : (t : TypedProgram) (n : ℕ) (q : TypedProcedure) (b : TypedBlock) (p : Point) → slice_get t.procs n ≡ Some q → q.body ≡ Some b → place_number t n p ≡ place_of t n q b p
number_here t n q b p e k = ap (λ (o : Option TypedProcedure). number_if_any t n o p) e ∙ ap (λ (o : Option TypedBlock). number_with t n q o p) k

-- Labels have no places: what is left of a block begins at its first place, or at the one behind it, which is then the same.
rest_begins : (t : TypedProgram) (n : ℕ) (q : TypedProcedure) (w : TypedBlock) (b : TypedBlock) (loop : Bool) (id at : ℕ) (u : List Todo) (after : Point) →
    place_of t n q w after ≡ at + block_points t.procs b → place_of t n q w (unless_ended b loop id at u after) ≡ at
rest_begins t n q w Empty loop id at u after e = omega arith
rest_begins t n q w (Then (Label m) b) loop id at u after e = rest_begins t n q w b loop id at u after (omega arith)
rest_begins t n q w (Then (Assert span x) b) loop id at u after e = omega arith
rest_begins t n q w (Then (Assume span x) b) loop id at u after e = omega arith
rest_begins t n q w (Then (Havoc span cs) b) loop id at u after e = omega arith
rest_begins t n q w (Then (Assign span cs es) b) loop id at u after e = omega arith
rest_begins t n q w (Then (Call span cs f es) b) loop id at u after e = omega arith
rest_begins t n q w (Then (If span g x y) b) loop id at u after e = omega arith
rest_begins t n q w (Then (While span g is x) b) loop id at u after e = omega arith
rest_begins t n q w (Then (Break span k) b) loop id at u after e = omega arith
rest_begins t n q w (Then (Goto span ks) b) loop id at u after e = omega arith
rest_begins t n q w (Then (Return span) b) loop id at u after e = omega arith

entry_begins : (t : TypedProgram) (n : ℕ) (q : TypedProcedure) (b : TypedBlock) (id at : ℕ) (is : List TypedInvariant) → length is ≡ length (free_conditions q.specs) → at ≡ first_place t n + length is →
    place_of t n q b (entry_point is (record { rest = b; of_loop = false; id = id; at = at })) ≡ first_place t n
entry_begins t n q b id at [] l e =
    let h : place_of t n q b at_exit ≡ at + block_points t.procs b = omega arith in
    rest_begins t n q b b false id at [] at_exit h ∙ omega arith
entry_begins t n q b id at (i ∷ is) l e = omega arith

-- a body begins at the first place of its procedure
begins_at : (t : TypedProgram) (n : ℕ) (q : TypedProcedure) (b : TypedBlock) → slice_get t.procs n ≡ Some q → q.body ≡ Some b →
    place_number t n (point_of_call t n (Some q)) ≡ first_place t n
begins_at t n q b e k =
    let free : ℕ = length (free_conditions q.specs) in
    number_here t n q b (point_of_call t n (Some q)) e k ∙ ap (λ (o : Option TypedBlock). place_of t n q b (point_of_procedure t n q o)) k
    ∙ entry_begins t n q b (first_assertion t.procs n) (first_place t n + free) (free_conditions q.specs) refl refl

-- and returns behind its ensures
returns_at : (t : TypedProgram) (n : ℕ) (q : TypedProcedure) (b : TypedBlock) → slice_get t.procs n ≡ Some q → q.body ≡ Some b →
    return_place t n ≡ first_place t n + length (free_conditions q.specs) + block_points t.procs b + length (ensured_conditions q.specs)
returns_at t n q b e k =
    ap (λ (o : Option TypedProcedure). place_number t n (return_point o)) e ∙ number_here t n q b (return_point (Some q)) e k

-- ---- of each procedure

marks_entry : (t : TypedProgram) (n : ℕ) (q : TypedProcedure) (b : TypedBlock) → q.body ≡ Some b → (marks_of t (n, q)).entry ≡ first_place t n
marks_entry t n q b k = ap (λ (o : Option TypedBlock). (marks_with t.procs q (first_assertion t.procs n) (first_place t n) o).entry) k

marks_returns : (t : TypedProgram) (n : ℕ) (q : TypedProcedure) (b : TypedBlock) → q.body ≡ Some b →
    (marks_of t (n, q)).returns ≡ first_place t n + length (free_conditions q.specs) + block_points t.procs b + length (ensured_conditions q.specs)
marks_returns t n q b k = ap (λ (o : Option TypedBlock). (marks_with t.procs q (first_assertion t.procs n) (first_place t n) o).returns) k

entry_with : (t : TypedProgram) (n : ℕ) (q : TypedProcedure) (o : Option TypedBlock) → slice_get t.procs n ≡ Some q → q.body ≡ o →
    option_map (λ (b : TypedBlock). place_number t n (point_of_call t n (Some q))) o ≡ option_map (λ (m : Marks). m.entry) (option_map (λ (b : TypedBlock). marks_of t (n, q)) o)
entry_with t n q None e k = refl
entry_with t n q (Some b) e k = ap (λ (i : ℕ). Some i) (begins_at t n q b e k ∙ sym (marks_entry t n q b k))

exit_with : (t : TypedProgram) (n : ℕ) (q : TypedProcedure) (o : Option TypedBlock) → slice_get t.procs n ≡ Some q → q.body ≡ o →
    option_map (λ (b : TypedBlock). return_place t n) o ≡ option_map (λ (m : Marks). m.returns) (option_map (λ (b : TypedBlock). marks_of t (n, q)) o)
exit_with t n q None e k = refl
exit_with t n q (Some b) e k = ap (λ (i : ℕ). Some i) (returns_at t n q b e k ∙ sym (marks_returns t n q b k))

marks_here : (t : TypedProgram) (n : ℕ) (q : TypedProcedure) → slice_get t.procs n ≡ Some q → body_marks t n ≡ option_map (λ b. marks_of t (n, q)) q.body
marks_here t n q e = ap (λ (o : Option TypedProcedure). option_and_then (λ r. option_map (λ b. marks_of t (n, r)) r.body) o) e

entry_marked : (t : TypedProgram) (n : ℕ) (q : TypedProcedure) → slice_get t.procs n ≡ Some q → entry_of t (n, q) ≡ option_map (λ m. m.entry) (body_marks t n)
entry_marked t n q e = entry_with t n q q.body e refl ∙ ap (λ (o : Option Marks). option_map (λ (m : Marks). m.entry) o) (sym (marks_here t n q e))

exit_marked : (t : TypedProgram) (n : ℕ) (q : TypedProcedure) → slice_get t.procs n ≡ Some q → exit_of t (n, q) ≡ option_map (λ m. m.returns) (body_marks t n)
exit_marked t n q e = exit_with t n q q.body e refl ∙ ap (λ (o : Option Marks). option_map (λ (m : Marks). m.returns) o) (sym (marks_here t n q e))

-- ---- one procedure more

-- the procedures with their numbers, from number n on
abbrev pub from_number : TypedProgram → ℕ → List (ℕ × TypedProcedure)
from_number t n = counted_procs n (drop n t.procs)

one_more : {X : Type 0} (t : TypedProgram) (f : ℕ × TypedProcedure → X) (n : ℕ) (q : TypedProcedure) (x : X) (old new : List X) → slice_get t.procs n ≡ Some q → x ≡ f (n, q) →
    new ≡ old ++ x ∷ [] → new ++ map f (from_number t (n + 1)) ≡ old ++ map f (from_number t n)
one_more {X} t f n q x old new e h g =
    let next : n + 1 ≡ suc n = omega arith in
    ap (λ (l : List X). l ++ map f (from_number t (n + 1))) g ∙ append_assoc old (x ∷ []) (map f (from_number t (n + 1)))
    ∙ ap (λ (y : X). old ++ y ∷ map f (from_number t (n + 1))) h
    ∙ ap (λ (k : ℕ). old ++ f (n, q) ∷ map f (counted_procs k (drop (n + 1) t.procs))) next
    ∙ ap (λ (qs : List TypedProcedure). old ++ map f (counted_procs n qs)) (sym (drop_at t.procs n q e))

there : (qs : List TypedProcedure) (n : ℕ) → n < length qs → (q : TypedProcedure) × (slice_get qs n ≡ Some q)
there [] n l = absurd (omega arith)
there (q ∷ qs) zero l = (q, refl)
there (q ∷ qs) (suc n) l = there qs n (omega arith)

pub one_entry_more : (t : TypedProgram) (n : ℕ) (x : Option ℕ) (old new : List (Option ℕ)) → n < length t.procs → x ≡ option_map (λ m. m.entry) (body_marks t n) →
    new ≡ old ++ x ∷ [] → new ++ map (entry_of t) (from_number t (n + 1)) ≡ old ++ map (entry_of t) (from_number t n)
one_entry_more t n x old new l h g =
    let q = there t.procs n l in
    one_more t (entry_of t) n q.0 x old new q.1 (h ∙ sym (entry_marked t n q.0 q.1)) g

pub one_exit_more : (t : TypedProgram) (n : ℕ) (x : Option ℕ) (old new : List (Option ℕ)) → n < length t.procs → x ≡ option_map (λ m. m.returns) (body_marks t n) →
    new ≡ old ++ x ∷ [] → new ++ map (exit_of t) (from_number t (n + 1)) ≡ old ++ map (exit_of t) (from_number t n)
one_exit_more t n x old new l h g =
    let q = there t.procs n l in
    one_more t (exit_of t) n q.0 x old new q.1 (h ∙ sym (exit_marked t n q.0 q.1)) g
