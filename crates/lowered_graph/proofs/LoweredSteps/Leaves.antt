-- Returning from a procedure: the caller's frame behind the call is shown by a return step of the stack.
use Rattle.std.proofs.Common.{◌≡◌, ℕ, zero, suc, ◌+◌, ◌≤◌, Bool, true, false, not, ℤ, List, [], ◌∷◌, ◌++◌, length, take, drop, Some, refl, sym, ap, subst, ◌∙◌, arith, append_assoc}
use Rattle.std.specs.Prelude.{slice_get}
use Rattle.std.specs.List.{AllByRecursion}
use Rattle.std.proofs.lemmas.List.{length-append}
use Rattle.boogie_tree.specs.declared.tree.Column.TheVariants as columns
use Rattle.boogie_tree.specs.declared.tree.VarInfo.{VarInfo}
use Rattle.typed_tree.specs.TypedTree.{TypedProcedure, TypedProgram}
use Rattle.typed_tree.specs.Values.{State}
use Rattle.lin_rows.specs.Points.{point_of}
use Rattle.letter_acts.specs.Frames.{Columns, added, globals_from, old_columns, locals_from, is_result, places, result_columns}
use Rattle.letter_acts.specs.Values.{picked}
use Rattle.letter_acts.proofs.ListLemmas.{places-append}
use Rattle.boogie_run.specs.Needs.{locals_at, locals_if_any}
use Rattle.lowered_graph.specs.LoweredSteps.ProgramFrames.{frame_at, shown, variable_values}
use Rattle.lowered_graph.specs.LoweredSteps.Moves.{FrameKeeps, HasParameters}
use Rattle.lowered_graph.proofs.LoweredSteps.FrameColumns.{types_length}
use Rattle.lowered_graph.proofs.LoweredSteps.Places.{olds_length}
use Rattle.lowered_graph.proofs.LoweredSteps.WritesBack.{globals_length}

-- ---- results

no_results_of_globals : (n j : ℕ) (vs : List VarInfo) → places is_result n (globals_from j vs) ≡ []
no_results_of_globals n j [] = refl
no_results_of_globals n j (v ∷ vs) = no_results_of_globals (suc n) (suc j) vs

no_results_of_olds : (n j : ℕ) (vs : List VarInfo) → places is_result n (old_columns j vs) ≡ []
no_results_of_olds n j [] = refl
no_results_of_olds n j (v ∷ vs) = by_test (not v.constant) n j v (old_columns (suc j) vs) (λ m. no_results_of_olds m (suc j) vs)
  where
    by_test : (b : Bool) (n j : ℕ) (v : VarInfo) (cs : Columns) → ((m : ℕ) → places is_result m cs ≡ []) → places is_result n (added b (columns.Old j, v) cs) ≡ []
    by_test true n j v cs h = h (suc n)
    by_test false n j v cs h = h n

point_behind : (front rest : List ℤ) (z : ℤ) → point_of (front ++ z ∷ rest) (length front) ≡ z
point_behind [] rest z = refl
point_behind (x ∷ xs) rest z = point_behind xs rest z

-- constants are no results
skipped : (values : List ℤ) (n j k : ℕ) (vs : List VarInfo) → AllByRecursion (λ v. v.constant ≡ true) (take k vs) → k ≤ length vs →
    places is_result n (locals_from j vs) ≡ places is_result (n + k) (locals_from (j + k) (drop k vs))
skipped values n j zero vs h l =
    let a : n + 0 ≡ n = omega arith in
    let b : j + 0 ≡ j = omega arith in
    rw (a, b) refl
skipped values n j (suc k) [] h l = absurd (omega arith)
skipped values n j (suc k) (v ∷ vs) h l =
    let a : n + suc k ≡ suc n + k = omega arith in
    let b : j + suc k ≡ suc j + k = omega arith in
    let c : v.constant ≡ true = h.0 in
    rw (a, b, c) (skipped values (suc n) (suc j) k vs h.1 (omega arith))

-- the others are
all_results : (values front zs : List ℤ) (j : ℕ) (vs : List VarInfo) → AllByRecursion (λ v. v.constant ≡ false) vs → values ≡ front ++ zs → length zs ≡ length vs →
    picked values (places is_result (length front) (locals_from j vs)) ≡ zs
all_results values front [] j [] h e l = refl
all_results values front [] j (v ∷ vs) h e l = absurd (omega arith)
all_results values front (z ∷ zs) j [] h e l = absurd (omega arith)
all_results values front (z ∷ zs) j (v ∷ vs) h e l =
    let more : values ≡ (front ++ z ∷ []) ++ zs = e ∙ sym (append_assoc front (z ∷ []) zs) in
    let count : length (front ++ z ∷ []) ≡ suc (length front) = length-append front (z ∷ []) ∙ omega arith in
    let here : point_of values (length front) ≡ z = ap (λ (xs : List ℤ). point_of xs (length front)) e ∙ point_behind front zs z in
    let rest : picked values (places is_result (suc (length front)) (locals_from (suc j) vs)) ≡ zs = rw count at (all_results values (front ++ z ∷ []) zs (suc j) vs h.1 more (omega arith)) in
    let varies : v.constant ≡ false = h.0 in
    rw varies (λ i. here i ∷ rest i)

take_all_drop : (n : ℕ) (zs : List ℤ) → take n zs ++ drop n zs ≡ zs
take_all_drop zero zs = refl
take_all_drop (suc n) [] = refl
take_all_drop (suc n) (z ∷ zs) = ap (λ (ys : List ℤ). z ∷ ys) (take_all_drop n zs)

take_length : {X : Type 0} (n : ℕ) (zs : List X) → n ≤ length zs → length (take n zs) ≡ n
take_length zero zs l = refl
take_length (suc n) [] l = absurd (omega arith)
take_length (suc n) (z ∷ zs) l = ap suc (take_length n zs (omega arith))

drop_length : {X : Type 0} (n : ℕ) (zs : List X) → n ≤ length zs → length (drop n zs) + n ≡ length zs
drop_length zero zs l = omega arith
drop_length (suc n) [] l = absurd (omega arith)
drop_length (suc n) (z ∷ zs) l = let h = drop_length n zs (omega arith) in omega arith

pub results_picked : (t : TypedProgram) (p : ℕ) (s : State) (q : TypedProcedure) → FrameKeeps t p s → slice_get t.procs p ≡ Some q → HasParameters q → q.params ≤ length q.locals →
    picked (shown t s) (result_columns (frame_at t p)) ≡ drop q.params s.locals
results_picked t p s q k e h l =
    let own : locals_at t p ≡ q.locals = ap locals_if_any e in
    let vs : List VarInfo = locals_at t p in
    let gs : Columns = globals_from 0 t.globals in
    let os : Columns = old_columns 0 t.globals in
    let ls : Columns = locals_from 0 vs in
    let n : ℕ = q.params in
    let a : ℕ = 0 + length gs in
    let b : ℕ = a + length os in
    let olds : List ℤ = variable_values t.globals s.old in
    let front : List ℤ = s.globals ++ (olds ++ take n s.locals) in
    let inside : n ≤ length vs = omega (arith, ap length own) in
    let locals : length s.locals ≡ length vs = types_length vs s.locals k.locals in
    let globals : length s.globals ≡ length t.globals = types_length t.globals s.globals k.globals in
    let old : length olds ≡ length os = olds_length 0 t.globals s.old (types_length t.globals s.old k.old) in
    let number : length gs ≡ length t.globals = globals_length 0 t.globals in
    let constant : AllByRecursion (λ v. v.constant ≡ true) (take n vs) = subst (λ (ws : List VarInfo). AllByRecursion (λ v. v.constant ≡ true) (take n ws)) (sym own) h.constant in
    let vary : AllByRecursion (λ v. v.constant ≡ false) (drop n vs) = subst (λ (ws : List VarInfo). AllByRecursion (λ v. v.constant ≡ false) (drop n ws)) (sym own) h.vary in
    let parts : places is_result 0 (gs ++ (os ++ ls)) ≡ places is_result (b + n) (locals_from (0 + n) (drop n vs)) =
    places-append is_result gs (os ++ ls) 0 a refl
    ∙ ap (λ (xs : List ℕ). xs ++ places is_result a (os ++ ls)) (no_results_of_globals 0 0 t.globals)
    ∙ places-append is_result os ls a b refl
    ∙ ap (λ (xs : List ℕ). xs ++ places is_result b ls) (no_results_of_olds a 0 t.globals)
    ∙ skipped (shown t s) b 0 n vs constant inside in
    let c1 : length front ≡ length s.globals + length (olds ++ take n s.locals) = length-append s.globals (olds ++ take n s.locals) in
    let c2 : length (olds ++ take n s.locals) ≡ length olds + length (take n s.locals) = length-append olds (take n s.locals) in
    let c3 : length (take n s.locals) ≡ n = take_length n s.locals (omega arith) in
    let count : length front ≡ b + n = omega arith in
    let d1 : length (drop n s.locals) + n ≡ length s.locals = drop_length n s.locals (omega arith) in
    let d2 : length (drop n vs) + n ≡ length vs = drop_length n vs inside in
    let whole : shown t s ≡ front ++ drop n s.locals =
    ap (λ (xs : List ℤ). s.globals ++ (olds ++ xs)) (sym (take_all_drop n s.locals)) ∙ ap (λ (xs : List ℤ). s.globals ++ xs) (sym (append_assoc olds (take n s.locals) (drop n s.locals)))
    ∙ sym (append_assoc s.globals (olds ++ take n s.locals) (drop n s.locals)) in
    ap (picked (shown t s)) parts ∙ rw count at (all_results (shown t s) front (drop n s.locals) (0 + n) (drop n vs) vary whole (omega arith))
