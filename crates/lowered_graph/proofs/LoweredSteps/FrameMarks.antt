-- What the letters of a frame mean for the states that a configuration shows.
use Rattle.std.proofs.Common.{◌≡◌, ℕ, zero, suc, ◌+◌, ◌≤◌, Bool, true, false, not, ℤ, List, [], ◌∷◌, ◌++◌, map, length, Option, Some, sym, ap, subst, arith}
use Rattle.std.specs.List.{AllByRecursion}
use Rattle.boogie_tree.specs.declared.tree.Column.{Column}
use Rattle.boogie_tree.specs.declared.tree.Column.TheVariants as columns
use Rattle.boogie_tree.specs.declared.tree.VarInfo.{VarInfo}
use Rattle.typed_tree.specs.TypedTree.{TypedExpression, TypedProgram}
use Rattle.typed_tree.specs.Values.{State, value, truth}
use Rattle.typed_tree.specs.Laws.{IsTruth}
use Rattle.letter_acts.specs.Frames.{Columns, added, globals_from, old_columns, locals_from}
use Rattle.cond_jumps.specs.Frames.{frame_environment}
use Rattle.cond_jumps.specs.Passing.{passed, passed_state, standing_environment}
use Rattle.cond_jumps.specs.FreeProducts.FrameLetters.{path_letters, assign_letters, passed_letters}
use Rattle.cond_jumps.specs.FreeProducts.FrameLaws.{LocalsBelow, IsWholeState, IsDividedCondition, IsDividedValue, Marks}
use Rattle.cond_jumps.proofs.FreeProducts.MeanLemmas.{conditions_mean, assignments_mean}
use Rattle.cond_jumps.proofs.FreeProducts.CalledLemmas.{called_conditions_mean}
use Rattle.boogie_run.specs.Needs.{locals_at}
use Rattle.lowered_graph.specs.LoweredSteps.ProgramFrames.{frame_at, shown}
use Rattle.lowered_graph.specs.LoweredSteps.Edges.{local_count}
use Rattle.lowered_graph.specs.LoweredSteps.Moves.{FrameKeeps, IsPassed}
use Rattle.lowered_graph.proofs.LoweredSteps.FrameColumns.{types_length, shown_is_shown}
use Rattle.lowered_graph.proofs.LoweredSteps.TruthValues.{bool_is_truth, shown_truths, passed_truths}

-- ---- the numbers of locals

both_below : (m : ℕ) (xs ys : Columns) → LocalsBelow m xs → LocalsBelow m ys → LocalsBelow m (xs ++ ys)
both_below m [] ys h k i n v e = k i n v e
both_below m (x ∷ xs) ys h k zero n v e = h 0 n v e
both_below m (x ∷ xs) ys h k (suc i) n v e = both_below m xs ys (λ j. h (suc j)) k i n v e

abbrev IsNoLocal : Column → Type 0
IsNoLocal (columns.Global n) = Unit {0}
IsNoLocal (columns.Old n) = Unit {0}
IsNoLocal (columns.Local n) = ⊥

no_local : (c d : Column) (w v : VarInfo) → ◌≡◌ {A = Option (Column × VarInfo)} (Some (c, w)) (Some (d, v)) → IsNoLocal c → IsNoLocal d
no_local c d w v e h =
    let p : (c, w) ≡ (d, v) = cc in
    subst IsNoLocal (ap (λ (x : Column × VarInfo). x.0) p) h

globals_below : (m k : ℕ) (vs : List VarInfo) → LocalsBelow m (globals_from k vs)
globals_below m k [] i n v e = absurd (cc)
globals_below m k (w ∷ ws) zero n v e = absurd (no_local (columns.Global k) (columns.Local n) w v e tt)
globals_below m k (w ∷ ws) (suc i) n v e = globals_below m (suc k) ws i n v e

added_below : (m : ℕ) (b : Bool) (k : ℕ) (w : VarInfo) (cs : Columns) → LocalsBelow m cs → LocalsBelow m (added b (columns.Old k, w) cs)
added_below m true k w cs h zero n v e = absurd (no_local (columns.Old k) (columns.Local n) w v e tt)
added_below m true k w cs h (suc i) n v e = h i n v e
added_below m false k w cs h i n v e = h i n v e

olds_below : (m k : ℕ) (vs : List VarInfo) → LocalsBelow m (old_columns k vs)
olds_below m k [] i n v e = absurd (cc)
olds_below m k (w ∷ ws) i n v e = added_below m (not w.constant) k w (old_columns (suc k) ws) (olds_below m (suc k) ws) i n v e

locals_below : (m k : ℕ) (vs : List VarInfo) → k + length vs ≤ m → LocalsBelow m (locals_from k vs)
locals_below m k [] l i n v e = absurd (cc)
locals_below m k (w ∷ ws) l zero n v e =
    let p : (columns.Local k, w) ≡ (columns.Local n, v) = cc in
    let q : columns.Local k ≡ columns.Local n = ap (λ (x : Column × VarInfo). x.0) p in
    let f : k ≡ n = cc in
    omega arith
locals_below m k (w ∷ ws) l (suc i) n v e = locals_below m (suc k) ws (omega arith) i n v e

pub frame_locals : (t : TypedProgram) (n : ℕ) → LocalsBelow (local_count t n) (frame_at t n)
frame_locals t n =
    both_below (local_count t n) (globals_from 0 t.globals) (old_columns 0 t.globals ++ locals_from 0 (locals_at t n)) (globals_below (local_count t n) 0 t.globals)
    (both_below (local_count t n) (old_columns 0 t.globals) (locals_from 0 (locals_at t n)) (olds_below (local_count t n) 0 t.globals) (locals_below (local_count t n) 0 (locals_at t n) (omega arith)))

-- ---- a state that is shown

pub local_count_is : (t : TypedProgram) (n : ℕ) (s : State) → FrameKeeps t n s → length s.locals ≡ local_count t n
local_count_is t n s k = types_length (locals_at t n) s.locals k.locals

pub whole_state : (t : TypedProgram) (n : ℕ) (s : State) → FrameKeeps t n s → IsWholeState (frame_at t n) s (shown t s)
whole_state t n s k = record {
  shown = shown_is_shown t n s k;
  locals = subst (λ (m : ℕ). LocalsBelow m (frame_at t n)) (sym (local_count_is t n s k)) (frame_locals t n);
}

-- ---- conditions, assignments, and conditions of called procedures

pub condition_marks : (t : TypedProgram) (n : ℕ) (s : State) (e : TypedExpression) (want : Bool) → FrameKeeps t n s → IsDividedCondition (frame_environment (frame_at t n)) e →
    Marks (shown t s) (path_letters (frame_at t n) (local_count t n) e want) (value s e ≡ truth want)
condition_marks t n s e want k c =
    subst (λ (m : ℕ). Marks (shown t s) (path_letters (frame_at t n) m e want) (value s e ≡ truth want)) (local_count_is t n s k)
    (conditions_mean (frame_at t n) s (shown t s) e want (whole_state t n s k) c)

pub condition_truth : (t : TypedProgram) (n : ℕ) (s : State) (e : TypedExpression) → FrameKeeps t n s → IsDividedCondition (frame_environment (frame_at t n)) e → IsTruth (value s e)
condition_truth t n s e k c = bool_is_truth (frame_environment (frame_at t n)) s (shown_truths (frame_at t n) s (shown t s) (shown_is_shown t n s k)) false e c.typed

pub assignment_marks : (t : TypedProgram) (n : ℕ) (s : State) (news : List ℤ) (es : List TypedExpression) → FrameKeeps t n s → AllByRecursion (IsDividedValue (frame_environment (frame_at t n))) es →
    length news ≡ length es → Marks (shown t s ++ news) (assign_letters (frame_at t n) (local_count t n) (length es) es) (news ≡ map (value s) es)
assignment_marks t n s news es k c l =
    subst (λ (m : ℕ). Marks (shown t s ++ news) (assign_letters (frame_at t n) m (length es) es) (news ≡ map (value s) es)) (local_count_is t n s k)
    (assignments_mean (frame_at t n) s (shown t s) news es (whole_state t n s k) c l)

pub passed_marks : (t : TypedProgram) (n : ℕ) (s : State) (args : List TypedExpression) (e : TypedExpression) (want : Bool) → FrameKeeps t n s → IsPassed (frame_at t n) args e →
    Marks (shown t s) (passed_letters (frame_at t n) (local_count t n) args e want) (value (passed_state s args) e ≡ truth want)
passed_marks t n s args e want k p =
    subst (λ (m : ℕ). Marks (shown t s) (passed_letters (frame_at t n) m args e want) (value (passed_state s args) e ≡ truth want)) (local_count_is t n s k)
    (called_conditions_mean (frame_at t n) s (shown t s) args e want (whole_state t n s k) p.arguments p.condition)

pub passed_truth : (t : TypedProgram) (n : ℕ) (s : State) (args : List TypedExpression) (e : TypedExpression) → FrameKeeps t n s → IsPassed (frame_at t n) args e →
    IsTruth (value (passed_state s args) e)
passed_truth t n s args e k p =
    let own = shown_truths (frame_at t n) s (shown t s) (shown_is_shown t n s k) in
    bool_is_truth (standing_environment (frame_environment (frame_at t n)) (passed args)) (passed_state s args) (passed_truths (frame_environment (frame_at t n)) s args own) false e p.condition.typed
