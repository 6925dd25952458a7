-- Returning from a procedure: the caller's frame behind the call is shown by a return step of the stack.
use Rattle.std.proofs.Common.{◌≡◌, ℕ, zero, suc, ◌+◌, ◌≤◌, Bool, true, false, ℤ, List, [], ◌∷◌, ◌++◌, map, length, take, drop, Option, Some, refl, sym, ap, subst, ◌∙◌, arith, append_assoc}
use Rattle.std.specs.Prelude.{slice_get, slice_set}
use Rattle.std.proofs.lemmas.List.{length-append, length-map}
use Rattle.boogie_tree.specs.declared.tree.Column.{Column}
use Rattle.boogie_tree.specs.declared.tree.Column.TheVariants as columns
use Rattle.std.specs.Prelude.{not}
use Rattle.boogie_tree.specs.declared.tree.VarInfo.{VarInfo}
use Rattle.typed_tree.specs.TypedTree.{TypedProcedure, TypedProgram}
use Rattle.typed_tree.specs.Values.{State, value, member}
use Rattle.lin_rows.specs.Points.{point_of}
use Rattle.letter_acts.specs.Frames.{Columns, ConstantsFirst, added, old_columns, result_columns, olds_of, globals_of}
use Rattle.letter_acts.specs.Values.{picked, put_all}
use Rattle.letter_acts.specs.Meaning.{BackLeads, returned_values}
use Rattle.cond_jumps.specs.Worth.{Read}
use Rattle.cond_jumps.specs.FreeProducts.FrameLaws.{Marks}
use Rattle.boogie_run.specs.BoogiePoints.Points.{Point, settled, past_first}
use Rattle.boogie_run.specs.BoogiePoints.Actions as actions
use Rattle.boogie_run.specs.BoogiePoints.Actions.{action_at}
use Rattle.boogie_run.specs.BoogiePoints.Starts.{targets_at}
use Rattle.boogie_run.specs.Configurations.{Frame, Config, state_of}
use Rattle.boogie_run.specs.Needs.{locals_at, locals_if_any}
use Rattle.boogie_run.specs.Steps.{values, all_written, moved_to, results_if_any}
use Rattle.boogie_run.specs.Steps as steps
use Rattle.typed_tree.specs.TypingRules.Rules.{results_of as results_of_procedure}
use Rattle.lowered_graph.specs.LoweredSteps.ProgramFrames.{frame_at, width_at, shown, variable_values, column_number}
use Rattle.lowered_graph.specs.LoweredSteps.Edges.{call_letters, columns_before_locals, numbers_in}
use Rattle.lowered_graph.specs.LoweredSteps.Stacks.{Pending, Stack, IsStep, back}
use Rattle.lowered_graph.specs.LoweredSteps.Moves.{HasTypes, FrameKeeps, AreTargets, Awaits, shown_stack, shown_below}
use Rattle.letter_acts.specs.Frames.{IsFrame}
use Rattle.letter_acts.proofs.FrameLemmas.{IsConsecutive, olds_consecutive, olds_of_variables, olds_are, global_count}
use Rattle.letter_acts.specs.Frames.{olds_from}
use Rattle.lowered_graph.proofs.LoweredSteps.FrameColumns.{types_length, shown_state}
use Rattle.lowered_graph.proofs.LoweredSteps.Places.{all_state_written, all_written_shown, olds_length}
use Rattle.lowered_graph.proofs.LoweredSteps.ListSteps.{MetLetter, letter_met}
use Rattle.lowered_graph.proofs.LoweredSteps.Writes.{AreTaken, keeps_all_written, taken_there, is_long, all_written_is, IsWritten}
use Rattle.lowered_graph.proofs.LoweredSteps.Parameters.{call_marks}
use Rattle.lowered_graph.proofs.LoweredSteps.Picks.{frame_is, constant_values, shown_variables, shown_constants, shown_globals, shown_rest}
use Rattle.lowered_graph.proofs.LoweredSteps.Enters.{parameters_read, width_is}
use Rattle.lowered_graph.proofs.LoweredSteps.Leaves.{results_picked}

-- ---- the constants and the old values of a callee are the caller's

point_behind : (front rest : List ℤ) (z : ℤ) → point_of (front ++ z ∷ rest) (length front) ≡ z
point_behind [] rest z = refl
point_behind (x ∷ xs) rest z = point_behind xs rest z

length_next : (b : Bool) (n k : ℕ) (v : VarInfo) (rest : Columns) → length (olds_from n rest) ≡ length rest → length (olds_from (suc n) rest) ≡ length rest →
    length (olds_from n (added b (columns.Old k, v) rest)) ≡ length (added b (columns.Old k, v) rest)
length_next true n k v rest h g = ap suc g
length_next false n k v rest h g = h

length-olds : (n k : ℕ) (vs : List VarInfo) → length (olds_from n (old_columns k vs)) ≡ length (old_columns k vs)
length-olds n k [] = refl
length-olds n k (v ∷ vs) = length_next (not v.constant) n k v (old_columns (suc k) vs) (length-olds n (suc k) vs) (length-olds (suc n) (suc k) vs)

same_constants : (vs : List VarInfo) (zs ys : List ℤ) → length zs ≡ length vs → length ys ≡ length vs → ((g : ℕ) (v : VarInfo) → slice_get vs g ≡ Some v → v.constant ≡ true → member ys g ≡ member zs g) →
    constant_values vs zs ≡ constant_values vs ys
same_constants [] zs ys l m h = refl
same_constants (v ∷ vs) [] ys l m h = absurd (omega arith)
same_constants (v ∷ vs) (z ∷ zs) [] l m h = absurd (omega arith)
same_constants (v ∷ vs) (z ∷ zs) (y ∷ ys) l m h = by_test v.constant refl (same_constants vs zs ys (omega arith) (omega arith) (λ g w e c. h (suc g) w e c)) (λ c. h 0 v refl c)
  where
    by_test : (b : Bool) → v.constant ≡ b → constant_values vs zs ≡ constant_values vs ys → (v.constant ≡ true → y ≡ z) → added b z (constant_values vs zs) ≡ added b y (constant_values vs ys)
    by_test true e k f = λ i. sym (f e) i ∷ k i
    by_test false e k f = k

consecutive_picked : (values front zs rest : List ℤ) (os : List (ℕ × ℕ)) → values ≡ front ++ (zs ++ rest) → IsConsecutive (length front) os → length os ≡ length zs → picked values (map (λ o. o.0) os) ≡ zs
consecutive_picked values front [] rest [] e h l = refl
consecutive_picked values front [] rest (o ∷ os) e h l = absurd (omega arith)
consecutive_picked values front (z ∷ zs) rest [] e h l = absurd (omega arith)
consecutive_picked values front (z ∷ zs) rest (o ∷ os) e h l =
    let more : values ≡ (front ++ z ∷ []) ++ (zs ++ rest) = e ∙ sym (append_assoc front (z ∷ []) (zs ++ rest)) in
    let count : length (front ++ z ∷ []) ≡ suc (length front) = length-append front (z ∷ []) ∙ omega arith in
    let here : point_of values o.0 ≡ z = ap (point_of values) h.0 ∙ ap (λ (xs : List ℤ). point_of xs (length front)) e ∙ point_behind front (zs ++ rest) z in
    let next : IsConsecutive (length (front ++ z ∷ [])) os = rw count h.1 in
    let later : picked values (map (λ o. o.0) os) ≡ zs = consecutive_picked values (front ++ z ∷ []) zs rest os more next (omega arith) in
    λ i. here i ∷ later i

-- the old values of a frame that is shown
pub shown_olds : (t : TypedProgram) (n : ℕ) (s : State) → FrameKeeps t n s → ConstantsFirst (locals_at t n) → picked (shown t s) (map (λ o. o.0) (olds_of (frame_at t n))) ≡ variable_values t.globals s.old
shown_olds t n s k first =
    let f : IsFrame t.globals (frame_at t n) = frame_is t n first in
    let own : length s.globals ≡ length t.globals = types_length t.globals s.globals k.globals in
    let olds : List ℤ = variable_values t.globals s.old in
    let count : length olds ≡ length (old_columns 0 t.globals) = olds_length 0 t.globals s.old (types_length t.globals s.old k.old) in
    let as_many : length (olds_of (frame_at t n)) ≡ length (old_columns 0 t.globals) = ap length (olds_are t.globals (frame_at t n) f) ∙ length-olds (length t.globals) 0 t.globals in
    consecutive_picked (shown t s) s.globals olds s.locals (olds_of (frame_at t n)) refl (subst (λ (m : ℕ). IsConsecutive m (olds_of (frame_at t n))) (sym own) (olds_consecutive t.globals (frame_at t n) f)) (as_many ∙ sym count)

-- ---- the results

types_drop : (n : ℕ) (vs : List VarInfo) (zs : List ℤ) → HasTypes vs zs → HasTypes (drop n vs) (drop n zs)
types_drop zero vs zs h = h
types_drop (suc n) [] [] h = h
types_drop (suc n) [] (z ∷ zs) h = absurd h
types_drop (suc n) (v ∷ vs) [] h = absurd h
types_drop (suc n) (v ∷ vs) (z ∷ zs) h = types_drop n vs zs h.1

types_take : (n : ℕ) (vs : List VarInfo) (zs : List ℤ) → HasTypes vs zs → HasTypes (take n vs) (take n zs)
types_take zero vs zs h = tt
types_take (suc n) [] [] h = tt
types_take (suc n) [] (z ∷ zs) h = absurd h
types_take (suc n) (v ∷ vs) [] h = absurd h
types_take (suc n) (v ∷ vs) (z ∷ zs) h = (h.0, types_take n vs zs h.1)

pub targets_taken : (t : TypedProgram) (n : ℕ) (vs : List VarInfo) (cs : List Column) (zs : List ℤ) → AreTargets t n vs cs → HasTypes vs zs → AreTaken t n cs zs
targets_taken t n [] [] [] a h = tt
targets_taken t n [] [] (z ∷ zs) a h = absurd h
targets_taken t n [] (c ∷ cs) zs a h = absurd a
targets_taken t n (v ∷ vs) [] zs a h = absurd a
targets_taken t n (v ∷ vs) (c ∷ cs) [] a h = absurd h
targets_taken t n (v ∷ vs) (c ∷ cs) (z ∷ zs) a h = ((v.ty, a.0, h.0), targets_taken t n vs cs zs a.1 h.1)

targets_length : (t : TypedProgram) (n : ℕ) (vs : List VarInfo) (cs : List Column) → AreTargets t n vs cs → length cs ≡ length vs
targets_length t n [] [] a = refl
targets_length t n [] (c ∷ cs) a = absurd a
targets_length t n (v ∷ vs) [] a = absurd a
targets_length t n (v ∷ vs) (c ∷ cs) a = ap suc (targets_length t n vs cs a.1)

-- only as many values are written as there are columns
put_front : (values : List ℤ) (ws : List ℕ) (n : ℕ) (zs : List ℤ) → length ws ≤ n → put_all values ws (take n zs) ≡ put_all values ws zs
put_front values [] n zs l = refl
put_front values (w ∷ ws) zero zs l = absurd (omega arith)
put_front values (w ∷ ws) (suc n) [] l = refl
put_front values (w ∷ ws) (suc n) (z ∷ zs) l = put_front (slice_set values w z) ws n zs (omega arith)

-- ---- the step

-- the state before the call, of the frame that waits
abbrev pub waiting : Config → Frame → State
waiting c b = record { globals = c.top.entry; old = b.entry; locals = b.locals }

-- the caller's frame when the callee has returned, before its targets are written
abbrev pub resumed : Config → Frame → List Frame → Config
resumed c b rest = record { globals = c.globals; top = b; below = rest }

pub resumed_keeps : (t : TypedProgram) (c : Config) (b : Frame) (rest : List Frame) → FrameKeeps t c.top.proc (state_of c) → FrameKeeps t b.proc (waiting c b) → FrameKeeps t b.proc (state_of (resumed c b rest))
resumed_keeps t c b rest k h = record {
  globals = k.globals;
  old = h.old;
  locals = h.locals;
  constants = λ g v e c. h.constants g v e c ∙ k.constants g v e c;
}

pub results_taken : (t : TypedProgram) (c : Config) (b : Frame) → FrameKeeps t c.top.proc (state_of c) → (w : Awaits t c.top b) → AreTaken t b.proc (targets_at b.point.todo) (steps.results_left t c.top)
results_taken t c b k w =
    let q : TypedProcedure = w.procedure in
    let own : locals_at t c.top.proc ≡ q.locals = ap locals_if_any w.is in
    let typed : HasTypes q.locals c.top.locals = subst (λ (vs : List VarInfo). HasTypes vs c.top.locals) own k.locals in
    let results : steps.results_left t c.top ≡ take q.results (drop q.params c.top.locals) = ap (λ (o : Option TypedProcedure). results_if_any o c.top.locals) w.is in
    let taken : AreTaken t b.proc (targets_at b.point.todo) (take q.results (drop q.params c.top.locals)) =
    targets_taken t b.proc (results_of_procedure q) (targets_at b.point.todo) (take q.results (drop q.params c.top.locals)) w.targets
    (types_take q.results (drop q.params q.locals) (drop q.params c.top.locals) (types_drop q.params q.locals c.top.locals typed)) in
    subst (AreTaken t b.proc (targets_at b.point.todo)) (sym results) taken

take_at_most : {X : Type 0} (n : ℕ) (xs : List X) → length (take n xs) ≤ n
take_at_most zero xs = omega arith
take_at_most (suc n) [] = omega arith
take_at_most {X} (suc n) (x ∷ xs) = let h = take_at_most {X = X} n xs in omega arith

-- what is returned is what the run writes
pub returned_is : (t : TypedProgram) (c : Config) (b : Frame) (rest : List Frame) → FrameKeeps t c.top.proc (state_of c) → FrameKeeps t b.proc (waiting c b) → (w : Awaits t c.top b) →
    ConstantsFirst (locals_at t c.top.proc) → ConstantsFirst (locals_at t b.proc) →
    returned_values (frame_at t b.proc) (frame_at t c.top.proc) (numbers_in (frame_at t b.proc) (targets_at b.point.todo)) (shown t (state_of c)) (shown t (waiting c b))
    ≡ shown t (all_state_written (state_of (resumed c b rest)) (targets_at b.point.todo) (steps.results_left t c.top))
returned_is t c b rest k h w first_callee first_caller =
    let q : TypedProcedure = w.procedure in
    let caller : Columns = frame_at t b.proc in
    let callee : Columns = frame_at t c.top.proc in
    let s : State = state_of (resumed c b rest) in
    let cs : List Column = targets_at b.point.todo in
    let ws : List ℕ = numbers_in caller cs in
    let zs : List ℤ = drop q.params c.top.locals in
    let own : length c.globals ≡ length t.globals = types_length t.globals c.globals k.globals in
    let theirs : length c.top.entry ≡ length t.globals = types_length t.globals c.top.entry h.globals in
    let counts : length (globals_of caller) ≡ length (globals_of callee) =
    global_count t.globals caller (frame_is t b.proc first_caller) ∙ sym (global_count t.globals callee (frame_is t c.top.proc first_callee)) in
    let front : take (length (globals_of caller)) (shown t (state_of c)) ≡ c.globals =
    ap (λ (n : ℕ). take n (shown t (state_of c))) counts ∙ shown_globals t c.top.proc (state_of c) first_callee own in
    let behind : drop (length (globals_of caller)) (shown t (waiting c b)) ≡ variable_values t.globals b.entry ++ b.locals = shown_rest t b.proc (waiting c b) first_caller theirs in
    let inside : q.params ≤ length q.locals = (let e = w.enough in omega arith) in
    let results : picked (shown t (state_of c)) (result_columns callee) ≡ zs = results_picked t c.top.proc (state_of c) q k w.is w.shape inside in
    let run_results : steps.results_left t c.top ≡ take q.results zs = ap (λ (o : Option TypedProcedure). results_if_any o c.top.locals) w.is in
    let few : length ws ≤ q.results = (
    let a : length ws ≡ length cs = length-map cs (column_number caller) in
    let d : length cs ≡ length (results_of_procedure q) = targets_length t b.proc (results_of_procedure q) cs w.targets in
    let f : length (results_of_procedure q) ≤ q.results = take_at_most q.results (drop q.params q.locals) in
    omega arith) in
    let taken : AreTaken t b.proc cs (steps.results_left t c.top) = results_taken t c b k w in
    let kept : FrameKeeps t b.proc s = resumed_keeps t c b rest k h in
    let written : put_all (shown t s) ws (steps.results_left t c.top) ≡ shown t (all_state_written s cs (steps.results_left t c.top)) =
    all_written_shown t b.proc s cs (steps.results_left t c.top) (is_long t b.proc s kept) (taken_there t b.proc cs (steps.results_left t c.top) taken) in
    (λ i. put_all (front i ++ behind i) ws (results i)) ∙ sym (put_front (shown t s) ws q.results zs few) ∙ ap (put_all (shown t s) ws) (sym run_results) ∙ written

pub leave_goes : (t : TypedProgram) (c : Config) (b : Frame) (rest : List Frame) → c.below ≡ b ∷ rest → action_at t c.top.proc c.top.point ≡ actions.Leave → FrameKeeps t c.top.proc (state_of c) →
    FrameKeeps t b.proc (waiting c b) → (w : Awaits t c.top b) → ConstantsFirst (locals_at t c.top.proc) → ConstantsFirst (locals_at t b.proc) →
    IsStep t (shown_stack t c) (shown_stack t (moved_to (all_written (resumed c b rest) (targets_at b.point.todo) (steps.results_left t c.top)) (settled (past_first t.procs b.point.todo))))
leave_goes t c b rest opened is k h w first_callee first_caller =
    let f : ℕ = c.top.proc in
    let n : ℕ = b.proc in
    let s : State = waiting c b in
    let u : State = state_of c in
    let r : Config = resumed c b rest in
    let cs : List Column = targets_at b.point.todo in
    let rs : List ℤ = steps.results_left t c.top in
    let d : Config = all_written r cs rs in
    let next : Point = settled (past_first t.procs b.point.todo) in
    let own : length c.globals ≡ length t.globals = types_length t.globals c.globals k.globals in
    let theirs : length c.top.entry ≡ length t.globals = types_length t.globals c.top.entry h.globals in
    let zs : List ℤ = values s w.args in
    let wide : width_at t f ≡ columns_before_locals t + length (locals_at t f) = width_is t f in
    let locals : length c.top.locals ≡ length (locals_at t f) = types_length (locals_at t f) c.top.locals k.locals in
    let split : length c.top.locals ≡ length zs + length w.later = ap length w.passed ∙ length-append zs w.later in
    let as_many : length zs ≡ length w.args = length-map w.args (value s) in
    let room : columns_before_locals t + length w.args ≤ width_at t f = omega arith in
    let marks : Marks (shown t s ++ shown t u) (call_letters t n f w.args) (Read (point_of (shown t s ++ shown t u)) (width_at t n + columns_before_locals t) zs) =
    call_marks t n f s u (take w.procedure.params w.procedure.locals) w.args h k w.arguments room in
    let m : MetLetter (shown t s ++ shown t u) (call_letters t n f w.args) =
    letter_met (shown t s ++ shown t u) (call_letters t n f w.args) (marks.follow (parameters_read t n f s u zs w.later h own theirs w.passed)) in
    let after : State = all_state_written (state_of r) cs rs in
    let kept : FrameKeeps t n after = keeps_all_written t n (state_of r) cs rs (resumed_keeps t c b rest k h) (results_taken t c b k w) in
    let led : BackLeads (frame_at t n) (frame_at t f) m.letter.plain.helpers m.letter.plain.rows (numbers_in (frame_at t n) cs) (shown t u) (shown t s) (shown t after) = record {
      at_exit = shown_state t f u k;
      at_call = shown_state t n s h;
      at_end = shown_state t n after kept;
      constants = shown_constants t f u first_callee own ∙ same_constants t.globals c.globals c.top.entry own theirs k.constants
          ∙ sym (shown_constants t f s first_callee theirs);
      olds = shown_olds t f u k first_callee ∙ sym (shown_variables t f s first_callee theirs) ∙ ap (picked (shown t s)) (sym (olds_of_variables t.globals (frame_at t f) (frame_is t f first_callee)));
      rows_hold = m.met;
      returned = sym (returned_is t c b rest k h w first_callee first_caller);
    } in
    let wr : IsWritten r d after = all_written_is r cs rs in
    let x : Stack = shown_stack t c in
    let y : Stack = shown_stack t (moved_to d next) in
    let p : Pending = record { proc = n; point = b.point; values = shown t s } in
    let below : x.below ≡ p ∷ y.below = ap (shown_below t c.top.entry) opened ∙ (λ i. p ∷ shown_below t (wr.entry i) (wr.below i)) in
    back c.top.point p w.args m.letter refl is below w.calls m.among (subst (BackLeads (frame_at t n) (frame_at t f) m.letter.plain.helpers m.letter.plain.rows (numbers_in (frame_at t n) cs) (shown t u) (shown t s)) (ap (shown t) wr.state) led)
    (sym wr.proc) refl
