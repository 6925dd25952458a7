-- Entering a procedure: the frame that is made is shown by a call step of the stack.
use Rattle.std.proofs.Common.{◌≡◌, ℕ, suc, ◌+◌, ◌≤◌, ℤ, List, [], ◌∷◌, ◌++◌, length, refl, sym, ap, ◌∙◌, arith, append_assoc}
use Rattle.std.proofs.lemmas.List.{length-append, length-map}
use Rattle.boogie_tree.specs.declared.tree.VarInfo.{VarInfo}
use Rattle.typed_tree.specs.TypedTree.{TypedExpression, TypedProgram}
use Rattle.typed_tree.specs.Values.{State, value}
use Rattle.lin_rows.specs.Points.{point_of}
use Rattle.letter_acts.specs.Frames.{Columns, ConstantsFirst, globals_from, old_columns, locals_from}
use Rattle.letter_acts.specs.Meaning.{CallLeads, entry_values}
use Rattle.letter_acts.proofs.PointLemmas.{state_length}
use Rattle.cond_jumps.specs.Worth.{Read}
use Rattle.cond_jumps.specs.FreeProducts.FrameLaws.{Marks}
use Rattle.boogie_run.specs.BoogiePoints.Actions as actions
use Rattle.boogie_run.specs.BoogiePoints.Actions.{Action, action_at}
use Rattle.boogie_run.specs.Configurations.{Config, state_of}
use Rattle.boogie_run.specs.Needs.{locals_at}
use Rattle.boogie_run.specs.Steps.{values, entered}
use Rattle.lowered_graph.specs.LoweredSteps.ProgramFrames.{frame_at, width_at, shown, variable_values}
use Rattle.lowered_graph.specs.LoweredSteps.Edges.{call_letters, columns_before_locals}
use Rattle.lowered_graph.specs.LoweredSteps.Stacks.{IsStep, call}
use Rattle.lowered_graph.specs.LoweredSteps.Moves.{HasTypes, FrameKeeps, AreArguments, shown_stack, filled}
use Rattle.lowered_graph.proofs.LoweredSteps.FrameColumns.{types_length, shown_state}
use Rattle.lowered_graph.proofs.LoweredSteps.Places.{olds_length}
use Rattle.lowered_graph.proofs.LoweredSteps.ListSteps.{MetLetter, letter_met}
use Rattle.lowered_graph.proofs.LoweredSteps.WritesBack.{globals_length}
use Rattle.lowered_graph.proofs.LoweredSteps.Parameters.{call_marks}
use Rattle.lowered_graph.proofs.LoweredSteps.Picks.{shown_variables, shown_globals, read_front}

-- the state of a called procedure, with these further locals
abbrev pub called_state : State → List ℤ → List ℤ → State
called_state s zs more = record { globals = s.globals; old = s.globals; locals = zs ++ more }

pub called_keeps : (t : TypedProgram) (n f : ℕ) (s : State) (zs more : List ℤ) → FrameKeeps t n s → HasTypes (locals_at t f) (zs ++ more) → FrameKeeps t f (called_state s zs more)
called_keeps t n f s zs more k h = record { globals = k.globals; old = k.globals; locals = h; constants = λ g v e c. refl }

pub locals_length : (n : ℕ) (vs : List VarInfo) → length (locals_from n vs) ≡ length vs
locals_length n [] = refl
locals_length n (v ∷ vs) = ap suc (locals_length (suc n) vs)

pub width_is : (t : TypedProgram) (n : ℕ) → width_at t n ≡ columns_before_locals t + length (locals_at t n)
width_is t n =
    let olds : Columns = old_columns 0 t.globals in
    let locals : Columns = locals_from 0 (locals_at t n) in
    let a : width_at t n ≡ length (globals_from 0 t.globals) + length (olds ++ locals) = length-append (globals_from 0 t.globals) (olds ++ locals) in
    let b : length (olds ++ locals) ≡ length olds + length locals = length-append olds locals in
    let c : length (globals_from 0 t.globals) ≡ length t.globals = globals_length 0 t.globals in
    let d : length locals ≡ length (locals_at t n) = locals_length 0 (locals_at t n) in
    omega arith

-- the parameters of a state that is shown behind another stand there
pub parameters_read : (t : TypedProgram) (n f : ℕ) (s u : State) (zs more : List ℤ) → FrameKeeps t n s → length u.globals ≡ length t.globals → length u.old ≡ length t.globals → u.locals ≡ zs ++ more →
    Read (point_of (shown t s ++ shown t u)) (width_at t n + columns_before_locals t) zs
parameters_read t n f s u zs more k g o e =
    let olds : List ℤ = variable_values t.globals u.old in
    let front : List ℤ = shown t s ++ (u.globals ++ olds) in
    let own : length (shown t s) ≡ width_at t n = state_length (frame_at t n) (shown t s) (shown_state t n s k) in
    let a : length front ≡ length (shown t s) + length (u.globals ++ olds) = length-append (shown t s) (u.globals ++ olds) in
    let b : length (u.globals ++ olds) ≡ length u.globals + length olds = length-append u.globals olds in
    let c : length olds ≡ length (old_columns 0 t.globals) = olds_length 0 t.globals u.old o in
    let count : length front ≡ width_at t n + columns_before_locals t = omega arith in
    let parts : shown t s ++ shown t u ≡ front ++ (zs ++ more) =
    ap (λ (xs : List ℤ). shown t s ++ (u.globals ++ (olds ++ xs))) e ∙ ap (λ (xs : List ℤ). shown t s ++ xs) (sym (append_assoc u.globals olds (zs ++ more))) ∙ sym (append_assoc (shown t s) (u.globals ++ olds) (zs ++ more)) in
    rw count at (read_front (shown t s ++ shown t u) front zs more parts)

-- a call enters, and the locals that are missing are chosen
pub enter_goes : (t : TypedProgram) (c : Config) (f : ℕ) (args : List TypedExpression) (vs : List VarInfo) (more : List ℤ) → action_at t c.top.proc c.top.point ≡ actions.Enter f args →
    FrameKeeps t c.top.proc (state_of c) → ConstantsFirst (locals_at t f) → AreArguments (frame_at t c.top.proc) vs args → HasTypes (locals_at t f) (values (state_of c) args ++ more) →
    IsStep t (shown_stack t c) (shown_stack t (filled (entered t c f (values (state_of c) args)) more))
enter_goes t c f args vs more is k first a h =
    let n : ℕ = c.top.proc in
    let s : State = state_of c in
    let zs : List ℤ = values s args in
    let u : State = called_state s zs more in
    let ku : FrameKeeps t f u = called_keeps t n f s zs more k h in
    let gs : length s.globals ≡ length t.globals = types_length t.globals s.globals k.globals in
    let count : length zs + length more ≡ length (locals_at t f) = sym (length-append zs more) ∙ types_length (locals_at t f) (zs ++ more) h in
    let as_many : length zs ≡ length args = length-map args (value s) in
    let wide : width_at t f ≡ columns_before_locals t + length (locals_at t f) = width_is t f in
    let room : columns_before_locals t + length args ≤ width_at t f = omega arith in
    let marks : Marks (shown t s ++ shown t u) (call_letters t n f args) (Read (point_of (shown t s ++ shown t u)) (width_at t n + columns_before_locals t) zs) = call_marks t n f s u vs args k ku a room in
    let m : MetLetter (shown t s ++ shown t u) (call_letters t n f args) = letter_met (shown t s ++ shown t u) (call_letters t n f args) (marks.follow (parameters_read t n f s u zs more k gs gs refl)) in
    let enters : shown t u ≡ entry_values (frame_at t f) (shown t s) (zs ++ more) =
    λ i. sym (shown_globals t f s first gs) i ++ (sym (shown_variables t f s first gs) i ++ (zs ++ more)) in
    let led : CallLeads (frame_at t n) (frame_at t f) m.letter.plain.helpers m.letter.plain.rows (shown t s) (shown t u) =
    record { before = shown_state t n s k; after = shown_state t f u ku; locals = zs ++ more; entered = enters; rows_hold = m.met } in
    call c.top.point f args m.letter refl is m.among led refl refl refl
