-- The other way round for calls: a call step of the stack by a letter that is not coarse is the entering of the procedure with some choices of its locals.
use Rattle.std.proofs.Common.{◌≡◌, ℕ, ◌+◌, ◌≤◌, false, ℤ, List, ◌++◌, length, take, drop, refl, sym, ap, subst, ◌∙◌, arith, append_assoc}
use Rattle.std.proofs.lemmas.List.{length-append, length-map, take-append-drop}
use Rattle.boogie_tree.specs.declared.tree.VarInfo.{VarInfo}
use Rattle.typed_tree.specs.TypedTree.{TypedExpression, TypedProgram}
use Rattle.typed_tree.specs.Values.{State, value}
use Rattle.lin_rows.specs.Points.{point_of}
use Rattle.letter_acts.specs.Frames.{Columns, IsState, ConstantsFirst, globals_from, old_columns, locals_from}
use Rattle.letter_acts.specs.Meaning.{CallLeads}
use Rattle.letter_acts.proofs.PointLemmas.{state_length}
use Rattle.cond_jumps.specs.FreeProducts.Letters.{MarkedConjunction}
use Rattle.cond_jumps.specs.FreeProducts.FrameLaws.{Marks}
use Rattle.cond_jumps.specs.Worth.{Read}
use Rattle.cond_jumps.specs.Lists.{IsMet}
use Rattle.boogie_run.specs.Needs.{locals_at}
use Rattle.boogie_run.specs.Steps.{values}
use Rattle.lowered_graph.specs.LoweredSteps.ProgramFrames.{frame_at, width_at, shown, variable_values}
use Rattle.lowered_graph.specs.LoweredSteps.Edges.{call_letters, columns_before_locals}
use Rattle.lowered_graph.specs.LoweredSteps.Stacks.{IsAmong}
use Rattle.lowered_graph.specs.LoweredSteps.Moves.{HasTypes, FrameKeeps, AreArguments}
use Rattle.lowered_graph.proofs.LoweredSteps.FrameColumns.{types_length, shown_state}
use Rattle.lowered_graph.proofs.LoweredSteps.Places.{olds_length}
use Rattle.lowered_graph.proofs.LoweredSteps.ListSteps.{exactly_met}
use Rattle.lowered_graph.proofs.LoweredSteps.WritesBack.{state_parts, locals_typed, globals_length}
use Rattle.lowered_graph.proofs.LoweredSteps.Parameters.{call_marks}
use Rattle.lowered_graph.proofs.LoweredSteps.Picks.{shown_variables, shown_globals, front_read}
use Rattle.lowered_graph.proofs.LoweredSteps.Enters.{called_state, width_is}

-- the locals of a called procedure: the arguments' values, and further ones that were chosen
pub record IsCalled (t : TypedProgram) (f : ℕ) (s : State) (args : List TypedExpression) (after : List ℤ) : Type 0 where
  pub more : List ℤ
  pub typed : HasTypes (locals_at t f) (values s args ++ more)
  pub shown_is : after ≡ shown t (called_state s (values s args) more)

pub called_back : (t : TypedProgram) (n f : ℕ) (s : State) (args : List TypedExpression) (vs : List VarInfo) (c : MarkedConjunction) (after : List ℤ) → FrameKeeps t n s → ConstantsFirst (locals_at t f) →
    AreArguments (frame_at t n) vs args → length args ≤ length (locals_at t f) → IsAmong (call_letters t n f args) c → c.coarse ≡ false → CallLeads (frame_at t n) (frame_at t f) c.plain.helpers c.plain.rows (shown t s) after →
    IsCalled t f s args after
called_back t n f s args vs c after k first a room i exact led =
    let zs : List ℤ = values s args in
    let ls : List ℤ = led.locals in
    let u : State = record { globals = s.globals; old = s.globals; locals = ls } in
    let gs : length s.globals ≡ length t.globals = types_length t.globals s.globals k.globals in
    let is : after ≡ shown t u = led.entered ∙ (λ j. shown_globals t f s first gs j ++ (shown_variables t f s first gs j ++ ls)) in
    let state : IsState (frame_at t f) (shown t u) = subst (IsState (frame_at t f)) is led.after in
    let olds : Columns = old_columns 0 t.globals in
    let locals : Columns = locals_from 0 (locals_at t f) in
    let behind = state_parts (globals_from 0 t.globals) (olds ++ locals) s.globals (variable_values t.globals s.globals ++ ls) (gs ∙ sym (globals_length 0 t.globals)) state in
    let parts = state_parts olds locals (variable_values t.globals s.globals) ls (olds_length 0 t.globals s.globals gs) behind.1 in
    let typed : HasTypes (locals_at t f) ls = locals_typed 0 (locals_at t f) ls parts.1 in
    let ku : FrameKeeps t f u = record { globals = k.globals; old = k.globals; locals = typed; constants = λ g v e c. refl } in
    let wide : width_at t f ≡ columns_before_locals t + length (locals_at t f) = width_is t f in
    let marks : Marks (shown t s ++ shown t u) (call_letters t n f args) (Read (point_of (shown t s ++ shown t u)) (width_at t n + columns_before_locals t) zs) =
    call_marks t n f s u vs args k ku a (omega arith) in
    let met : IsMet (shown t s ++ shown t u) c.plain = subst (λ (ys : List ℤ). IsMet (shown t s ++ ys) c.plain) is led.rows_hold in
    let read : Read (point_of (shown t s ++ shown t u)) (width_at t n + columns_before_locals t) zs = marks.lead (exactly_met (shown t s ++ shown t u) (call_letters t n f args) c i exact met) in
    let front : List ℤ = shown t s ++ (s.globals ++ variable_values t.globals s.globals) in
    let own : length (shown t s) ≡ width_at t n = state_length (frame_at t n) (shown t s) (shown_state t n s k) in
    let b1 : length front ≡ length (shown t s) + length (s.globals ++ variable_values t.globals s.globals) = length-append (shown t s) (s.globals ++ variable_values t.globals s.globals) in
    let b2 : length (s.globals ++ variable_values t.globals s.globals) ≡ length s.globals + length (variable_values t.globals s.globals) = length-append s.globals (variable_values t.globals s.globals) in
    let b3 : length (variable_values t.globals s.globals) ≡ length olds = olds_length 0 t.globals s.globals gs in
    let count : length front ≡ width_at t n + columns_before_locals t = omega arith in
    let whole : shown t s ++ shown t u ≡ front ++ ls =
    ap (λ (ys : List ℤ). shown t s ++ ys) (sym (append_assoc s.globals (variable_values t.globals s.globals) ls)) ∙ sym (append_assoc (shown t s) (s.globals ++ variable_values t.globals s.globals) ls) in
    let as_many : length zs ≡ length args = length-map args (value s) in
    let many : length ls ≡ length (locals_at t f) = types_length (locals_at t f) ls typed in
    let taken : take (length zs) ls ≡ zs = front_read (shown t s ++ shown t u) front zs ls whole (omega arith) (rw count read) in
    let more : List ℤ = drop (length zs) ls in
    let split : ls ≡ zs ++ more = sym (take-append-drop (length zs) ls) ∙ ap (λ (ys : List ℤ). ys ++ more) taken in
    record { more = more; typed = subst (HasTypes (locals_at t f)) split typed; shown_is = is ∙ ap (λ (ys : List ℤ). s.globals ++ (variable_values t.globals s.globals ++ ys)) split }
