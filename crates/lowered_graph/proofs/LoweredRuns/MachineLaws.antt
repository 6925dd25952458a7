-- The laws of the stack machine, of every typed program.
use Rattle.std.proofs.Common.{◌≡◌, ◌+◌, ◌-◌, ℕ, ℤ, List, ◌++◌, length, Option, None, Some, IsTrue, refl, sym, ◌∙◌, ap, arith}
use Rattle.std.specs.Prelude.{slice_get}
use Rattle.boogie_tree.specs.declared.tree.Column.{Column}
use Rattle.typed_tree.specs.TypedTree.{TypedExpression, TypedInvariant, TypedProcedure, TypedProgram}
use Rattle.typed_tree.specs.TypingRules.ValidProgram.{is_valid}
use Rattle.letter_acts.specs.Values.{picked}
use Rattle.boogie_run.specs.BoogiePoints.Points.{Point, settled, past_first}
use Rattle.boogie_run.specs.BoogiePoints.Actions.{Action, action_at, unseen_action, called_action, chosen_columns, ensured_conditions}
use Rattle.boogie_run.specs.BoogiePoints.Starts.{targets_at}
use Rattle.boogie_run.specs.Configurations.{Config}
use Rattle.boogie_run.specs.Steps.{Failed}
use Rattle.boogie_run.specs.Runs.{run}
use Rattle.lowered_graph.specs.LoweredSteps.ProgramFrames.{frame_at}
use Rattle.lowered_graph.specs.LoweredSteps.Edges.{numbers_in}
use Rattle.lowered_graph.specs.LoweredSteps.Stacks.{Stack, IsStep, IsExact}
use Rattle.lowered_graph.specs.LoweredSteps.Moves.{IsGood, shown_stack}
use Rattle.lowered_graph.specs.LoweredImports.Imports.{IsKnownImport, IsImport, later, import_choices, told_globals}
use Rattle.lowered_graph.specs.LoweredImports.KnownPoints.{IsPointOf, StandsAtImport}
use Rattle.lowered_graph.specs.LoweredImports.Laws as imports
use Rattle.lowered_graph.specs.LoweredImports.Laws.{FailsLater, IsToldBy, helpers_of}
use Rattle.lowered_graph.proofs.LoweredImports.ImportRuns.{imports_run, runs_import}
use Rattle.lowered_graph.proofs.LoweredImports.ImportLaws.{imports_go, imports_back}
use Rattle.lowered_graph.proofs.LoweredImports.PointLaws.{knows_points, imports_known}
use Rattle.lowered_graph.specs.LoweredRuns.Choices.{call_choices, choices_of}
use Rattle.lowered_graph.specs.LoweredRuns.Laws.{MachinesFailAsRuns, ToldChoicesFail}
use Rattle.lowered_graph.proofs.LoweredRuns.Imports.{IsAtImport, IsRunImport, IsToldImport, ImportsAreSteps, ImportsAreTold}
use Rattle.lowered_graph.proofs.LoweredRuns.Machine.{fails_machine, machine_fails}
use Rattle.lowered_graph.proofs.LoweredRuns.ToldRuns.{machine_run}
use Rattle.lowered_graph.proofs.LoweredRuns.PointNumbers.{points_differ}

-- ---- the choices that are told of a call without body

later_none : (p : Point) → later p 0 ≡ p
later_none p = let e : p.part + 0 ≡ p.part = omega arith in λ i. record p { part = e i }

unseen_choices : (t : TypedProgram) (n : ℕ) (p : Point) (f : ℕ) (targets : List Column) (args : List TypedExpression) (here next : Point) (helpers : List ℤ) (y : Stack) (o : Option Column) (e : Option TypedInvariant) →
    choices_of t n p (unseen_action o e f targets args here next) helpers y ≡ call_choices t.globals (slice_get t.procs f) (numbers_in (frame_at t n) (targets_at p.todo)) helpers y.values
unseen_choices t n p f targets args here next helpers y (Some x) e = refl
unseen_choices t n p f targets args here next helpers y None (Some i) = refl
unseen_choices t n p f targets args here next helpers y None None = refl

known_choices : (t : TypedProgram) (n : ℕ) (p : Point) (f : ℕ) (args : List TypedExpression) (helpers : List ℤ) (y : Stack) → (k : IsKnownImport t n p f args) →
    choices_of t n p (action_at t n p) helpers y ≡
    import_choices (told_globals t.globals k.procedure.modifies (numbers_in (frame_at t n) (targets_at p.todo)) helpers y.values ++ picked y.values (numbers_in (frame_at t n) (targets_at p.todo)))
    (ensured_conditions k.procedure.specs)
known_choices t n p f args helpers y k =
    let q : TypedProcedure = k.procedure in
    let next : Point = settled (past_first t.procs p.todo) in
    let acts : action_at t n p ≡ called_action f q None (targets_at p.todo) args 0 (later p 0) next = ap (action_at t n) (sym (later_none p)) ∙ k.acts 0 in
    ap (λ (a : Action). choices_of t n p a helpers y) acts
    ∙ unseen_choices t n p f (targets_at p.todo) args (later p 0) next helpers y (slice_get (chosen_columns q) 0) (slice_get (ensured_conditions q.specs) (0 - length (chosen_columns q)))
    ∙ ap (λ (o : Option TypedProcedure). call_choices t.globals o (numbers_in (frame_at t n) (targets_at p.todo)) helpers y.values) k.is

-- ---- what is asked of whole calls without body

run_of_import : (t : TypedProgram) → IsTrue (is_valid t) → (c : Config) (choices : List (Option ℤ)) (i : ℕ) → IsGood t (IsPointOf t) c → IsAtImport t c → run t c choices ≡ Failed i →
    IsRunImport t (IsImport t) c choices i
run_of_import t valid c choices i g at_call fails =
    let s : StandsAtImport t c.top.proc c.top.point = imports_known t valid c.top.proc c.top.point g.top.known at_call in
    let r : FailsLater t c choices i = runs_import t (IsPointOf t) c s.callee s.args choices i g s.known fails in
    record { after = r.behind; import = r.whole; rest = r.rest; shorter = r.fewer; fails = r.fails }

back_of_import : (t : TypedProgram) → IsTrue (is_valid t) → (c : Config) (y : Stack) → IsGood t (IsPointOf t) c → IsAtImport t c → (s : IsStep t (shown_stack t c) y) → IsExact t (shown_stack t c) y s →
    IsToldBy t c y (helpers_of t (shown_stack t c) y s)
back_of_import t valid c y g at_call s exact =
    let k : StandsAtImport t c.top.proc c.top.point = imports_known t valid c.top.proc c.top.point g.top.known at_call in
    imports_back t c k.callee k.args y valid g k.known s exact

told_of_import : (t : TypedProgram) → IsTrue (is_valid t) → (c : Config) (y : Stack) → IsGood t (IsPointOf t) c → IsAtImport t c → (s : IsStep t (shown_stack t c) y) → IsExact t (shown_stack t c) y s →
    IsToldImport t (IsImport t) c y (helpers_of t (shown_stack t c) y s)
told_of_import t valid c y g at_call s exact =
    let hs : List ℤ = helpers_of t (shown_stack t c) y s in
    let b : IsToldBy t c y hs = back_of_import t valid c y g at_call s exact in
    let q : TypedProcedure = b.whole.known.procedure in
    let told : choices_of t c.top.proc c.top.point (action_at t c.top.proc c.top.point) hs y ≡ imports.choices_of t c b.behind b.whole =
    known_choices t c.top.proc c.top.point b.whole.callee b.whole.args hs y b.whole.known ∙ (λ i. import_choices (sym b.held i ++ sym b.results i) (ensured_conditions q.specs)) in
    record {
      after = b.behind;
      import = b.whole;
      shown = b.shown;
      goes = λ rest. ap (λ (xs : List (Option ℤ)). run t c (xs ++ rest)) told ∙ imports_run t (IsPointOf t) c b.behind g b.whole rest;
    }

pub imports_are_steps : (t : TypedProgram) → IsTrue (is_valid t) → ImportsAreSteps t (IsPointOf t) (IsImport t)
imports_are_steps t valid = record {
  goes = λ c d g m. (imports_go t c d valid g m).0;
  good = λ c d g m. (imports_go t c d valid g m).1;
  back = λ c y g at_call s exact. let b = back_of_import t valid c y g at_call s exact in record { after = b.behind; import = b.whole; shown = b.shown };
  runs = λ c d g m. record { choices = imports.choices_of t c d m; goes = λ rest. imports_run t (IsPointOf t) c d g m rest };
  run = λ c choices i g at_call fails. run_of_import t valid c choices i g at_call fails;
}

imports_are_told : (t : TypedProgram) → IsTrue (is_valid t) → ImportsAreTold t (IsPointOf t) (IsImport t)
imports_are_told t valid = record { told = λ c y g at_call s exact. told_of_import t valid c y g at_call s exact }

-- ---- the laws

pub machines_fail : MachinesFailAsRuns
machines_fail t i valid = record {
  follows = fails_machine t (IsPointOf t) (knows_points t valid) (IsImport t) (imports_are_steps t valid) i;
  leads = machine_fails t (IsPointOf t) (knows_points t valid) (IsImport t) (imports_are_steps t valid) i;
}

pub told_choices_fail : ToldChoicesFail
told_choices_fail t i x steps valid s r =
    machine_run t (IsPointOf t) (knows_points t valid) (λ n p q h k e. points_differ t valid n p q h k e) (IsImport t) (imports_are_steps t valid) (imports_are_told t valid) i x steps s r
