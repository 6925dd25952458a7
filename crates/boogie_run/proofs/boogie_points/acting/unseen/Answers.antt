use Rattle.std.proofs.Common.{◌≡◌, ◌∙◌, ◌-◌, ◌+◌, ℕ, List, ap, map, length, arith}
use Rattle.std.specs.Prelude.{slice_get}
use Rattle.typed_tree.specs.declared.types.TSpec.{TSpec}
use Rattle.typed_tree.specs.TypedView as view
use Rattle.boogie_run.specs.BoogiePoints.Actions.{chosen_columns, ensured_conditions}
use Rattle.boogie_run.proofs.BoogiePoints.ChoiceLaws.{chosen_counted}
use Rattle.boogie_run.proofs.BoogiePoints.ToldLaws.{unseen_grant, unseen_finish, past_none}
use Rattle.boogie_run.proofs.boogie_points.acting.unseen.Goals as goal

pub overflow_sub-done : goal.overflow_sub-done
overflow_sub-done c =
    omega (arith, past_none (chosen_columns (view.procedure c.args.called.now)) c.args.done c.in_default.ensures, chosen_counted (view.procedure c.args.called.now))

pub returns-in-Some-ensured_condition : goal.returns-in-Some-ensured_condition
returns-in-Some-ensured_condition c =
    let count : c.len.result + c.args.called.now.results ≡ length (chosen_columns (view.procedure c.args.called.now)) = omega (arith, chosen_counted (view.procedure c.args.called.now)) in
    unseen_grant _ _ (view.invariant c.in-Some-ensured_condition.condition.now) _ _ _ c.in_default.ensures
    (c.in-Some-ensured_condition.ensures ∙ ap (λ (ss : List TSpec). slice_get (ensured_conditions (map view.specification ss)) (c.args.done - (c.len.result + c.args.called.now.results))) c.deref.ensures.value
    ∙ ap (λ (n : ℕ). slice_get (ensured_conditions (map view.specification c.args.called.now.specs.items)) (c.args.done - n)) count)

pub returns-in-None : goal.returns-in-None
returns-in-None c =
    let count : c.len.result + c.args.called.now.results ≡ length (chosen_columns (view.procedure c.args.called.now)) = omega (arith, chosen_counted (view.procedure c.args.called.now)) in
    unseen_finish _ _ _ _ _ c.in_default.ensures
    (c.in-None.ensures ∙ ap (λ (ss : List TSpec). slice_get (ensured_conditions (map view.specification ss)) (c.args.done - (c.len.result + c.args.called.now.results))) c.deref.ensures.value
    ∙ ap (λ (n : ℕ). slice_get (ensured_conditions (map view.specification c.args.called.now.specs.items)) (c.args.done - n)) count)
