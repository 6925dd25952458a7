use Rattle.std.proofs.Common.{◌∙◌, ◌+◌, ℕ, ap, map, take, arith}
use Rattle.std.specs.Prelude.{slice_get}
use Rattle.typed_tree.specs.TypedView as view
use Rattle.typed_tree.specs.TypingRules.Counts.{plain_invariants}
use Rattle.boogie_run.specs.BoogiePoints.Points.{at_exit}
use Rattle.boogie_run.specs.BoogiePoints.Actions as spec
use Rattle.boogie_run.specs.BoogiePoints.Ties.AtStatement.{at_part}
use Rattle.boogie_run.proofs.BoogiePoints.ToldLaws.{head_some, head_none, taken_seen, taken_fits}
use Rattle.boogie_run.proofs.boogie_points.acting.head.Goals as goal

pub plain_count-requires : goal.plain_count-requires
plain_count-requires c = omega (arith, taken_fits c.args.part c.args.id c.args.conditions.now c.requires)

pub overflow_add-id : goal.overflow_add-id
overflow_add-id c = omega (arith, c.plain_count.ensures, taken_fits c.args.part c.args.id c.args.conditions.now c.requires)

pub returns-in-Some : goal.returns-in-Some
returns-in-Some c =
    c.checked.ensures
    ∙ head_some (slice_get (map view.invariant c.args.conditions.now) c.args.part) (view.invariant c.in-Some.condition.now) _
    (c.args.id + plain_invariants (take c.args.part (map view.invariant c.args.conditions.now))) (at_part c.args.part) (spec.guarded (view.guard c.args.guard.now) at_exit at_exit)
    c.in-Some.ensures (ap (λ (n : ℕ). c.args.id + n) (c.plain_count.ensures ∙ taken_seen c.args.part c.args.conditions.now))

pub returns-in-None : goal.returns-in-None
returns-in-None c = c.guarded.ensures ∙ head_none _ _ _ _ c.in-None.ensures
