use Rattle.std.proofs.Common.{◌≡◌, ◌∙◌, ◌<◌, ◌+◌, ◌^◌, List, ap, sym, map, length, arith}
use Rattle.std.specs.Prelude.{slice_get}
use Rattle.typed_tree.specs.declared.types.TSpec.{TSpec}
use Rattle.typed_tree.specs.TypedView as view
use Rattle.boogie_run.specs.BoogiePoints.Actions.{plain_conditions}
use Rattle.boogie_run.proofs.BoogiePoints.ToldLaws.{call_fits, past_none}
use Rattle.boogie_run.proofs.boogie_points.acting.call.Goals as goal

pub overflow_cast-result : goal.overflow_cast-result
overflow_cast-result c =
    let fits : c.args.id + c.args.part < 2 ^ 32 = call_fits (slice_get (map view.procedure c.args.procs.now) c.args.callee) (view.procedure c.in-Some.called.now) (map view.specification c.deref.result.now)
    c.args.id c.args.part (view.invariant c.in-Some-plain_condition.condition.now) c.in-Some.ensures (ap (map view.specification) c.deref.ensures.value) c.in-Some-plain_condition.ensures c.requires.room in
    omega arith

pub overflow_add-result : goal.overflow_add-result
overflow_add-result c =
    let fits : c.args.id + c.args.part < 2 ^ 32 = call_fits (slice_get (map view.procedure c.args.procs.now) c.args.callee) (view.procedure c.in-Some.called.now) (map view.specification c.deref.result.now)
    c.args.id c.args.part (view.invariant c.in-Some-plain_condition.condition.now) c.in-Some.ensures (ap (map view.specification) c.deref.ensures.value) c.in-Some-plain_condition.ensures c.requires.room in
    omega arith

pub overflow_sub-part : goal.overflow_sub-part
overflow_sub-part c =
    let count : c.demanded.result ≡ length (plain_conditions (map view.specification c.deref.result.now)) =
    c.demanded.ensures ∙ ap (λ (ss : List TSpec). length (plain_conditions (map view.specification ss))) (c.deref-2.ensures.value ∙ sym c.deref.ensures.value) in
    omega (arith, count, past_none (plain_conditions (map view.specification c.deref.result.now)) c.args.part c.in_default-plain_condition.ensures)
