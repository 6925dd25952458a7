use Rattle.std.proofs.Common.{ap, ◌∙◌}
use Rattle.farkas_check.proofs.WalkLaws.{held_more}
use Rattle.farkas_check.proofs.walk.push_groups.Goals as goal

pub loop-group-preserved : goal.loop-group-preserved
loop-group-preserved c =
    let v = c.deref-group-items.ensures.value in
    held_more c.loop-group.groups.items c.push.new.self.items c.args.groups.now.items c.as_slice.result c.args.more.now.items c.loop-group.group-index c.group-item.result
    (rw v at c.loop-group-test.true) c.loop-group.invariant c.in_ok-push.ensures.items (c.as_slice.ensures.value ∙ ap (λ g. g.items) (rw v at c.group-item.is))
