use Rattle.std.proofs.Common.{map, ap, ◌∙◌}
use Rattle.typed_tree.specs.TypedView as view
use Rattle.typed_tree.proofs.Copied.{copied_more, copied_all}
use Rattle.typed_tree.proofs.copying.specifications.Goals as goal

pub loop-part-preserved : goal.loop-part-preserved
loop-part-preserved c =
    copied_more view.specification c.deref-part-items.result.now c.loop-part.part-index c.part-item.result c.in_ok-copy.field-0 c.loop-part.copied.items c.push.new.self.items
    c.loop-part-test.true c.part-item.is c.in_ok-copy.ensures c.in_ok-push.ensures.items c.loop-part.invariant

pub returns : goal.returns
returns c =
    copied_all view.specification c.deref-part-items.result.now c.loop-part.part-index c.loop-part.copied.items c.loop-part-test.false c.loop-part.invariant
    ∙ ap (map view.specification) c.deref-part-items.ensures.value
