use Rattle.std.proofs.Common.{map, ap, ◌∙◌}
use Rattle.typed_tree.specs.TypedView as view
use Rattle.typed_tree.proofs.Copied.{copied_more, copied_all}
use Rattle.typed_tree.proofs.+statements.Goals as goal

pub copying::statements-loop-part-preserved : goal.copying::statements-loop-part-preserved
copying::statements-loop-part-preserved t c =
    copied_more view.statement c.deref-part-items.result.now c.loop-part.part-index c.part-item.result c.in_ok-copy.field-0 c.loop-part.copied.items c.push.new.self.items
    c.loop-part-test.true c.part-item.is c.in_ok-copy.ensures c.in_ok-push.ensures.items c.loop-part.invariant

pub copying::statements-returns : goal.copying::statements-returns
copying::statements-returns t c =
    ap view.block
    (copied_all view.statement c.deref-part-items.result.now c.loop-part.part-index c.loop-part.copied.items c.loop-part-test.false c.loop-part.invariant
    ∙ ap (map view.statement) c.deref-part-items.ensures.value)
