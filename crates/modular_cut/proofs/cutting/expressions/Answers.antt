use Rattle.typed_tree.specs.TypedView as view
use Rattle.modular_cut.proofs.Copied.{made_step, made_end}
use Rattle.modular_cut.proofs.cutting.expressions.Goals as goal

pub loop-part-preserved : goal.loop-part-preserved
loop-part-preserved c =
    made_step view.expression view.expression c.args.all.now c.loop-part.part-index c.part-item.result c.in_ok-copy.field-0 c.loop-part.copied.items c.push.new.self.items _
    c.loop-part-test.true c.part-item.is c.in_ok-copy.ensures c.in_ok-push.ensures.items c.loop-part.invariant

pub returns : goal.returns
returns c = made_end view.expression view.expression c.args.all.now c.loop-part.part-index c.loop-part.copied.items _ c.loop-part-test.false c.loop-part.invariant
