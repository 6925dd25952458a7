use Rattle.std.proofs.Common.{◌∙◌}
use Rattle.std.proofs.lemmas.List.{take_all}
use Rattle.modular_cut.proofs.Copied.{taken_more}
use Rattle.modular_cut.proofs.cutting.variables.Goals as goal

pub loop-part-preserved : goal.loop-part-preserved
loop-part-preserved c =
    taken_more c.args.all.now c.loop-part.part-index c.part-item.result c.in_ok-copy.field-0 c.loop-part.copied.items c.push.new.self.items
    c.loop-part-test.true c.part-item.is c.in_ok-copy.ensures c.in_ok-push.ensures.items c.loop-part.invariant

pub returns : goal.returns
returns c = c.loop-part.invariant ∙ take_all c.loop-part.part-index c.args.all.now c.loop-part-test.false
