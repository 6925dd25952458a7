use Rattle.std.proofs.Common.{pos, eqb}
use Rattle.std.specs.HashMap.{get}
use Rattle.nwa_base.specs.Groups.{grouped}
use Rattle.nested_itp.proofs.NestedPredicates.TableSteps.{parts_next}
use Rattle.nested_itp.proofs.nested_predicates.leaves.parts_by_stamp.Goals as goal

pub loop-part-preserved : goal.loop-part-preserved
loop-part-preserved c = λ s.
    parts_next c.args.stamps.now s c.args.parts.now c.loop-part.part-index (0, pos 0) (grouped (get eqb c.loop-part.groups.by_key s)) (grouped (get eqb c.add.new.self.by_key s))
    c.loop-part-test.true (c.in_ok-add.ensures.ok s) (c.loop-part.invariant s)
