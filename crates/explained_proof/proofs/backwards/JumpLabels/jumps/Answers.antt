use Rattle.explained_proof.specs.Ties.Views as view
use Rattle.explained_proof.proofs.JumpLaws.{jumps_on, jumps_end}
use Rattle.explained_proof.proofs.backwards.JumpLabels.jumps.Goals as goal

pub loop-number-preserved : goal.loop-number-preserved
loop-number-preserved c =
    jumps_on c.args.numbers.now c.loop-number.number-index (view.labels c.loop-number.self) (view.labels c.jump.new.self) _ c.loop-number-test.true c.loop-number.invariant c.in_ok-jump.ensures

pub returns : goal.returns
returns c = jumps_end c.args.numbers.now c.loop-number.number-index (view.labels c.loop-number.self) _ c.loop-number-test.false c.loop-number.invariant
