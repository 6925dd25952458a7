use Rattle.explained_proof.specs.Ties.Views as view
use Rattle.explained_proof.proofs.JumpLaws.{passed_on, passed_end}
use Rattle.explained_proof.proofs.backwards.JumpLabels.+label_jumps.Goals as goal

pub pass_all-loop-statement-preserved : goal.pass_all-loop-statement-preserved
pass_all-loop-statement-preserved t c =
    passed_on c.args.statements.now c.loop-statement.statement-index c.statement-item.result (view.labels c.loop-statement.self) (view.labels c.pass.new.self) _ c.loop-statement-test.true c.statement-item.is
    c.loop-statement.invariant c.in_ok-pass.ensures

pub pass_all-returns : goal.pass_all-returns
pass_all-returns t c = passed_end c.args.statements.now c.loop-statement.statement-index (view.labels c.loop-statement.self) _ c.loop-statement-test.false c.loop-statement.invariant
