use Rattle.std.proofs.Common.{arith}
use Rattle.proof_form.specs.Lines as form
use Rattle.proof_reuse.specs.Ties.Numbers.{back_three}
use Rattle.proof_reuse.proofs.SetLaws.{same_none, collected_puts, collected_skips, collected_all}
use Rattle.proof_reuse.proofs.lines.back_threes.Goals as goal
use Rattle.proof_reuse.proofs.lines.back_threes.Goals.{in-Some+in_ok-add_three, in_default}

pub loop-line-init : goal.loop-line-init
loop-line-init c = same_none _ c.new-threes.ensures.empty

pub loop-line-preserved : goal.loop-line-preserved
loop-line-preserved c =
    elim c.match-back_three.branch [
      | in-Some+in_ok-add_three w ↦
          rw w.threes-is
          (collected_puts (back_three c.args.numbers.now) form.triple c.args.lines.now c.loop-line.line-index c.line-item.result w.in-Some.three c.loop-line.threes.keys _
          c.loop-line-test.true c.line-item.is w.in-Some.ensures w.in_ok-add_three.ensures c.loop-line.invariant)
      | in_default w ↦
          rw w.threes-is
          (collected_skips (back_three c.args.numbers.now) form.triple c.args.lines.now c.loop-line.line-index c.line-item.result c.loop-line.threes.keys
          c.loop-line-test.true c.line-item.is w.in_default.ensures c.loop-line.invariant)
    ]

pub returns : goal.returns
returns c = collected_all (back_three c.args.numbers.now) form.triple c.args.lines.now c.loop-line.line-index c.loop-line.threes.keys (omega arith) c.loop-line.invariant
