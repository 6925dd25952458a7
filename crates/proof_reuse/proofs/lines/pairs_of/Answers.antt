use Rattle.std.proofs.Common.{cond, arith}
use Rattle.proof_form.specs.Lines as form
use Rattle.proof_reuse.specs.Ties.Numbers.{inside_pair, call_pair}
use Rattle.proof_reuse.proofs.SetLaws.{same_none, collected_puts, collected_skips, collected_all}
use Rattle.proof_reuse.proofs.lines.pairs_of.Goals as goal
use Rattle.proof_reuse.proofs.lines.pairs_of.Goals.{in-Some+in_ok-add_pair, in_default}

pub loop-line-init : goal.loop-line-init
loop-line-init c = same_none _ c.new-pairs.ensures.empty

pub loop-line-preserved : goal.loop-line-preserved
loop-line-preserved c =
    elim c.match-pair_of.branch [
      | in-Some+in_ok-add_pair w ↦
          rw w.pairs-is
          (collected_puts (cond c.args.is_call call_pair inside_pair c.args.numbers.now) form.triple c.args.lines.now c.loop-line.line-index c.line-item.result w.in-Some.pair c.loop-line.pairs.keys _
          c.loop-line-test.true c.line-item.is w.in-Some.ensures w.in_ok-add_pair.ensures c.loop-line.invariant)
      | in_default w ↦
          rw w.pairs-is
          (collected_skips (cond c.args.is_call call_pair inside_pair c.args.numbers.now) form.triple c.args.lines.now c.loop-line.line-index c.line-item.result c.loop-line.pairs.keys
          c.loop-line-test.true c.line-item.is w.in_default.ensures c.loop-line.invariant)
    ]

pub returns : goal.returns
returns c = collected_all (cond c.args.is_call call_pair inside_pair c.args.numbers.now) form.triple c.args.lines.now c.loop-line.line-index c.loop-line.pairs.keys (omega arith) c.loop-line.invariant
