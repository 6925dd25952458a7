use Rattle.std.proofs.Common.{map, arith}
use Rattle.std.proofs.lemmas.List.{length-map}
use Rattle.proof_names.specs.Outlines.{node}
use Rattle.proof_check.proofs.FirstLaws.{node_got}
use Rattle.proof_check.proofs.MarkLaws.{marked_on, marked_all}
use Rattle.proof_check.proofs.index.marks_of.Goals as goal

pub loop-number-preserved : goal.loop-number-preserved
loop-number-preserved c =
    marked_on (map node c.args.nodes.now) c.loop-number.number (node c.index-nodes-number.result) _ _ c.loop-number.invariant
    (node_got c.args.nodes.now c.loop-number.number c.index-nodes-number.result c.loop-number-test.true c.index-nodes-number.is) (rw c.deref.ensures.value at c.in_ok-mark_all.ensures)

pub returns : goal.returns
returns c = marked_all (map node c.args.nodes.now) c.loop-number.number _ c.loop-number.invariant (omega (arith, length-map c.args.nodes.now node))
