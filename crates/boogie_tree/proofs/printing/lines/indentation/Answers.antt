use Rattle.boogie_tree.proofs.Loops.{indented}
use Rattle.boogie_tree.proofs.printing.lines.indentation.Goals as goal

pub loop-block-preserved : goal.loop-block-preserved
loop-block-preserved c = indented _ _ _ _ c.loop-block.invariant c.in_ok-append.ensures
