use Rattle.std.proofs.Common.{◌≡◌, ◌++◌, drop}
use Rattle.boogie_tree.specs.Printing.{block_text}
use Rattle.boogie_tree.specs.View as view
use Rattle.boogie_tree.proofs.printing.statements.+statements.Given as goal

abbrev pub invariant-block-loop-each : goal.invariant-block-loop-each
invariant-block-loop-each l = l.out.items ++ block_text l.depth (view.statements (drop l.each-index l.statements)) ≡ l.fn.out.items ++ block_text l.depth (view.statements l.statements)
