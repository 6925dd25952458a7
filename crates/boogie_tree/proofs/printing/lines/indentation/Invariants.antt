use Rattle.std.proofs.Common.{◌≡◌, ◌++◌}
use Rattle.boogie_tree.specs.Printing.{indent}
use Rattle.boogie_tree.proofs.printing.lines.indentation.Given as goal

abbrev pub invariant-loop-block : goal.invariant-loop-block
invariant-loop-block l = l.out.items ≡ l.fn.out.items ++ indent l._block
