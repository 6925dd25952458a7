use Rattle.std.proofs.Common.{◌≡◌, ◌++◌, drop}
use Rattle.boogie_tree.specs.Printing.{locals_text}
use Rattle.boogie_tree.proofs.printing.declarations.local_lines.Given as goal

abbrev pub invariant-loop-local : goal.invariant-loop-local
invariant-loop-local l = l.out.items ++ locals_text (drop l.local-index l.locals) ≡ l.fn.out.items ++ locals_text l.locals
