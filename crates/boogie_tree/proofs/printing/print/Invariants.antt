use Rattle.std.proofs.Common.{◌≡◌, ◌++◌, map, drop}
use Rattle.boogie_tree.specs.Printing.{program_text}
use Rattle.boogie_tree.specs.View as view
use Rattle.boogie_tree.proofs.printing.print.Given as goal

abbrev pub invariant-loop-each : goal.invariant-loop-each
invariant-loop-each l = l.out.items ++ program_text (map view.declaration (drop l.each-index l.program.decls.items)) ≡ program_text (view.program l.program)
