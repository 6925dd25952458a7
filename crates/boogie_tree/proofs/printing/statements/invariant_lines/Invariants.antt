use Rattle.std.proofs.Common.{◌≡◌, ◌++◌, map, drop}
use Rattle.boogie_tree.specs.Printing.{invariants_text}
use Rattle.boogie_tree.specs.View as view
use Rattle.boogie_tree.proofs.printing.statements.invariant_lines.Given as goal

abbrev pub invariant-loop-invariant : goal.invariant-loop-invariant
invariant-loop-invariant l = l.out.items ++ invariants_text l.depth (map view.invariant (drop l.invariant-index l.invariants)) ≡ l.fn.out.items ++ invariants_text l.depth (map view.invariant l.invariants)
