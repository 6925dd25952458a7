use Rattle.std.proofs.Common.{◌≡◌, ◌+◌, ◌-◌, ◌++◌, map}
use Rattle.boogie_tree.specs.Tree.{Declares}
use Rattle.boogie_tree.specs.View as view
use Rattle.automizer_top.specs.GeneratedProgram.Generated.{chain, generated}
use Rattle.automizer_top.proofs.generated_program.generating.add_chain.Given as goal

abbrev pub invariant-loop-number : goal.invariant-loop-number
invariant-loop-number l = map view.declaration l.decls.items ++ map Declares (chain l.number (l.count + 1 - l.number)) ≡ generated l.count
