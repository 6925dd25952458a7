use Rattle.std.proofs.Common.{◌≡◌, ◌++◌, map}
use Rattle.boogie_tree.specs.View as tree
use Rattle.explained_proof.specs.Explained as spec
use Rattle.explained_proof.specs.Ties.Views as view
use Rattle.explained_proof.proofs.programs.declarations.Given as goal

abbrev pub invariant-loop-each : goal.invariant-loop-each
invariant-loop-each l =
    map tree.declaration l.out.items ++ spec.explained (view.told l.telling) (map tree.declaration l.each-iterator.rest.items) ≡ spec.explained (view.told l.telling) (map tree.declaration l.fn.given.items)
