use Rattle.std.proofs.Common.{◌≡◌, map, take}
use Rattle.std.specs.List.{flat_map}
use Rattle.boogie_tree.specs.View as tree
use Rattle.explained_proof.specs.Clauses as spec
use Rattle.explained_proof.specs.Ties.Views as view
use Rattle.explained_proof.proofs.clauses.Procedure.holding.Given as goal

abbrev pub invariant-loop-entered : goal.invariant-loop-entered
invariant-loop-entered l = map tree.expression l.clauses.items ≡ flat_map (spec.holding_for (view.procedure l.self) l.position l.place) (take l.entered-index l.entered-items)
