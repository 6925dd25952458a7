use Rattle.std.proofs.Common.{◌≡◌, map, drop}
use Rattle.std.specs.List.{position_from}
use Rattle.typed_tree.specs.TypedView as typed
use Rattle.explained_proof.specs.Explained as spec
use Rattle.explained_proof.proofs.procedures.Telling.number_of.Given as goal

abbrev pub invariant-loop-number : goal.invariant-loop-number
invariant-loop-number l =
    position_from (spec.is_of l.name) l.number (map typed.procedure (drop l.number l.listed-items)) ≡ position_from (spec.is_of l.name) 0 (map typed.procedure l.listed-items)
