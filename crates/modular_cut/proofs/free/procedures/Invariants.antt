use Rattle.std.proofs.Common.{◌≡◌, map, drop}
use Rattle.std.specs.Prelude.{flat_map}
use Rattle.typed_tree.specs.TypedView as view
use Rattle.modular_cut.specs.Ties.Earliest.{earliest}
use Rattle.modular_cut.specs.FreeConditions.{free_procedure}
use Rattle.modular_cut.proofs.free.procedures.Given as goal

abbrev pub invariant-loop-said : goal.invariant-loop-said
invariant-loop-said l = earliest l.first (flat_map free_procedure (map view.procedure (drop l.said-index l.all))) ≡ earliest l.initial.first (flat_map free_procedure (map view.procedure l.all))
