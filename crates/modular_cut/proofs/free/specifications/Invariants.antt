use Rattle.std.proofs.Common.{◌≡◌, map, drop}
use Rattle.std.specs.Prelude.{flat_map}
use Rattle.typed_tree.specs.TypedView as view
use Rattle.modular_cut.specs.Ties.Earliest.{earliest}
use Rattle.modular_cut.specs.FreeConditions.{free_specification}
use Rattle.modular_cut.proofs.free.specifications.Given as goal

abbrev pub invariant-loop-said : goal.invariant-loop-said
invariant-loop-said l = earliest l.first (flat_map free_specification (map view.specification (drop l.said-index l.all))) ≡ earliest l.initial.first (flat_map free_specification (map view.specification l.all))
