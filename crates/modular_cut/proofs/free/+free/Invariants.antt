use Rattle.std.proofs.Common.{◌≡◌, drop}
use Rattle.typed_tree.specs.TypedView as view
use Rattle.modular_cut.specs.Ties.Earliest.{earliest}
use Rattle.modular_cut.specs.FreeConditions.{free_block}
use Rattle.modular_cut.proofs.free.+free.Given as goal

abbrev pub invariant-statements-loop-said : goal.invariant-statements-loop-said
invariant-statements-loop-said l = earliest l.first (free_block (view.statements (drop l.said-index l.said-items))) ≡ earliest l.initial.first (free_block (view.statements l.said-items))
