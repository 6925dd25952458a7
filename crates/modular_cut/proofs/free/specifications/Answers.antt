use Rattle.std.proofs.Common.{map, refl}
use Rattle.std.specs.Prelude.{flat_map}
use Rattle.typed_tree.specs.TypedView as view
use Rattle.modular_cut.specs.FreeConditions.{free_specification}
use Rattle.modular_cut.proofs.First.{found_more, found_end}
use Rattle.modular_cut.proofs.free.specifications.Goals as goal

pub loop-said-preserved : goal.loop-said-preserved
loop-said-preserved c =
    found_more (λ x. free_specification (view.specification x)) (λ xs. flat_map free_specification (map view.specification xs)) (λ x xs. refl) c.args.all.now c.loop-said.said-index c.said-item.result c.loop-said.first c.specification-first.result _
    c.loop-said-test.true c.said-item.is c.specification-first.ensures c.loop-said.invariant

pub returns : goal.returns
returns c = found_end (λ xs. flat_map free_specification (map view.specification xs)) refl c.args.all.now c.loop-said.said-index c.loop-said.first _ c.loop-said-test.false c.loop-said.invariant
