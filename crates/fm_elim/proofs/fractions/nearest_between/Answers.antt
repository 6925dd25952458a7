use Rattle.std.proofs.Common.{rules, FitsSigned}
use Rattle.std.specs.Int.{w128}
use Rattle.std.proofs.lemmas.Int.{to_z-of_z}
use Rattle.fm_elim.proofs.ValueLemmas.{nearest_inside}
use Rattle.fm_elim.proofs.fractions.nearest_between.Goals as goal

pub returns-then-least-greatest : goal.returns-then-least-greatest
returns-then-least-greatest c =
    let f : FitsSigned w128 c.ceiling-least.result = search rules in
    let g : FitsSigned w128 c.floor-greatest.result = search rules in
    let m : FitsSigned w128 c.min.result = search rules in
    let z : FitsSigned w128 c.max.result = search rules in
    nearest_inside c.args.lower c.args.upper c.ceiling-least.result c.floor-greatest.result c.min.result c.max.result c.whole.result
    c.ceiling-least.ensures.value c.floor-greatest.ensures.value (simp to_z-of_z at c.if-least-greatest.true) (simp to_z-of_z at c.min.ensures.value)
    (simp to_z-of_z at c.max.ensures.value) (simp to_z-of_z at c.whole.ensures)
