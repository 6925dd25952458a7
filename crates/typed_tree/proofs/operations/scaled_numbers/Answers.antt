use Rattle.std.proofs.Common.{rules, ℤ, pos, ◌*ℤ◌, get_or, FitsSigned}
use Rattle.std.specs.Int.{w128}
use Rattle.std.proofs.lemmas.Int.{to_z-of_z}
use Rattle.typed_tree.specs.AffineForm.{fits}
use Rattle.typed_tree.proofs.Scaled.{changed_more, changed_fails}
use Rattle.typed_tree.proofs.operations.scaled_numbers.Goals as goal

pub returns-in_default-clause-too_big : goal.returns-in_default-clause-too_big
returns-in_default-clause-too_big c _ =
    let f : FitsSigned w128 c.args.m = c.ranges.m in
    let g : FitsSigned w128 (get_or c.args.parts.now c.loop-part.part-index (pos 0)) = search rules in
    changed_fails (λ (n : ℤ). c.args.m *ℤ n) fits c.args.parts.now c.loop-part.part-index (pos 0) c.loop-part-test.true (simp to_z-of_z at c.in_default.ensures)

pub loop-part-preserved : goal.loop-part-preserved
loop-part-preserved c =
    let f : FitsSigned w128 c.args.m = c.ranges.m in
    let g : FitsSigned w128 (get_or c.args.parts.now c.loop-part.part-index (pos 0)) = search rules in
    let k : FitsSigned w128 c.in-Some.part = search rules in
    let h = simp to_z-of_z at c.in-Some.ensures in
    let v = simp to_z-of_z at c.loop-part.invariant in
    simp to_z-of_z
    (changed_more (λ (n : ℤ). c.args.m *ℤ n) fits c.args.parts.now c.loop-part.part-index (pos 0) c.in-Some.part _ _ c.loop-part-test.true v h.0 h.1
    (simp to_z-of_z at c.in_ok-push.ensures.ok))
