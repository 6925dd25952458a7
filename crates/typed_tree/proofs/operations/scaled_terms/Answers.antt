use Rattle.std.proofs.Common.{rules, ℤ, pos, ◌*ℤ◌, get_or, ap, ◌∙◌, map, FitsSigned}
use Rattle.std.specs.Int.{w128}
use Rattle.std.proofs.lemmas.Int.{to_z-of_z}
use Rattle.std.proofs.lemmas.List.{take_all}
use Rattle.boogie_tree.specs.declared.tree.Column.{Column}
use Rattle.boogie_tree.specs.declared.tree.Column.TheVariants.{Global}
use Rattle.typed_tree.specs.AffineForm.{fits}
use Rattle.typed_tree.proofs.Scaled.{changed_more, changed_fails, scaled_valid}
use Rattle.typed_tree.proofs.operations.scaled_terms.Goals as goal

pub returns-in_default-clause-too_big : goal.returns-in_default-clause-too_big
returns-in_default-clause-too_big c _ =
    let f : FitsSigned w128 c.args.m = c.ranges.m in
    let g : FitsSigned w128 (get_or c.args.terms.now c.loop-column.column-index (Global 0, pos 0)).1 = search rules in
    changed_fails (λ (t : Column × ℤ). (t.0, c.args.m *ℤ t.1)) (λ t. fits t.1) c.args.terms.now c.loop-column.column-index (Global 0, pos 0) c.loop-column-test.true (simp to_z-of_z at c.in_default.ensures)

pub loop-column-preserved : goal.loop-column-preserved
loop-column-preserved c =
    let f : FitsSigned w128 c.args.m = c.ranges.m in
    let g : FitsSigned w128 (get_or c.args.terms.now c.loop-column.column-index (Global 0, pos 0)).1 = search rules in
    let k : FitsSigned w128 c.in-Some.coefficient = search rules in
    let h = simp to_z-of_z at c.in-Some.ensures in
    let v = simp to_z-of_z at c.loop-column.invariant in
    simp to_z-of_z
    (changed_more (λ (t : Column × ℤ). (t.0, c.args.m *ℤ t.1)) (λ t. fits t.1) c.args.terms.now c.loop-column.column-index (Global 0, pos 0)
    ((get_or c.args.terms.now c.loop-column.column-index (Global 0, pos 0)).0, c.in-Some.coefficient) _ _ c.loop-column-test.true v
    (ap (λ (z : ℤ). ((get_or c.args.terms.now c.loop-column.column-index (Global 0, pos 0)).0, z)) h.0) h.1
    (simp to_z-of_z at c.in_ok-push.ensures.ok))

pub returns-clause-valid : goal.returns-clause-valid
returns-clause-valid c =
    let f : FitsSigned w128 c.args.m = c.ranges.m in
    let v = simp to_z-of_z at c.loop-column.invariant in
    scaled_valid c.args.m c.args.terms.now _ c.requires
    (v.value ∙ ap (map (λ (t : Column × ℤ). (t.0, c.args.m *ℤ t.1))) (take_all c.loop-column.column-index c.args.terms.now c.loop-column-test.false)) v.fit
