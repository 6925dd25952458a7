use Rattle.std.proofs.Common.{◌∙◌, ◌<◌, ℕ, ℤ, pos, length, get_or, refl, subst, sym, rules, FitsSigned}
use Rattle.std.specs.Int.{w128}
use Rattle.std.proofs.lemmas.Int.{to_z-of_z}
use Rattle.lin_rows.specs.Rows.{LinearRow}
use Rattle.lin_rows.specs.Combinations.{row_at}
use Rattle.nested_itp.specs.NestedPredicates.Runnings.{ProductsFit, AddsRow}
use Rattle.nested_itp.proofs.NestedPredicates.RunningLaws.{all_at, row_found, part_taken}
use Rattle.nested_itp.proofs.nested_predicates.running.Running.add_parts.Goals as goal

pub add_row-requires-clause-fit : goal.add_row-requires-clause-fit
add_row-requires-clause-fit c =
    let d : ℕ × ℤ = (0, pos 0) in
    let t : ℕ × ℤ = get_or c.args.parts.now c.loop-i.i d in
    let f : FitsSigned w128 t.1 = search rules in
    let h : (t.0 < length c.args.rows.now) × ProductsFit (row_at c.args.rows.now t.0) t.1 =
    all_at (λ u. (u.0 < length c.args.rows.now) × ProductsFit (row_at c.args.rows.now u.0) u.1) c.args.parts.now c.loop-i.i d c.loop-i-test.true c.requires.fit in
    simp to_z-of_z (subst (λ (r : LinearRow). ProductsFit r t.1) (row_found c.args.rows.now t.0 c.index-rows-number.result h.0 ∙ sym c.index-rows-number.is) h.1)

pub loop-i-preserved : goal.loop-i-preserved
loop-i-preserved c =
    let d : ℕ × ℤ = (0, pos 0) in
    let t : ℕ × ℤ = get_or c.args.parts.now c.loop-i.i d in
    let f : FitsSigned w128 t.1 = search rules in
    let h : (t.0 < length c.args.rows.now) × ProductsFit (row_at c.args.rows.now t.0) t.1 =
    all_at (λ u. (u.0 < length c.args.rows.now) × ProductsFit (row_at c.args.rows.now u.0) u.1) c.args.parts.now c.loop-i.i d c.loop-i-test.true c.requires.fit in
    part_taken c.args.rows.now c.args.parts.now c.loop-i.i c.args.self.now c.loop-i.self c.add_row.new.self t d c.loop-i-test.true refl c.loop-i.invariant
    (subst (λ (r : LinearRow). AddsRow r t.1 c.loop-i.self c.add_row.new.self) (c.index-rows-number.is ∙ sym (row_found c.args.rows.now t.0 c.index-rows-number.result h.0))
    (simp to_z-of_z at c.in_ok-add_row.ensures))
