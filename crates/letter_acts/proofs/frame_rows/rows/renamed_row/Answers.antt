use Rattle.std.proofs.Common.{◌≡◌, ◌∙◌, ℕ, ℤ, pos, List, length, get_or, map, take, refl, sym, ap, subst, rules}
use mir.Val.{SFits}
use mir.Syntax.{w128}
use Rattle.std.specs.Prelude.{slice_index}
use Rattle.std.proofs.lemmas.Int.{to_z-of_z}
use Rattle.std.proofs.lemmas.List.{take_all}
use Rattle.math_facts.specs.Terms.{IsBelow}
use Rattle.lin_rows.specs.Sums.{SumsFit}
use Rattle.lin_rows.proofs.PointLemmas.{IsBelow_at}
use Rattle.letter_acts.proofs.FrameRows.RenamingLaws.{named_sums_fit}
use Rattle.letter_acts.proofs.FrameRows.LoopLaws.{mapped_next}
use Rattle.letter_acts.proofs.frame_rows.rows.renamed_row.Goals as goal

pub bounds-names-column : goal.bounds-names-column
bounds-names-column c =
    IsBelow_at (length c.args.names.now) c.terms-column-items.result.now c.loop-column.column-index (0, pos 0) c.loop-column-test.true
    (subst (IsBelow (length c.args.names.now)) (sym c.terms-column-items.ensures.value) c.requires.below)

pub fitting_row-requires : goal.fitting_row-requires
fitting_row-requires c =
    let items = c.terms-column-items.result.now in
    let value = c.terms-column-items.ensures.value in
    let all : take c.loop-column.column-index items ≡ c.args.row.now.terms = take_all c.loop-column.column-index items c.loop-column-test.false ∙ value in
    let terms : c.as_slice.result.now ≡ map (λ t. (slice_index c.args.names.now t.0, t.1)) c.args.row.now.terms =
    c.as_slice.ensures ∙ c.loop-column.invariant ∙ ap (λ (ts : List (ℕ × ℤ)). map (λ t. (slice_index c.args.names.now t.0, t.1)) ts) all in
    let fit : SumsFit c.as_slice.result.now c.bound.result =
    subst (λ (ts : List (ℕ × ℤ)). SumsFit ts c.bound.result) (sym terms)
    (subst (SumsFit (map (λ t. (slice_index c.args.names.now t.0, t.1)) c.args.row.now.terms)) (sym c.bound.ensures)
    (named_sums_fit c.args.names.now c.args.row.now c.requires.differ c.terms-column-items.ensures.valid)) in
    let small : SFits w128 c.bound.result = search rules in
    simp to_z-of_z fit

pub loop-column-preserved : goal.loop-column-preserved
loop-column-preserved c =
    let names = c.args.names.now in
    let items = c.terms-column-items.result.now in
    let i = c.loop-column.column-index in
    let t : ℕ × ℤ = get_or items i (0, pos 0) in
    let fits : SFits w128 t.1 = search rules in
    mapped_next (λ (t : ℕ × ℤ). (slice_index names t.0, t.1)) items i (0, pos 0) c.loop-column.terms.items c.push.new.self.items (slice_index names t.0, t.1) c.loop-column-test.true
    c.loop-column.invariant (simp to_z-of_z at c.in_ok-push.ensures.ok) refl
