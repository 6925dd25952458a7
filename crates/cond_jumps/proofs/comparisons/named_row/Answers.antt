use Rattle.std.proofs.Common.{rules, ◌≡◌, pos, [], ◌∷◌, sym, ap, subst, ◌∙◌, FitsSigned}
use Rattle.std.specs.Int.{w128}
use Rattle.std.specs.Prelude.{IfOk}
use Rattle.std.proofs.lemmas.Int.{to_z-of_z}
use Rattle.lin_rows.specs.Rows.{LinearRow}
use Rattle.lin_rows.specs.Sums.{row_of}
use Rattle.lin_rows.specs.declared.types.RowKind.TheVariants.{Eq}
use Rattle.typed_tree.specs.Values.{truth}
use Rattle.cond_jumps.specs.Conjunctions.{row_fits}
use Rattle.cond_jumps.specs.Forms.{Linear}
use Rattle.cond_jumps.specs.LongView.{long}
use Rattle.cond_jumps.specs.Ties.Totals.{terms_of}
use Rattle.cond_jumps.proofs.comparisons.named_row.Goals as goal

pub returns : goal.returns
returns c =
    let f : FitsSigned w128 c.number_of.result = search rules in
    let n : long c.in_ok-bound.bound ≡ truth c.args.want = (simp to_z-of_z at c.in_ok-bound.ensures) ∙ c.number_of.ensures in
    let e : terms_of c.as_slice.result.now ≡ (c.args.column, pos 1) ∷ [] = ap terms_of c.as_slice.ensures.value ∙ ap (λ (x : Linear). x.terms) c.in_ok-sum.ensures in
    let r : row_of (terms_of c.as_slice.result.now) Eq (long c.in_ok-bound.bound) ≡ row_of ((c.args.column, pos 1) ∷ []) Eq (truth c.args.want) = (λ j. row_of (e j) Eq (n j)) in
    let P : LinearRow → Type 0 = λ x. IfOk c.row_from.result (λ made. made ≡ x) in
    record {
      ok = subst P r c.row_from.ensures.ok;
      fits = λ k. sym (ap row_fits r) ∙ c.row_from.ensures.fits k;
      too_big = λ k. sym (ap row_fits r) ∙ c.row_from.ensures.too_big k;
    }
