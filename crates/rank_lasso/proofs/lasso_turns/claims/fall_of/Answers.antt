use Rattle.std.proofs.Common.{◌∙◌, ℕ, ℤ, pos, ◌+ℤ◌, neg_ℤ, List, ◌++◌, length, get_or, FitsSigned, sym, ap, append-nil}
use Rattle.std.specs.Int.{w128}
use Rattle.std.proofs.lemmas.Int.{to_z-of_z}
use Rattle.std.proofs.lemmas.List.{drop_all}
use Rattle.math_facts.specs.Fits.{Fits}
use Rattle.math_facts.specs.Terms.{opposite}
use Rattle.lin_rows.proofs.PointLemmas.{IsBelow_at}
use Rattle.rank_lasso.specs.LassoTurns.Claims.{at_versions}
use Rattle.rank_lasso.proofs.LassoTurns.FitLaws.{signed, opposite_signed, fit_at, fall_goes}
use Rattle.rank_lasso.proofs.lasso_turns.claims.fall_of.Goals as goal

pub bounds-after-column : goal.bounds-after-column
bounds-after-column c = IsBelow_at (length c.args.after.now) c.args.terms.now c.loop-column.column-index (0, pos 0) c.loop-column-test.true c.requires.within

pub loop-column-init : goal.loop-column-init
loop-column-init c = ap (λ (v : List (ℕ × ℤ)). v ++ opposite (at_versions c.args.after.now c.args.terms.now)) c.in_ok-given.ensures.items

pub loop-column-preserved : goal.loop-column-preserved
loop-column-preserved c =
    let q : Fits (get_or c.args.terms.now c.loop-column.column-index (0, pos 0)).1 = fit_at c.args.terms.now c.loop-column.column-index (0, pos 0) c.loop-column-test.true c.requires.fits in
    let f : FitsSigned w128 (get_or c.args.terms.now c.loop-column.column-index (0, pos 0)).1 = signed (get_or c.args.terms.now c.loop-column.column-index (0, pos 0)).1 q in
    let g : FitsSigned w128 (pos 0 +ℤ neg_ℤ (get_or c.args.terms.now c.loop-column.column-index (0, pos 0)).1) = opposite_signed (get_or c.args.terms.now c.loop-column.column-index (0, pos 0)).1 q in
    fall_goes c.args.after.now c.args.terms.now c.loop-column.given.items c.push.new.self.items _ c.loop-column.column-index (0, pos 0) c.loop-column-test.true (simp to_z-of_z at c.in_ok-push.ensures.items)
    c.loop-column.invariant

pub returns : goal.returns
returns c =
    sym (append-nil c.loop-column.given.items) ∙
    ap (λ (ts : List (ℕ × ℤ)). c.loop-column.given.items ++ opposite (at_versions c.args.after.now ts)) (sym (drop_all c.loop-column.column-index c.args.terms.now c.loop-column-test.false)) ∙
    c.loop-column.invariant
