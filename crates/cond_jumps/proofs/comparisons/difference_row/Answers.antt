use Rattle.std.proofs.Common.{◌≡◌, true, false, ℤ, ◌+ℤ◌, ◌-ℤ◌, List, ◌++◌, ap, ◌∙◌, subst, Err, IfOk, FitsSigned}
use Rattle.std.specs.Prelude.{IsOk}
use Rattle.std.specs.Int.{w128}
use Rattle.std.proofs.lemmas.Int.{to_z-of_z}
use Rattle.math_facts.specs.Terms.{opposite}
use Rattle.lin_rows.specs.declared.types.RowKind.{RowKind}
use Rattle.lin_rows.specs.Rows.{LinearRow}
use Rattle.lin_rows.specs.Sums.{row_of}
use Rattle.cond_jumps.specs.Conjunctions.{row_fits}
use Rattle.cond_jumps.specs.declared.totals.Term.{Term}
use Rattle.cond_jumps.specs.declared.refusal.Refusal.TheVariants.{TooBig}
use Rattle.cond_jumps.specs.LongView.{long}
use Rattle.cond_jumps.specs.Ties.Totals.{terms_of}
use Rattle.cond_jumps.proofs.comparisons.difference_row.Goals as goal

-- the row that is made
difference_is : (kind : RowKind) (now new old from given : List Term) (bound k x y : ℤ) → now ≡ new → terms_of new ≡ terms_of old ++ opposite (terms_of from) → from ≡ given →
    bound ≡ (k -ℤ x) +ℤ y → row_of (terms_of now) kind bound ≡ row_of (terms_of old ++ opposite (terms_of given)) kind ((k -ℤ x) +ℤ y)
difference_is kind now new old from given bound k x y e f g h =
    let t : terms_of now ≡ terms_of old ++ opposite (terms_of given) =
    ap terms_of e ∙ f ∙ ap (λ (l : List Term). terms_of old ++ opposite (terms_of l)) g in
    λ j. row_of (t j) kind (h j)

pub returns-clause-ok : goal.returns-clause-ok
returns-clause-ok c =
    let f : FitsSigned w128 c.args.k = c.ranges.k in
    let b = simp to_z-of_z at c.in_ok-bound.ensures in
    let e = difference_is c.args.kind c.as_slice-2.result.now c.push_opposites.new.terms.items c.args.terms.now.items c.as_slice.result.now c.args.b.now.terms.items
    (long c.in_ok-bound.bound) c.args.k (long c.args.constant.now) (long c.args.b.now.constant) c.as_slice-2.ensures.value c.in_ok-push_opposites.ensures c.as_slice.ensures.value b in
    subst (λ (s : LinearRow). IfOk c.row_from.result (λ r. r ≡ s)) e c.row_from.ensures.ok

pub returns-clause-fits : goal.returns-clause-fits
returns-clause-fits c =
    let f : FitsSigned w128 c.args.k = c.ranges.k in
    let b = simp to_z-of_z at c.in_ok-bound.ensures in
    let e = difference_is c.args.kind c.as_slice-2.result.now c.push_opposites.new.terms.items c.args.terms.now.items c.as_slice.result.now c.args.b.now.terms.items
    (long c.in_ok-bound.bound) c.args.k (long c.args.constant.now) (long c.args.b.now.constant) c.as_slice-2.ensures.value c.in_ok-push_opposites.ensures c.as_slice.ensures.value b in
    subst (λ (s : LinearRow). IsOk c.row_from.result → row_fits s ≡ true) e c.row_from.ensures.fits

pub returns-clause-too_big : goal.returns-clause-too_big
returns-clause-too_big c =
    let f : FitsSigned w128 c.args.k = c.ranges.k in
    let b = simp to_z-of_z at c.in_ok-bound.ensures in
    let e = difference_is c.args.kind c.as_slice-2.result.now c.push_opposites.new.terms.items c.args.terms.now.items c.as_slice.result.now c.args.b.now.terms.items
    (long c.in_ok-bound.bound) c.args.k (long c.args.constant.now) (long c.args.b.now.constant) c.as_slice-2.ensures.value c.in_ok-push_opposites.ensures c.as_slice.ensures.value b in
    subst (λ (s : LinearRow). c.row_from.result ≡ Err TooBig → row_fits s ≡ false) e c.row_from.ensures.too_big
