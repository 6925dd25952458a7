use Rattle.std.proofs.Common.{rules, ◌≡◌, ◌∙◌, ◌++◌, ◌∷◌, [], ◌+◌, ◌<◌, ℕ, zero, suc, ℤ, pos, ◌+ℤ◌, neg_ℤ, List, FitsSigned, length, take, get_or, ap, sym, arith}
use Rattle.std.specs.Int.{w128}
use Rattle.std.specs.List.{AllByRecursion}
use Rattle.std.proofs.lemmas.Int.{to_z-of_z, ints}
use Rattle.std.proofs.lemmas.List.{map_more}
use Rattle.math_facts.specs.Fits.{Fits}
use Rattle.math_facts.specs.Terms.{opposite}
use Rattle.lin_rows.specs.Rows.{IsCoefficient}
use Rattle.fm_elim.proofs.rows.opposite.Goals as goal

fits_at : (ts : List (ℕ × ℤ)) (i : ℕ) (d : ℕ × ℤ) → i < length ts → AllByRecursion IsCoefficient ts → Fits (get_or ts i d).1
fits_at [] i d l h = absurd (omega (arith, l))
fits_at (t ∷ ts) zero d l h = h.0.fits
fits_at (t ∷ ts) (suc i) d l h = fits_at ts i d (omega (arith, l)) h.1

from_zero : (z : ℤ) → pos 0 +ℤ z ≡ z
from_zero z = omega (arith, ints)

neg_fits : (z : ℤ) → Fits z → FitsSigned w128 (pos 0 +ℤ neg_ℤ z)
neg_fits z h = search (rules, ints)

-- one term more
opposite_next : (ts : List (ℕ × ℤ)) (i : ℕ) (now new : List (ℕ × ℤ)) → i < length ts → now ≡ opposite (take i ts) →
    new ≡ now ++ ((get_or ts i (0, pos 0)).0, pos 0 +ℤ neg_ℤ (get_or ts i (0, pos 0)).1) ∷ [] → new ≡ opposite (take (i + 1) ts)
opposite_next ts i now new l h e =
    let t : ℕ × ℤ = get_or ts i (0, pos 0) in
    e ∙ ap (λ (z : ℤ). now ++ (t.0, z) ∷ []) (from_zero (neg_ℤ t.1)) ∙ ap (λ (us : List (ℕ × ℤ)). us ++ (t.0, neg_ℤ t.1) ∷ []) h ∙ sym (map_more (λ (u : ℕ × ℤ). (u.0, neg_ℤ u.1)) ts i (0, pos 0) l)

pub loop-number-preserved : goal.loop-number-preserved
loop-number-preserved c =
    let f : FitsSigned w128 (get_or c.args.terms.now c.loop-number.number-index (0, pos 0)).1 = search rules in
    let n : FitsSigned w128 (pos 0 +ℤ neg_ℤ (get_or c.args.terms.now c.loop-number.number-index (0, pos 0)).1) =
    neg_fits (get_or c.args.terms.now c.loop-number.number-index (0, pos 0)).1 (fits_at c.args.terms.now c.loop-number.number-index (0, pos 0) c.loop-number-test.true c.requires) in
    opposite_next c.args.terms.now c.loop-number.number-index c.loop-number.parts.items c.push.new.self.items c.loop-number-test.true c.loop-number.invariant
    (simp to_z-of_z at c.in_ok-push.ensures.items)
