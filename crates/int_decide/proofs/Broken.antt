-- The first value that is not whole, found by going along the values.
use Rattle.std.proofs.Common.{◌≡◌, ℕ, ◌+◌, ◌<◌, ℤ, pos, negsuc, ◌+ℤ◌, ◌*ℤ◌, ◌≤ℤ◌, ◌<ℤ◌, List, ◌∷◌, Some, length, drop, get_or, refl, sym, ap, ◌∙◌, arith}
use Rattle.std.specs.Prelude.{unsigned_abs}
use Rattle.std.specs.Int.{int_div_euclid}
use Rattle.std.proofs.lemmas.Int.{ints}
use Rattle.std.proofs.lemmas.Bool.{ne_eqb}
use Rattle.std.proofs.lemmas.List.{drop_more}
use Rattle.math_facts.proofs.Division.{floor_below, floor_above}
use Rattle.math_facts.proofs.Whole.{product_comm, product_one_right, distrib_left, cancel_strict}
use Rattle.frac.specs.Fractions.{Fraction, IsFraction}
use Rattle.int_decide.specs.Decide.{first_broken}
use Rattle.fm_elim.specs.Quotients.{floor}
use Rattle.int_decide.specs.Ties.Searching.{cut_at}

-- the greatest whole number that is not above z/d
pub floor_is : (z d k : ℤ) → pos 0 <ℤ d → (k *ℤ d) ≤ℤ z → z <ℤ ((k +ℤ pos 1) *ℤ d) → k ≡ int_div_euclid z d
floor_is z (negsuc g) k p l h = absurd (omega (arith, ints))
floor_is z (pos g) k p l h =
    let q : ℤ = int_div_euclid z (pos g) in
    let s : 0 < g = omega (arith, ints) in
    let a : pos g *ℤ k ≡ k *ℤ pos g = product_comm (pos g) k in
    let b : pos g *ℤ (k +ℤ pos 1) ≡ (k +ℤ pos 1) *ℤ pos g = product_comm (pos g) (k +ℤ pos 1) in
    let d : pos g *ℤ (q +ℤ pos 1) ≡ (pos g *ℤ q) +ℤ pos g = distrib_left (pos g) q (pos 1) ∙ ap (λ (x : ℤ). (pos g *ℤ q) +ℤ x) (product_one_right (pos g)) in
    let below : (pos g *ℤ q) ≤ℤ z = floor_below g z s in
    let over : z <ℤ ((pos g *ℤ q) +ℤ pos g) = floor_above g z s in
    let m : k <ℤ (q +ℤ pos 1) = cancel_strict (pos g) k (q +ℤ pos 1) (omega (arith, ints)) (omega (arith, ints)) in
    let n : q <ℤ (k +ℤ pos 1) = cancel_strict (pos g) q (k +ℤ pos 1) (omega (arith, ints)) (omega (arith, ints)) in
    omega (arith, ints)

not_one : (f : Fraction) → IsFraction f → (f.den ≡ pos 1 → ⊥) → unsigned_abs f.den ≡ 1 → ⊥
not_one f v n e = let p : pos 0 <ℤ f.den = v.lowest.positive in n (omega (arith, ints))

broken_front : (c : ℕ) (f : Fraction) (fs : List Fraction) → (unsigned_abs f.den ≡ 1 → ⊥) → first_broken c (f ∷ fs) ≡ Some (c, f)
broken_front c f fs n = rw (ne_eqb (unsigned_abs f.den) 1 n) refl

-- a value that is not whole, where those before it are
pub broken_here : (values : List Fraction) (i column : ℕ) (f : Fraction) (k : ℤ) → i < length values → f ≡ get_or values i f → column ≡ i →
    first_broken i (drop i values) ≡ first_broken 0 values → (f.den ≡ pos 1 → ⊥) → IsFraction f → (k *ℤ f.den) ≤ℤ f.num → f.num <ℤ ((k +ℤ pos 1) *ℤ f.den) →
    Some (column, k) ≡ cut_at (first_broken 0 values)
broken_here values i column f k l e c b n v m h =
    let a : drop i values ≡ get_or values i f ∷ drop (i + 1) values = drop_more values i f l in
    let g : drop i values ≡ f ∷ drop (i + 1) values = a ∙ ap (λ (x : Fraction). x ∷ drop (i + 1) values) (sym e) in
    let o : first_broken 0 values ≡ Some (i, f) = sym b ∙ ap (first_broken i) g ∙ broken_front i f (drop (i + 1) values) (not_one f v n) in
    let z : k ≡ floor f = floor_is f.num f.den k v.lowest.positive m h in
    (λ j. Some (c j, z j)) ∙ sym (ap cut_at o)
