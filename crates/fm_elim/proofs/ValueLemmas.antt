-- Fractions in lowest terms are the computed ones.
use Rattle.std.proofs.Common.{◌≡◌, ◌≢◌, ℕ, List, not, if◌then◌else◌, Result, Ok, Err, Some, ℤ, pos, ◌*ℤ◌, ◌≤ℤ◌, ◌<ℤ◌, Bool, true, false, refl, sym, ap, ◌∙◌, subst, arith}
use Rattle.std.specs.Prelude.{int_lt, int_le, unsigned_abs}
use Rattle.std.specs.Int.{int_max, int_min}
use Rattle.std.proofs.Math.Nat.{one-dvd}
use Rattle.std.proofs.lemmas.Int.{ints, int_min_is}
use Rattle.math_facts.specs.Fits.{Fits}
use Rattle.math_facts.proofs.Whole.{product_nonzero}
use Rattle.frac.specs.Fractions.{Fraction, IsFraction, IsRatio, IsTooLarge}
use Rattle.frac.specs.Sums.{SumFits}
use Rattle.frac.proofs.LowestTerms.{only_lowest}
use Rattle.std.proofs.lemmas.Bool.{ne_eqb}
use Rattle.fm_elim.specs.declared.types.ElimFault.{ElimFault}
use Rattle.fm_elim.specs.declared.types.ElimFault.TheVariants.{Past, Memory}
use Rattle.fm_elim.specs.Derivations.{DerivedRow, at}
use Rattle.fm_elim.specs.Folds.{Where}
use Rattle.fm_elim.specs.Values.{value_at, term_value, with_term, WithTermFits, sum_of, SumOfFits, end_of, EndFits}
use Rattle.fm_elim.proofs.StepLemmas.{exactly_with}
use Rattle.fm_elim.specs.Answers.{Exactly, Gives}
use Rattle.fm_elim.specs.Quotients.{reduced, whole, fraction_plus, fraction_minus, fraction_times, fraction_over, FractionFits, MinusFits, floor, ceiling, nearest}
use Rattle.fm_elim.proofs.FractionLaws.{ratio, lowest, positive_is_not_zero}

-- a fraction of the value n/d is n/d in lowest terms
pub gives_reduced : (n d : ℤ) (f : Fraction) → d ≢ pos 0 → IsFraction f → IsRatio f n d → Gives (reduced n d) f
gives_reduced n d f z v r = (v, only_lowest f (reduced n d) n d z v.lowest r (lowest n d z) (ratio n d))

-- whose parts then fit
pub parts_fit : (n d : ℤ) (f : Fraction) → Gives (reduced n d) f → FractionFits (reduced n d)
parts_fit n d f g = subst FractionFits g.1 (g.0.num_fits, g.0.den_fits)

pub parts_past : (n d : ℤ) → d ≢ pos 0 → IsTooLarge n d → FractionFits (reduced n d) → ⊥
parts_past n d z t p = t (reduced n d) (record { lowest = lowest n d z; num_fits = p.0; den_fits = p.1 }) (ratio n d)

pub den_nonzero : (a : Fraction) → IsFraction a → a.den ≢ pos 0
den_nonzero a v = positive_is_not_zero a.den v.lowest.positive

pub dens_nonzero : (a b : Fraction) → IsFraction a → IsFraction b → a.den *ℤ b.den ≢ pos 0
dens_nonzero a b v w = product_nonzero a.den b.den (den_nonzero a v) (den_nonzero b w)

-- a whole number is in lowest terms
pub whole_is_fraction : (z : ℤ) → Fits z → IsFraction (whole z)
whole_is_fraction z f = record {
  lowest = record { positive = omega (arith, ints); coprime = (one-dvd (unsigned_abs z), one-dvd 1, λ d p q. q) };
  num_fits = f;
  den_fits = omega arith;
}

pub gives_whole : (z : ℤ) (f : Fraction) → Fits z → IsFraction f → IsRatio f z (pos 1) → Gives (whole z) f
gives_whole z f l v r = (v, only_lowest f (whole z) z (pos 1) (λ (e : pos 1 ≡ pos 0). omega (arith, ints)) v.lowest r (whole_is_fraction z l).lowest refl)

pub whole_past : (z : ℤ) → Fits z → IsTooLarge z (pos 1) → ⊥
whole_past z l t = t (whole z) (whole_is_fraction z l) refl

pub lt_test : (a b : ℤ) → a <ℤ b → true ≡ int_lt a b
lt_test a b h = grind (arith, ints)

pub le_test : (a b : ℤ) → b ≤ℤ a → false ≡ int_lt a b
le_test a b h = grind (arith, ints)

-- a sum with one more term
pub with_term_exact : (k : ℕ) (values : List Fraction) (sum : Fraction) (t : ℕ × ℤ) (factor value product : Fraction) (result : Result Fraction ElimFault) →
    (t.0 ≡ k → ⊥) → factor ≡ whole t.1 → value ≡ value_at values t.0 → FractionFits (fraction_times factor value) × Gives (fraction_times factor value) product →
    Exactly result (Gives (fraction_plus sum product)) (SumFits sum product) → Exactly result (Gives (with_term k values sum t)) (WithTermFits k values sum t)
with_term_exact k values sum t factor value product result n f v p x =
    let p2 : FractionFits (term_value values t) × Gives (term_value values t) product =
    subst (λ (y : Fraction). FractionFits (fraction_times (whole t.1) y) × Gives (fraction_times (whole t.1) y) product) v
    (subst (λ (y : Fraction). FractionFits (fraction_times y value) × Gives (fraction_times y value) product) f p) in
    let x2 : Exactly result (Gives (fraction_plus sum (term_value values t))) (SumFits sum (term_value values t)) =
    subst (λ (y : Fraction). Exactly result (Gives (fraction_plus sum y)) (SumFits sum y)) p2.1.1 x in
    subst (λ (b : Bool). Exactly result (Gives (if b then sum else fraction_plus sum (term_value values t))) (Where (not b) (FractionFits (term_value values t) × SumFits sum (term_value values t))))
    (sym (ne_eqb t.0 k n))
    (exactly_with result (Gives (fraction_plus sum (term_value values t))) (SumFits sum (term_value values t)) (FractionFits (term_value values t)) p2.0 x2)

-- the end that a row sets
pub end_exact : (k : ℕ) (values : List Fraction) (r : DerivedRow) (sum bound rest factor : Fraction) (result : Result Fraction ElimFault) →
    SumOfFits k values r.row.terms × Gives (sum_of k values r.row.terms) sum → bound ≡ whole r.row.bound → MinusFits bound sum × Gives (fraction_minus bound sum) rest → factor ≡ whole (at k r) →
    Exactly result (Gives (fraction_over rest factor)) (FractionFits (fraction_over rest factor)) → Exactly result (Gives (end_of k values r)) (EndFits k values r)
end_exact k values r sum bound rest factor result s b m f x =
    let total : Fraction = sum_of k values r.row.terms in
    let m2 : MinusFits (whole r.row.bound) total × Gives (fraction_minus (whole r.row.bound) total) rest =
    subst (λ (y : Fraction). MinusFits (whole r.row.bound) y × Gives (fraction_minus (whole r.row.bound) y) rest) s.1.1
    (subst (λ (y : Fraction). MinusFits y sum × Gives (fraction_minus y sum) rest) b m) in
    let x2 : Exactly result (Gives (end_of k values r)) (FractionFits (end_of k values r)) =
    subst (λ (y : Fraction). Exactly result (Gives (fraction_over y (whole (at k r)))) (FractionFits (fraction_over y (whole (at k r))))) m2.1.1
    (subst (λ (y : Fraction). Exactly result (Gives (fraction_over rest y)) (FractionFits (fraction_over rest y))) f x) in
    by_result result s.0 m2.0 x2
  where
    by_result : (o : Result Fraction ElimFault) → SumOfFits k values r.row.terms → MinusFits (whole r.row.bound) (sum_of k values r.row.terms) →
        Exactly o (Gives (end_of k values r)) (FractionFits (end_of k values r)) → Exactly o (Gives (end_of k values r)) (EndFits k values r)
    by_result (Ok y) a c h = (record { sum = a; rest = c; quotient = h.0 }, h.1)
    by_result (Err Past) a c h = λ w. h w.quotient
    by_result (Err Memory) a c h = tt

-- a whole number lies between two ends
pub nearest_inside : (l u : Fraction) (a b m z : ℤ) (result : Result Fraction ElimFault) → a ≡ ceiling l → b ≡ floor u → int_le a b ≡ true → m ≡ int_min b (pos 0) → z ≡ int_max a m →
    Exactly result (Gives (whole z)) (Unit {0}) → Exactly result (Gives (nearest (Some l) (Some u))) (Unit {0})
nearest_inside l u a b m z result e f t g h x =
    let t2 : int_le (ceiling l) (floor u) ≡ true = subst (λ (w : ℤ). int_le w (floor u) ≡ true) e (subst (λ (w : ℤ). int_le a w ≡ true) f t) in
    let m2 : m ≡ int_min (pos 0) (floor u) = g ∙ ap (λ (w : ℤ). int_min w (pos 0)) f ∙ least_swap (floor u) (pos 0) in
    let z2 : z ≡ int_max (ceiling l) (int_min (pos 0) (floor u)) = h ∙ ap (λ (w : ℤ). int_max w m) e ∙ ap (λ (w : ℤ). int_max (ceiling l) w) m2 in
    subst (λ (c : Bool). Exactly result (Gives (if c then whole (int_max (ceiling l) (int_min (pos 0) (floor u))) else l)) (Unit {0})) (sym t2)
    (subst (λ (w : ℤ). Exactly result (Gives (whole w)) (Unit {0})) z2 x)
  where
    least_swap : (a b : ℤ) → int_min a b ≡ int_min b a
    least_swap a b = omega (arith, ints, int_min_is)
