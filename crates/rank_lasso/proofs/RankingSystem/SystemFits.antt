-- The rows of a ranking system name its unknowns, and the sums by which they are made fit.
use Rattle.std.proofs.Common.{◌≡◌, ◌⊎◌, ◌∙◌, ℕ, zero, suc, ◌+◌, ◌<◌, ◌≤◌, Bool, true, false, ℤ, pos, negsuc, ◌+ℤ◌, neg_ℤ, List, [], ◌∷◌, ◌++◌, length, take, nat_eq, if◌then◌else◌, inl, inr, refl, sym, ap, subst, arith}
use Rattle.std.specs.Prelude.{map}
use Rattle.std.specs.List.{AllByRecursion}
use Rattle.std.proofs.Math.Dec.{lit<}
use Rattle.std.proofs.lemmas.Bool.{cases_eq}
use Rattle.std.proofs.lemmas.Int.{ints}
use Rattle.std.proofs.lemmas.List.{length-map}
use Rattle.math_facts.specs.Fits.{Fits}
use Rattle.math_facts.specs.Terms.{coefficient, opposite, IsBelow}
use Rattle.math_facts.proofs.TermLaws.{coefficient-append, coefficient-opposite, coefficient_past, IsBelow-append, IsBelow-opposite}
use Rattle.lin_rows.specs.declared.types.RowKind.{RowKind}
use Rattle.lin_rows.specs.declared.types.RowKind.TheVariants.{Le, Eq}
use Rattle.lin_rows.specs.Rows.{LinearRow, AscendsFrom, IsCoefficient, IsRow, RowsBelow}
use Rattle.lin_rows.specs.Sums.{SumsFit}
use Rattle.lin_rows.proofs.Ascending.{coefficient_first, coefficient_rest, AscendsFrom_less}
use Rattle.letter_acts.proofs.ListLemmas.{below_or_from, all_append}
use Rattle.letter_acts.specs.FrameRows.Rows.{columns_from}
use Rattle.rank_lasso.specs.LassoTurns.Turns.{Turn}
use Rattle.rank_lasso.specs.RankingSystem.RankingSystem.{weighted, across, standing_at, first_coefficient, falls_at, bounded_at, falls_by_one, signs_of, signs, ranking_rows}
use Rattle.rank_lasso.proofs.LassoTurns.KeptLaws.{below_summed}
use Rattle.rank_lasso.proofs.RankingSystem.SystemLaws.{stands, weighted_below}
use Rattle.rank_lasso.proofs.LassoTurns.FitLaws.{fits_neg, ascends_take, fit_take, coefficient_fits, taken_of, all_joined}

-- ---- its rows name its unknowns

standing_below : (n m c : ℕ) (versions : List ℕ) → n + length versions ≤ m → IsBelow m (standing_at n c versions)
standing_below n m c versions l = let e = length-map versions (stands c) in weighted_below n m (map (stands c) versions) (omega (arith, l, e))

module _ (t : Turn) (rows : List LinearRow) (same : length t.after ≡ length t.before) where
  falls_below : (c : ℕ) → IsBelow (length rows + length rows + length t.before) (falls_at t rows c).terms
  falls_below c =
      let m : ℕ = length rows + length rows + length t.before in
      let o : ℕ = first_coefficient rows in
      let e = length-map rows (λ r. coefficient c r.terms) in
      let s = same in
      below_summed m (weighted 0 (across c rows) ++ (standing_at o c t.before ++ opposite (standing_at o c t.after)))
      (IsBelow-append m (weighted 0 (across c rows)) (standing_at o c t.before ++ opposite (standing_at o c t.after))
      (weighted_below 0 m (across c rows) (omega (arith, e)))
      (IsBelow-append m (standing_at o c t.before) (opposite (standing_at o c t.after)) (standing_below o m c t.before (omega arith))
      (IsBelow-opposite m (standing_at o c t.after) (standing_below o m c t.after (omega (arith, s))))))

  bounded_below : (c : ℕ) → IsBelow (length rows + length rows + length t.before) (bounded_at t rows c).terms
  bounded_below c =
      let m : ℕ = length rows + length rows + length t.before in
      let o : ℕ = first_coefficient rows in
      let e = length-map rows (λ r. coefficient c r.terms) in
      below_summed m (weighted (length rows) (across c rows) ++ standing_at o c t.before)
      (IsBelow-append m (weighted (length rows) (across c rows)) (standing_at o c t.before) (weighted_below (length rows) m (across c rows) (omega (arith, e)))
      (standing_below o m c t.before (omega arith)))

  all_columns : (f : ℕ → LinearRow) (cs : List ℕ) → ((c : ℕ) → IsBelow (length rows + length rows + length t.before) (f c).terms) →
      RowsBelow (length rows + length rows + length t.before) (map f cs)
  all_columns f [] h = tt
  all_columns f (c ∷ cs) h = (h c, all_columns f cs h)

  kinds_below : (m : ℕ) (kind : RowKind) (i j : ℕ) → i < m → j < m → RowsBelow m (signs_of kind i j)
  kinds_below m Le i j a b = (below_summed m ((i, negsuc 0) ∷ []) (a, tt), (below_summed m ((j, negsuc 0) ∷ []) (b, tt), tt))
  kinds_below m Eq i j a b = tt

  signs_below : (m i j : ℕ) (rs : List LinearRow) → i + length rs ≤ m → j + length rs ≤ m → RowsBelow m (signs i j rs)
  signs_below m i j [] a b = tt
  signs_below m i j (r ∷ rs) a b =
      all_append (λ q. IsBelow m q.terms) (signs_of r.kind i j) (signs (suc i) (suc j) rs) (kinds_below m r.kind i j (omega (arith, a)) (omega (arith, b)))
      (signs_below m (suc i) (suc j) rs (omega (arith, a)) (omega (arith, b)))

  pub ranking_below : RowsBelow (length rows + length rows + length t.before) (ranking_rows t rows)
  ranking_below =
      let m : ℕ = length rows + length rows + length t.before in
      let P : LinearRow → Type 0 = λ q. IsBelow m q.terms in
      let cs : List ℕ = columns_from 0 t.columns in
      let e = length-map rows (λ r. r.bound) in
      all_append P (map (falls_at t rows) cs) (map (bounded_at t rows) cs ++ (falls_by_one rows ∷ signs 0 (length rows) rows)) (all_columns (falls_at t rows) cs falls_below)
      (all_append P (map (bounded_at t rows) cs) (falls_by_one rows ∷ signs 0 (length rows) rows) (all_columns (bounded_at t rows) cs bounded_below) (
        below_summed m (weighted 0 (map (λ r. r.bound) rows)) (weighted_below 0 m (map (λ r. r.bound) rows) (omega (arith, e))),
        signs_below m 0 (length rows) rows (omega arith) (omega arith),
      ))

-- ---- the sums fit

pub ascends_weighted : (n : ℕ) (zs : List ℤ) → AscendsFrom n (weighted n zs)
ascends_weighted n [] = tt
ascends_weighted n (z ∷ zs) = (omega arith, subst (λ (k : ℕ). AscendsFrom k (weighted (suc n) zs)) (let e : suc n ≡ n + 1 = omega arith in e) (ascends_weighted (suc n) zs))

weighted_fit : (n : ℕ) (zs : List ℤ) → AllByRecursion Fits zs → AllByRecursion (λ t. Fits t.1) (weighted n zs)
weighted_fit n [] h = tt
weighted_fit n (z ∷ zs) h = (h.0, weighted_fit (suc n) zs h.1)

-- 0 or 1
abbrev pub IsBit : ℤ → Type 0
IsBit z = (z ≡ pos 0) ⊎ (z ≡ pos 1)

abbrev AreBits : List (ℕ × ℤ) → Type 0
AreBits ts = AllByRecursion (λ t. IsBit t.1) ts

bits_take : (k : ℕ) (ts : List (ℕ × ℤ)) → AreBits ts → AreBits (take k ts)
bits_take zero ts h = tt
bits_take (suc k) [] h = tt
bits_take (suc k) (t ∷ ts) h = (h.0, bits_take k ts h.1)

coefficient_bit : (c low : ℕ) (ts : List (ℕ × ℤ)) → AscendsFrom low ts → AreBits ts → IsBit (coefficient c ts)
coefficient_bit c low [] up h = inl refl
coefficient_bit c low (t ∷ ts) up h = elim (cases_eq t.0 c) [
  | inl e ↦ subst IsBit (sym (coefficient_first c t ts up.1 e)) h.0
  | inr n ↦ subst IsBit (sym (coefficient_rest c t ts n)) (coefficient_bit c (t.0 + 1) ts up.1 h.1)
]

bit_fits : (z : ℤ) → IsBit z → Fits z
bit_fits z (inl e) = subst Fits (sym e) (lit< tt)
bit_fits z (inr e) = subst Fits (sym e) (lit< tt)

bits_differ : (x y : ℤ) → IsBit x → IsBit y → Fits (x +ℤ neg_ℤ y)
bits_differ x y (inl e) (inl f) = subst Fits (let h : pos 0 ≡ x +ℤ neg_ℤ y = omega (arith, ints, e, f) in h) (lit< tt)
bits_differ x y (inl e) (inr f) = subst Fits (let h : negsuc 0 ≡ x +ℤ neg_ℤ y = omega (arith, ints, e, f) in h) (lit< tt)
bits_differ x y (inr e) (inl f) = subst Fits (let h : pos 1 ≡ x +ℤ neg_ℤ y = omega (arith, ints, e, f) in h) (lit< tt)
bits_differ x y (inr e) (inr f) = subst Fits (let h : pos 0 ≡ x +ℤ neg_ℤ y = omega (arith, ints, e, f) in h) (lit< tt)

stands_bit : (c v : ℕ) → IsBit (stands c v)
stands_bit c v = by_test (nat_eq v c)
  where
    by_test : (b : Bool) → IsBit (if b then pos 1 else pos 0)
    by_test true = inr refl
    by_test false = inl refl

weighted_bits : (n c : ℕ) (versions : List ℕ) → AreBits (standing_at n c versions)
weighted_bits n c [] = tt
weighted_bits n c (v ∷ versions) = (stands_bit c v, weighted_bits (suc n) c versions)

bits_fit : (ts : List (ℕ × ℤ)) → AreBits ts → AllByRecursion (λ t. Fits t.1) ts
bits_fit [] h = tt
bits_fit (t ∷ ts) h = (bit_fits t.1 h.0, bits_fit ts h.1)

opposite_fit : (ts : List (ℕ × ℤ)) → AreBits ts → AllByRecursion (λ t. Fits t.1) (opposite ts)
opposite_fit [] h = tt
opposite_fit (t ∷ ts) h = (fits_neg t.1 (bit_fits t.1 h.0), opposite_fit ts h.1)

take_opposite : (k : ℕ) (ts : List (ℕ × ℤ)) → take k (opposite ts) ≡ opposite (take k ts)
take_opposite zero ts = refl
take_opposite (suc k) [] = refl
take_opposite (suc k) (t ∷ ts) = ap (λ (l : List (ℕ × ℤ)). (t.0, neg_ℤ t.1) ∷ l) (take_opposite k ts)

-- terms of columns from n on
abbrev FromOn : ℕ → List (ℕ × ℤ) → Type 0
FromOn n ts = AllByRecursion (λ t. n ≤ t.0) ts

from_take : (n k : ℕ) (ts : List (ℕ × ℤ)) → FromOn n ts → FromOn n (take k ts)
from_take n zero ts h = tt
from_take n (suc k) [] h = tt
from_take n (suc k) (t ∷ ts) h = (h.0, from_take n k ts h.1)

from_none : (n c : ℕ) (ts : List (ℕ × ℤ)) → c < n → FromOn n ts → coefficient c ts ≡ pos 0
from_none n c [] l h = refl
from_none n c (t ∷ ts) l h =
    coefficient_rest c t ts (λ (e : t.0 ≡ c). (let a = h.0 in omega (arith, a, e, l))) ∙ from_none n c ts l h.1

from_weighted : (n m : ℕ) (zs : List ℤ) → n ≤ m → FromOn n (weighted m zs)
from_weighted n m [] l = tt
from_weighted n m (z ∷ zs) l = (l, from_weighted n (suc m) zs (omega (arith, l)))

from_opposite : (n : ℕ) (ts : List (ℕ × ℤ)) → FromOn n ts → FromOn n (opposite ts)
from_opposite n [] h = tt
from_opposite n (t ∷ ts) h = (h.0, from_opposite n ts h.1)

-- two lists whose columns are apart
apart_fit : (n : ℕ) (a d : List (ℕ × ℤ)) → AscendsFrom 0 a → AllByRecursion (λ t. Fits t.1) a → IsBelow n a → FromOn n d →
    ((c m : ℕ) → Fits (coefficient c (take m d))) → (c k : ℕ) → Fits (coefficient c (take k (a ++ d)))
apart_fit n a d up f b o s c k = elim (taken_of k a d) [
  | inl e ↦ subst (λ (v : List (ℕ × ℤ)). Fits (coefficient c v)) (sym e) (coefficient_fits c 0 (take k a) (ascends_take 0 k a up) (fit_take k a f))
  | inr m ↦ subst (λ (v : List (ℕ × ℤ)). Fits (coefficient c v)) (sym m.1)
      (subst Fits (sym (coefficient-append c a (take m.0 d))) (elim (below_or_from c n) [
        | inl l ↦
            let z : coefficient c (take m.0 d) ≡ pos 0 = from_none n c (take m.0 d) l (from_take n m.0 d o) in
            subst Fits (let h : coefficient c a ≡ coefficient c a +ℤ coefficient c (take m.0 d) = omega (arith, ints, z) in h) (coefficient_fits c 0 a up f)
        | inr j ↦
            let z : coefficient c a ≡ pos 0 = coefficient_past c n a (let e = j.1 in omega (arith, e)) b in
            subst Fits (let h : coefficient c (take m.0 d) ≡ coefficient c a +ℤ coefficient c (take m.0 d) = omega (arith, ints, z) in h) (s c m.0)
      ]))
]

bits_sums : (low : ℕ) (ts : List (ℕ × ℤ)) → AscendsFrom low ts → AreBits ts → (c k : ℕ) → Fits (coefficient c (take k ts))
bits_sums low ts up h c k = bit_fits (coefficient c (take k ts)) (coefficient_bit c low (take k ts) (ascends_take low k ts up) (bits_take k ts h))

-- bits, and other bits with the other sign
bits_joined : (low : ℕ) (x y : List (ℕ × ℤ)) → AscendsFrom low x → AscendsFrom low y → AreBits x → AreBits y → (c k : ℕ) → Fits (coefficient c (take k (x ++ opposite y)))
bits_joined low x y u v g h c k = elim (taken_of k x (opposite y)) [
  | inl e ↦ subst (λ (w : List (ℕ × ℤ)). Fits (coefficient c w)) (sym e) (bits_sums low x u g c k)
  | inr m ↦ subst (λ (w : List (ℕ × ℤ)). Fits (coefficient c w)) (sym (m.1 ∙ ap (λ (w : List (ℕ × ℤ)). x ++ w) (take_opposite m.0 y)))
      (subst Fits (sym (coefficient-append c x (opposite (take m.0 y)) ∙ ap (λ (z : ℤ). coefficient c x +ℤ z) (coefficient-opposite c (take m.0 y))))
      (bits_differ (coefficient c x) (coefficient c (take m.0 y)) (coefficient_bit c low x u g)
      (coefficient_bit c low (take m.0 y) (ascends_take low m.0 y v) (bits_take m.0 y h))))
]

coefficients_fit : (ts : List (ℕ × ℤ)) → AllByRecursion IsCoefficient ts → AllByRecursion (λ t. Fits t.1) ts
coefficients_fit [] h = tt
coefficients_fit (t ∷ ts) h = (h.0.fits, coefficients_fit ts h.1)

rows_fit : (c : ℕ) (rows : List LinearRow) → AllByRecursion IsRow rows → AllByRecursion Fits (across c rows)
rows_fit c [] h = tt
rows_fit c (r ∷ rows) h = (coefficient_fits c 0 r.terms h.0.ascends (coefficients_fit r.terms h.0.coefficients), rows_fit c rows h.1)

bounds_fit : (rows : List LinearRow) → AllByRecursion IsRow rows → AllByRecursion Fits (map (λ r. r.bound) rows)
bounds_fit [] h = tt
bounds_fit (r ∷ rows) h = (h.0.bound_fits, bounds_fit rows h.1)

pub falls_sums : (rows : List LinearRow) (before after : List ℕ) (c : ℕ) → AllByRecursion IsRow rows →
    SumsFit (weighted 0 (across c rows) ++ (standing_at (first_coefficient rows) c before ++ opposite (standing_at (first_coefficient rows) c after))) (pos 0)
falls_sums rows before after c h =
    let o : ℕ = first_coefficient rows in
    let a : List (ℕ × ℤ) = weighted 0 (across c rows) in
    let x : List (ℕ × ℤ) = standing_at o c before in
    let y : List (ℕ × ℤ) = standing_at o c after in
    let e = length-map rows (λ r. coefficient c r.terms) in
    let up = ascends_weighted 0 (across c rows) in
    let fit = weighted_fit 0 (across c rows) (rows_fit c rows h) in
    record {
      each = all_joined (λ t. Fits t.1) a (x ++ opposite y) fit
          (all_joined (λ t. Fits t.1) x (opposite y) (bits_fit x (weighted_bits o c before)) (opposite_fit y (weighted_bits o c after)));
      sums = apart_fit (length rows) a (x ++ opposite y) up fit (weighted_below 0 (length rows) (across c rows) (omega (arith, e)))
          (all_append (λ t. length rows ≤ t.0) x (opposite y) (from_weighted (length rows) o (map (stands c) before) (omega arith))
          (from_opposite (length rows) y (from_weighted (length rows) o (map (stands c) after) (omega arith))))
          (bits_joined o x y (ascends_weighted o (map (stands c) before)) (ascends_weighted o (map (stands c) after)) (weighted_bits o c before) (weighted_bits o c after));
      bound_fits = lit< tt;
    }

pub bounded_sums : (rows : List LinearRow) (before : List ℕ) (c : ℕ) → AllByRecursion IsRow rows →
    SumsFit (weighted (length rows) (across c rows) ++ standing_at (first_coefficient rows) c before) (pos 0)
bounded_sums rows before c h =
    let n : ℕ = length rows in
    let o : ℕ = first_coefficient rows in
    let a : List (ℕ × ℤ) = weighted n (across c rows) in
    let x : List (ℕ × ℤ) = standing_at o c before in
    let e = length-map rows (λ r. coefficient c r.terms) in
    let fit = weighted_fit n (across c rows) (rows_fit c rows h) in
    record {
      each = all_joined (λ t. Fits t.1) a x fit (bits_fit x (weighted_bits o c before));
      sums = apart_fit o a x (AscendsFrom_less 0 n a (omega arith) (ascends_weighted n (across c rows))) fit (weighted_below n o (across c rows) (omega (arith, e)))
          (from_weighted o o (map (stands c) before) (omega arith)) (bits_sums o x (ascends_weighted o (map (stands c) before)) (weighted_bits o c before));
      bound_fits = lit< tt;
    }

pub one_sums : (rows : List LinearRow) → AllByRecursion IsRow rows → SumsFit (weighted 0 (map (λ r. r.bound) rows)) (negsuc 0)
one_sums rows h =
    let a : List (ℕ × ℤ) = weighted 0 (map (λ r. r.bound) rows) in
    let up = ascends_weighted 0 (map (λ r. r.bound) rows) in
    let fit = weighted_fit 0 (map (λ r. r.bound) rows) (bounds_fit rows h) in
    record { each = fit; sums = λ c k. coefficient_fits c 0 (take k a) (ascends_take 0 k a up) (fit_take k a fit); bound_fits = lit< tt }
