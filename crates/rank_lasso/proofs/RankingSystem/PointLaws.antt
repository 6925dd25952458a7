-- A rational point of the ranking system times the least common denominator of its values, and the ranking that it gives.
use Rattle.std.proofs.Common.{◌≡◌, ◌∙◌, ℕ, zero, suc, ◌+◌, ◌*◌, ◌/◌, ◌%◌, ◌^◌, ◌<◌, ◌≤◌, ℤ, pos, negsuc, ◌*ℤ◌, ◌<ℤ◌, List, [], ◌∷◌, ◌++◌, map, length, take, drop, get_or, sym, ap, subst, arith}
use Rattle.std.specs.Prelude.{unsigned_abs}
use Rattle.std.specs.Int.{IsGcd, ◌∣◌}
use Rattle.std.specs.List.{AllByRecursion}
use Rattle.std.proofs.Math.Nat.{mul-mod_right, eq-zero_of_zero-dvd}
use Rattle.std.proofs.lemmas.Int.{ints}
use Rattle.std.proofs.lemmas.List.{map-append}
use Rattle.std.proofs.lemmas.Nat.Gcd.{dvd_refl, dvd_trans, le_of_dvd, dvd_of_mod-eq-zero, mod-eq-zero_of_dvd}
use Rattle.math_facts.proofs.Whole.{product_assoc, product_comm, product_swap}
use Rattle.math_facts.specs.Fits.{Fits}
use Rattle.frac.specs.Fractions.{Fraction, IsFraction, IsRatio}
use Rattle.lin_rows.specs.Rows.{LinearRow}
use Rattle.lin_rows.specs.Tightening.{tightened}
use Rattle.lin_rows.specs.Combinations.{Contradicts}
use Rattle.farkas_check.specs.Nodes.{leaf}
use Rattle.fm_elim.specs.Quotients.{common}
use Rattle.fm_elim.specs.Values.{value_at}
use Rattle.fm_elim.specs.Worth.{Combines, HoldsAt, MeetsAll}
use Rattle.fm_elim.proofs.FractionLaws.{common_is}
use Rattle.letter_acts.proofs.FrameRows.LoopLaws.{mapped_next, all_pushed}
use Rattle.rank_lasso.specs.LassoTurns.Turns.{Turn}
use Rattle.rank_lasso.specs.LassoTurns.Claims.{unfallen, unbounded, RefutesWith}
use Rattle.rank_lasso.specs.RankingSystem.RankingSystem.{ranking_rows, rank_terms, rank_bound, falls_leaf, bounded_leaf}
use Rattle.rank_lasso.specs.RankingSystem.Scaled.{common_multiple, multiple_with, least_denominator, numerator_over, scaled_point, ScaleFits, ClaimFits, RankAtFits}
use Rattle.rank_lasso.proofs.RankingSystem.MakingLaws.{split_at, dropped}
use Rattle.rank_lasso.proofs.RankingSystem.DenominatorLaws.{denominators_do_not_count}
use Rattle.rank_lasso.proofs.RankingSystem.TighteningLaws.{all_stronger}
use Rattle.rank_lasso.proofs.RankingSystem.SystemLaws.{IsSystemOver, ranks_fall, ranks_are_bounded}

-- ---- least common multiples

positive_product : (x y : ℕ) → 0 < x → 0 < y → 0 < x * y
positive_product zero y a b = absurd (omega (arith, a))
positive_product (suc x) zero a b = absurd (omega (arith, b))
positive_product (suc x) (suc y) a b = omega arith

-- a divisor of a number, and the quotient
divided_exactly : (g a : ℕ) → 0 < a → g ∣ a → (0 < g) × (g * (a / g) ≡ a)
divided_exactly zero a l h = absurd (let z = eq-zero_of_zero-dvd h in omega (arith, l, z))
divided_exactly (suc g) a l h = (omega arith, (let r = mod-eq-zero_of_dvd (suc g) h in omega (arith, r)))

record Multiple (a b m : ℕ) : Type 0 where
  first : a ∣ m
  second : b ∣ m
  positive : 0 < m

common_multiples : (a b : ℕ) → 0 < a → 0 < b → Multiple a b (common_multiple a b)
common_multiples a b p q =
    let g : ℕ = common a b in
    let is : IsGcd a b (common a b) = common_is a b in
    let x = divided_exactly (common a b) a p is.0 in
    let y = divided_exactly (common a b) b q is.1 in
    let e : (a / common a b) * b ≡ a * (b / common a b) =
    regroup (common a b) (a / common a b) (b / common a b) a b x.1 y.1 in
    let one : 0 < a / common a b = above (common a b) (a / common a b) (let z = x.1 in omega (arith, z, p)) in
    record {
      first = dvd_of_mod-eq-zero a (ap (λ (z : ℕ). z % a) e ∙ mul-mod_right a (b / common a b));
      second = dvd_of_mod-eq-zero b (ap (λ (z : ℕ). z % b) (let f : (a / common a b) * b ≡ b * (a / common a b) = omega arith in f) ∙ mul-mod_right b (a / common a b));
      positive = positive_product (a / common a b) b one q;
    }
  where
    regroup : (g x y a b : ℕ) → g * x ≡ a → g * y ≡ b → x * b ≡ a * y
    regroup g x y a b e f =
        ap (λ (z : ℕ). x * z) (sym f) ∙ (let h : x * (g * y) ≡ (g * x) * y = omega arith in h) ∙ ap (λ (z : ℕ). z * y) e

    above : (g x : ℕ) → 0 < g * x → 0 < x
    above g zero h = absurd (omega (arith, h))
    above g (suc x) h = omega arith

pub abs_positive : (z : ℤ) → pos 0 <ℤ z → 0 < unsigned_abs z
abs_positive z h = omega (arith, ints)

-- each denominator divides the least common one
abbrev Divides : ℕ → Fraction → Type 0
Divides m f = unsigned_abs f.den ∣ m

pub record MultipleDivides (m : ℕ) (values : List Fraction) : Type 0 where
  pub positive : 0 < multiple_with m values
  pub first : m ∣ multiple_with m values
  pub each : AllByRecursion (Divides (multiple_with m values)) values

pub multiple_divides : (m : ℕ) (values : List Fraction) → 0 < m → AllByRecursion IsFraction values → MultipleDivides m values
multiple_divides m [] l h = record { positive = l; first = dvd_refl m; each = tt }
multiple_divides m (f ∷ values) l h =
    let k = common_multiples (unsigned_abs f.den) m (abs_positive f.den h.0.lowest.positive) l in
    let r = multiple_divides (common_multiple (unsigned_abs f.den) m) values k.positive h.1 in
    record { positive = r.positive; first = dvd_trans m k.second r.first; each = (dvd_trans (unsigned_abs f.den) k.first r.first, r.each) }

pub multiple_is : (a b shared q : ℤ) → pos 0 <ℤ b → shared ≡ pos (common (unsigned_abs a) (unsigned_abs b)) → q ≡ pos (unsigned_abs a / unsigned_abs shared) →
    q *ℤ b ≡ pos (common_multiple (unsigned_abs a) (unsigned_abs b))
multiple_is a (pos n) shared q p e f = ap (λ (z : ℤ). z *ℤ pos n) (f ∙ ap (λ (z : ℤ). pos (unsigned_abs a / unsigned_abs z)) e)
multiple_is a (negsuc n) shared q p e f = absurd (omega (arith, ints))

-- ---- one denominator after another

pub multiple_next : (m : ℕ) (values : List Fraction) (i : ℕ) (d : Fraction) (n whole : ℕ) → i < length values → multiple_with m (drop i values) ≡ whole →
    n ≡ common_multiple (unsigned_abs (get_or values i d).den) m → multiple_with n (drop (i + 1) values) ≡ whole
multiple_next m values i d n whole l h e =
    ap (λ (k : ℕ). multiple_with k (drop (i + 1) values)) e ∙ sym (ap (multiple_with m) (split_at values i d l)) ∙ h

pub multiple_ends : (m : ℕ) (values : List Fraction) (i whole : ℕ) → length values ≤ i → multiple_with m (drop i values) ≡ whole → m ≡ whole
multiple_ends m values i whole l h = sym (ap (multiple_with m) (dropped i values l)) ∙ h

all_dropped : (i : ℕ) (values : List Fraction) → AllByRecursion IsFraction values → AllByRecursion IsFraction (drop i values)
all_dropped zero values h = h
all_dropped (suc i) [] h = tt
all_dropped (suc i) (f ∷ values) h = all_dropped i values h.1

-- one that does not fit makes the last too large
pub multiple_stops : (m : ℕ) (values : List Fraction) (i : ℕ) (f : Fraction) (d : ℤ) (whole : ℕ) → 0 < m → i < length values → AllByRecursion IsFraction values →
    f ≡ get_or values i f → IsFraction f → d ≡ f.den → multiple_with m (drop i values) ≡ whole →
    (Fits (pos (common_multiple (unsigned_abs d) m)) → ⊥) → Fits (pos whole) → ⊥
multiple_stops m values i f d whole p l v e q s h n k =
    let next : ℕ = common_multiple (unsigned_abs d) m in
    let c = common_multiples (unsigned_abs d) m (abs_positive d (subst (λ (z : ℤ). pos 0 <ℤ z) (sym s) q.lowest.positive)) p in
    let r = multiple_divides next (drop (i + 1) values) c.positive (all_dropped (i + 1) values v) in
    let w : multiple_with next (drop (i + 1) values) ≡ whole =
    multiple_next m values i f next whole l h (ap (λ (z : ℤ). common_multiple (unsigned_abs z) m) (s ∙ ap (λ (g : Fraction). g.den) e)) in
    let a : next ≤ multiple_with next (drop (i + 1) values) = le_of_dvd r.positive r.first in
    n (at_most next whole (omega (arith, a, w)) k)
  where
    at_most : (x y : ℕ) → x ≤ y → y < 2 ^ 127 → x < 2 ^ 127
    at_most x y a b = omega (arith, a, b)

-- what is kept from one to the next
pub record MultipleSoFar (least : ℤ) (rest : List Fraction) (whole : ℕ) : Type 0 where
  pub positive : pos 0 <ℤ least
  pub fits : Fits least
  pub so_far : multiple_with (unsigned_abs least) rest ≡ whole

pub multiple_goes : (m : ℤ) (values : List Fraction) (i : ℕ) (f : Fraction) (d new : ℤ) (whole : ℕ) → pos 0 <ℤ m → i < length values → f ≡ get_or values i f → IsFraction f → d ≡ f.den →
    multiple_with (unsigned_abs m) (drop i values) ≡ whole →
    Fits (pos (common_multiple (unsigned_abs d) (unsigned_abs m))) × (new ≡ pos (common_multiple (unsigned_abs d) (unsigned_abs m))) → MultipleSoFar new (drop (i + 1) values) whole
multiple_goes m values i f d new whole p l e q s h k =
    let c = common_multiples (unsigned_abs d) (unsigned_abs m) (abs_positive d (subst (λ (z : ℤ). pos 0 <ℤ z) (sym s) q.lowest.positive)) (abs_positive m p) in
    record {
      positive = subst (λ (z : ℤ). pos 0 <ℤ z) (sym k.1) (let x = c.positive in omega (arith, ints, x));
      fits = subst Fits (sym k.1) k.0;
      so_far = multiple_next (unsigned_abs m) values i f (unsigned_abs new) whole l h
          (ap unsigned_abs k.1 ∙ ap (λ (z : ℤ). common_multiple (unsigned_abs z) (unsigned_abs m)) (s ∙ ap (λ (g : Fraction). g.den) e));
    }

pub least_positive : (values : List Fraction) (d : ℤ) → AllByRecursion IsFraction values → d ≡ pos (least_denominator values) → pos 0 <ℤ d
least_positive values d h e =
    let r = multiple_divides 1 values (omega arith) h in
    subst (λ (z : ℤ). pos 0 <ℤ z) (sym e) (let x = r.positive in omega (arith, ints, x))

-- ---- one numerator after another

pub record ScaledSoFar (values : List Fraction) (i : ℕ) (numbers : List ℤ) : Type 0 where
  pub are : numbers ≡ map (numerator_over (least_denominator values)) (take i values)
  pub fit : AllByRecursion Fits numbers

pub scaled_goes : (values : List Fraction) (i : ℕ) (f : Fraction) (d n : ℤ) (now new : List ℤ) → i < length values → f ≡ get_or values i f → d ≡ pos (least_denominator values) →
    ScaledSoFar values i now → Fits (numerator_over (unsigned_abs d) f) × (n ≡ numerator_over (unsigned_abs d) f) → new ≡ now ++ n ∷ [] → ScaledSoFar values (i + 1) new
scaled_goes values i f d n now new l e s h k p =
    let c : numerator_over (unsigned_abs d) f ≡ numerator_over (least_denominator values) f = ap (λ (z : ℤ). numerator_over (unsigned_abs z) f) s in
    record {
      are = mapped_next (numerator_over (least_denominator values)) values i f now new n l h.are p (k.1 ∙ c ∙ ap (numerator_over (least_denominator values)) e);
      fit = all_pushed Fits now new n p h.fit (subst Fits (sym k.1) k.0);
    }

all_at : (P : Fraction → Type 0) (values : List Fraction) (i : ℕ) (d : Fraction) → AllByRecursion P values → i < length values → P (get_or values i d)
all_at P [] i d h l = absurd (omega (arith, l))
all_at P (f ∷ values) zero d h l = h.0
all_at P (f ∷ values) (suc i) d h l = all_at P values i d h.1 (omega (arith, l))

pub scaled_stops : (values : List Fraction) (i : ℕ) (f : Fraction) (d : ℤ) → i < length values → f ≡ get_or values i f → d ≡ pos (least_denominator values) →
    (Fits (numerator_over (unsigned_abs d) f) → ⊥) → ScaleFits values → ⊥
scaled_stops values i f d l e s n h =
    n (subst Fits (ap (numerator_over (least_denominator values)) (sym e) ∙ ap (λ (z : ℤ). numerator_over (unsigned_abs z) f) (sym s))
    (all_at (λ g. Fits (numerator_over (least_denominator values) g)) values i f h.numerators l))

-- ---- the values times it

record ValueIs (m : ℕ) (f : Fraction) : Type 0 where
  positive : pos 0 <ℤ f.den
  divides : unsigned_abs f.den ∣ m

value_is : (m : ℕ) (values : List Fraction) → AllByRecursion IsFraction values → AllByRecursion (Divides m) values → (c : ℕ) → ValueIs m (value_at values c)
value_is m [] h k c = record { positive = omega (arith, ints); divides = dvd_of_mod-eq-zero 1 (omega arith) }
value_is m (f ∷ values) h k zero = record { positive = h.0.lowest.positive; divides = k.0 }
value_is m (f ∷ values) h k (suc c) = value_is m values h.1 k.1 c

-- the numerator over m, over m, is the value
scaled_value : (m : ℕ) (f : Fraction) (n d : ℤ) → 0 < m → ValueIs m f → IsRatio f n d → numerator_over m f *ℤ d ≡ n *ℤ pos m
scaled_value m f n d l v r = by_den f.den v.positive v.divides r
  where
    by_den : (z : ℤ) → pos 0 <ℤ z → unsigned_abs z ∣ m → f.num *ℤ d ≡ n *ℤ z → (f.num *ℤ pos (m / unsigned_abs z)) *ℤ d ≡ n *ℤ pos m
    by_den (negsuc k) p h e = absurd (omega (arith, ints))
    by_den (pos k) p h e =
        let q : ℤ = pos (m / k) in
        let x = (divided_exactly k m l h).1 in
        let a : (f.num *ℤ q) *ℤ d ≡ q *ℤ (f.num *ℤ d) = ap (λ (z : ℤ). z *ℤ d) (product_comm f.num q) ∙ product_assoc q f.num d in
        let b : q *ℤ (f.num *ℤ d) ≡ q *ℤ (n *ℤ pos k) = ap (λ (z : ℤ). q *ℤ z) e in
        let g : q *ℤ (n *ℤ pos k) ≡ n *ℤ (q *ℤ pos k) = product_swap q n (pos k) in
        let i : q *ℤ pos k ≡ pos m = product_comm q (pos k) ∙ ap pos x in
        a ∙ b ∙ g ∙ ap (λ (z : ℤ). n *ℤ z) i

rows_over : (p q : ℕ → ℤ) (d e : ℤ) (rows : List LinearRow) → pos 0 <ℤ d → pos 0 <ℤ e → ((c : ℕ) → q c *ℤ d ≡ p c *ℤ e) → AllByRecursion (HoldsAt d p) rows → AllByRecursion (HoldsAt e q) rows
rows_over p q d e [] x y h k = tt
rows_over p q d e (r ∷ rows) x y h k = (denominators_do_not_count p q d e r x y h k.0, rows_over p q d e rows x y h k.1)

-- the scaled point, over the least common denominator, meets the rows
pub record ScaledMeets (rows : List LinearRow) (values : List Fraction) : Type 0 where
  pub positive : pos 0 <ℤ pos (least_denominator values)
  pub holds : AllByRecursion (HoldsAt (pos (least_denominator values)) (scaled_point values)) rows

pub scaled_meets : (n : ℕ) (rows : List LinearRow) (values : List Fraction) → AllByRecursion IsFraction values → MeetsAll n (map tightened rows) values → ScaledMeets rows values
scaled_meets n rows values h m =
    let l = multiple_divides 1 values (omega arith) h in
    let e : ℕ = least_denominator values in
    let p : pos 0 <ℤ pos e = (let x = l.positive in omega (arith, ints, x)) in
    record {
      positive = p;
      holds = rows_over m.p (scaled_point values) m.d (pos e) rows m.positive p
          (λ c. scaled_value e (value_at values c) (m.p c) m.d l.positive (value_is e values h l.each c) (m.values_are c))
          (all_stronger m.d m.p rows m.positive m.holds);
    }

-- ---- the ranking

-- a leaf whose numbers fit refutes the turn with the row that it takes
leaf_refutes : (t : Turn) (r : LinearRow) (parts : List (ℕ × ℤ)) → Combines (map tightened t.rows ++ tightened r ∷ []) parts → ClaimFits (map tightened t.rows) r parts →
    RefutesWith t r (leaf parts ∷ [])
leaf_refutes t r parts c f =
    let e : map tightened (t.rows ++ r ∷ []) ≡ map tightened t.rows ++ tightened r ∷ [] = map-append tightened t.rows (r ∷ []) in
    record {
      is_row = f.is_row;
      refutes = (
        subst (λ (v : List LinearRow). Contradicts v parts) (sym e) (record {
          ascends = c.ascends;
          each = c.each;
          multipliers_fit = f.leaf.multipliers_fit;
          columns_fit = f.leaf.columns_fit;
          bound_fits = f.leaf.bound_fits;
          columns_vanish = c.columns_vanish;
          bound_negative = c.bound_negative;
        }),
        tt,
      );
    }

-- both claims of the rank at a point whose numbers fit
pub record RankShown (t : Turn) (p : ℕ → ℤ) : Type 0 where
  pub falls : RefutesWith t (unfallen t (rank_terms t (map tightened t.rows) p)) (leaf (falls_leaf t (map tightened t.rows) p) ∷ [])
  pub bounded : RefutesWith t (unbounded t (rank_terms t (map tightened t.rows) p) (rank_bound (map tightened t.rows) p)) (leaf (bounded_leaf t (map tightened t.rows) p) ∷ [])

pub rank_shown : (t : Turn) (p : ℕ → ℤ) (d : ℤ) → IsSystemOver t (map tightened t.rows) → pos 0 <ℤ d → AllByRecursion (HoldsAt d p) (ranking_rows t (map tightened t.rows)) →
    RankAtFits t (map tightened t.rows) p → RankShown t p
rank_shown t p d o x h f =
    let rows : List LinearRow = map tightened t.rows in
    record {
      falls = leaf_refutes t (unfallen t (rank_terms t rows p)) (falls_leaf t rows p) (ranks_fall t rows p o d x h) f.falls;
      bounded = leaf_refutes t (unbounded t (rank_terms t rows p) (rank_bound rows p)) (bounded_leaf t rows p) (ranks_are_bounded t rows p o d h) f.bounded;
    }
