-- The point that the elimination finds meets all rows (Fourier, 1826; Motzkin, 1936).
use Rattle.std.proofs.Common.{◌≡◌, ◌≢◌, ℕ, zero, suc, ◌+◌, ◌/◌, ℤ, pos, negsuc, neg_ℤ, ◌+ℤ◌, ◌-ℤ◌, ◌*ℤ◌, ◌≤ℤ◌, ◌<ℤ◌, Bool, true, false, ◌&&◌, not, List, [], ◌∷◌, ◌++◌, Option, None, Some, length, map, nat_eq, refl, sym, ap, ◌∙◌, subst, arith, if◌then◌else◌}
use Rattle.std.specs.Prelude.{MatchOption, unsigned_abs}
use Rattle.std.specs.Int.{IsGcd}
use Rattle.std.specs.List.{AllByRecursion, filter, flat_map}
use Rattle.std.proofs.Math.Nat.{mul-div_cancel'}
use Rattle.std.proofs.lemmas.Bool.{and_parts}
use Rattle.std.proofs.lemmas.Int.{ints}
use Rattle.std.proofs.lemmas.List.{length-append}
use Rattle.math_facts.specs.Terms.{coefficient, dot, scaled}
use Rattle.math_facts.proofs.Whole.{product_comm, product_assoc, product_swap, product_monotone, product_zero_right, product_one_right, product_one_left, distrib_left, distrib_right, product_neg_left, product_neg_right, cancel_order}
use Rattle.frac.specs.Fractions.{Fraction}
use Rattle.frac.proofs.Factors.{product_inner}
use Rattle.lin_rows.specs.declared.types.RowKind.{RowKind}
use Rattle.lin_rows.specs.declared.types.RowKind.TheVariants.{Le, Eq}
use Rattle.lin_rows.specs.Rows.{AscendsFrom, Stands}
use Rattle.lin_rows.specs.Sums.{is_zero, sum_kind, summed}
use Rattle.lin_rows.proofs.Ascending.{HasNoZero, coefficient_first}
use Rattle.lin_rows.proofs.SummedLaws.{dot-scaled_sum}
use Rattle.lin_rows.proofs.HoldsLaws.{stands_as_inequality}
use Rattle.fm_elim.specs.Quotients.{common, nearest}
use Rattle.fm_elim.specs.Folds.{first, others}
use Rattle.fm_elim.specs.Derivations.{DerivedRow, nothing_derived, plus_times, at, has, is_upper, is_lower, is_equality, has_no_terms, is_false_bound, is_false}
use Rattle.fm_elim.specs.Columns.{is_pivot, clearing, cleared, halves, share, other_share, pair, pairs, paired_off, elimination_step_by, elimination_step}
use Rattle.fm_elim.specs.Values.{end_of, raised, lowered_end, lower_end, upper_end, value_of}
use Rattle.fm_elim.specs.Elimination.{EliminationOutcome, refuted, point, unless_false, extended, solve}
use Rattle.fm_elim.specs.Worth.{HoldsAt}
use Rattle.fm_elim.proofs.Lists.{all_append, all_parts, all_weaker, all_both, all_always, all_mapped, all_flat_mapped, all_filter, all_filtered, all_first, none_first, all_of_others, all_swap}
use Rattle.fm_elim.proofs.Steps.{equality_is}
use Rattle.fm_elim.proofs.Multipliers.{less_is, not_less_is, zero_is}
use Rattle.fm_elim.proofs.Inputs.{IsClear, IsOrdered}
use Rattle.fm_elim.proofs.FractionLaws.{Is, common_is, positive_product}
use Rattle.fm_elim.proofs.Clearing.{pivot_is_unit, cleared_lacks, step_is_clear, step_is_ordered}
use Rattle.fm_elim.proofs.Ends.{AreValues, room, end_is}
use Rattle.fm_elim.proofs.Between.{AtMost, AtLeast, at_most_refl, at_most_trans, IsBest, best_is, greater, less, greater_left, greater_right, greater_least, less_left, less_right, less_greatest, value_lies, lows_below, ups_above, lies_positive}
use Rattle.fm_elim.proofs.Extending.{wider, extended_values, none_at_end, stays, upper_holds, lower_holds, forced_holds}

-- the row holds at the rational point
abbrev pub RowHolds : ℤ → (ℕ → ℤ) → DerivedRow → Type 0
RowHolds d p r = HoldsAt d p r.row

-- ---- a lower end is at most an upper end

product_minus : (m a b : ℤ) → m *ℤ (a -ℤ b) ≡ (m *ℤ a) -ℤ (m *ℤ b)
product_minus m a b =
    let e : m *ℤ (a -ℤ b) ≡ m *ℤ (a +ℤ neg_ℤ b) = ap (λ (x : ℤ). m *ℤ x) (let q : a -ℤ b ≡ a +ℤ neg_ℤ b = omega (arith, ints) in q) in
    let f : m *ℤ (a +ℤ neg_ℤ b) ≡ (m *ℤ a) +ℤ (m *ℤ neg_ℤ b) = distrib_left m a (neg_ℤ b) in
    let g : m *ℤ neg_ℤ b ≡ neg_ℤ (m *ℤ b) = product_neg_right m b in
    omega (arith, ints)

-- the rooms of two rows, added up as the rows are
rooms : (d : ℤ) (p : ℕ → ℤ) (k : ℕ) (u l : DerivedRow) → RowHolds d p (pair k u l) →
    pos 0 ≤ℤ ((share k u l *ℤ room d p u) +ℤ (other_share k u l *ℤ room d p l))
rooms d p k u l h =
    let m : ℤ = share k u l in
    let n : ℤ = other_share k u l in
    let su : ℤ = dot p u.row.terms in
    let sl : ℤ = dot p l.row.terms in
    let bu : ℤ = u.row.bound in
    let bl : ℤ = l.row.bound in
    let a : dot p (summed (summed ([] ++ scaled m u.row.terms) ++ scaled n l.row.terms)) ≡ dot p (summed ([] ++ scaled m u.row.terms)) +ℤ (n *ℤ sl) =
    dot-scaled_sum p (summed ([] ++ scaled m u.row.terms)) n l.row.terms in
    let b : dot p (summed ([] ++ scaled m u.row.terms)) ≡ pos 0 +ℤ (m *ℤ su) = dot-scaled_sum p [] m u.row.terms in
    let c : dot p (summed (summed ([] ++ scaled m u.row.terms) ++ scaled n l.row.terms)) ≤ℤ (((pos 0 +ℤ (m *ℤ bu)) +ℤ (n *ℤ bl)) *ℤ d) =
    stands_as_inequality (pair k u l).row.kind (dot p (pair k u l).row.terms) ((pair k u l).row.bound *ℤ d) h in
    let e : ((pos 0 +ℤ (m *ℤ bu)) +ℤ (n *ℤ bl)) *ℤ d ≡ ((m *ℤ bu) +ℤ (n *ℤ bl)) *ℤ d =
    ap (λ (x : ℤ). x *ℤ d) (let q : (pos 0 +ℤ (m *ℤ bu)) +ℤ (n *ℤ bl) ≡ (m *ℤ bu) +ℤ (n *ℤ bl) = omega (arith, ints) in q) in
    let f : ((m *ℤ bu) +ℤ (n *ℤ bl)) *ℤ d ≡ ((m *ℤ bu) *ℤ d) +ℤ ((n *ℤ bl) *ℤ d) = distrib_right (m *ℤ bu) (n *ℤ bl) d in
    let g : (m *ℤ bu) *ℤ d ≡ m *ℤ (bu *ℤ d) = product_assoc m bu d in
    let g2 : (n *ℤ bl) *ℤ d ≡ n *ℤ (bl *ℤ d) = product_assoc n bl d in
    let i : m *ℤ room d p u ≡ (m *ℤ (bu *ℤ d)) -ℤ (m *ℤ su) = product_minus m (bu *ℤ d) su in
    let j : n *ℤ room d p l ≡ (n *ℤ (bl *ℤ d)) -ℤ (n *ℤ sl) = product_minus n (bl *ℤ d) sl in
    omega (arith, ints)

-- the shares, times the greatest common divisor
shares : (u l : ℤ) → pos 0 <ℤ u → l <ℤ pos 0 →
    let g = common (unsigned_abs u) (unsigned_abs l) in
    (pos g *ℤ pos (unsigned_abs l / g) ≡ neg_ℤ l) × (pos g *ℤ pos (unsigned_abs u / g) ≡ u)
shares (pos a) (pos b) p q = absurd (omega (arith, ints))
shares (negsuc a) l p q = absurd (omega (arith, ints))
shares (pos a) (negsuc b) p q =
    let g : ℕ = common a (suc b) in
    let h : IsGcd a (suc b) g = common_is a (suc b) in
    (ap pos (mul-div_cancel' g h.1), ap pos (mul-div_cancel' g h.0))

in_order_from_rooms : (g m n al au rl ru : ℤ) → pos 0 ≤ℤ g → g *ℤ m ≡ neg_ℤ al → g *ℤ n ≡ au → pos 0 ≤ℤ ((m *ℤ ru) +ℤ (n *ℤ rl)) →
    pos 0 ≤ℤ ((neg_ℤ al *ℤ ru) +ℤ (au *ℤ rl))
in_order_from_rooms g m n al au rl ru p e f h =
    let k : (g *ℤ pos 0) ≤ℤ (g *ℤ ((m *ℤ ru) +ℤ (n *ℤ rl))) = product_monotone g (pos 0) ((m *ℤ ru) +ℤ (n *ℤ rl)) p h in
    let z : g *ℤ pos 0 ≡ pos 0 = product_zero_right g in
    let i : g *ℤ ((m *ℤ ru) +ℤ (n *ℤ rl)) ≡ (g *ℤ (m *ℤ ru)) +ℤ (g *ℤ (n *ℤ rl)) = distrib_left g (m *ℤ ru) (n *ℤ rl) in
    let j : g *ℤ (m *ℤ ru) ≡ neg_ℤ al *ℤ ru = sym (product_assoc g m ru) ∙ ap (λ (x : ℤ). x *ℤ ru) e in
    let l : g *ℤ (n *ℤ rl) ≡ au *ℤ rl = sym (product_assoc g n rl) ∙ ap (λ (x : ℤ). x *ℤ rl) f in
    omega (arith, ints)

ends_in_order : (al au d rl ru : ℤ) (el eu : Fraction) → al <ℤ pos 0 → pos 0 <ℤ au → pos 0 <ℤ d → pos 0 ≤ℤ ((neg_ℤ al *ℤ ru) +ℤ (au *ℤ rl)) →
    Is el rl (al *ℤ d) → Is eu ru (au *ℤ d) → AtMost el eu
ends_in_order al au d rl ru el eu p q s h i j =
    let lc : ℤ = neg_ℤ al in
    let mu : ℤ = au *ℤ d in
    let k : (el.den *ℤ pos 0) ≤ℤ (el.den *ℤ ((lc *ℤ ru) +ℤ (au *ℤ rl))) =
    product_monotone el.den (pos 0) ((lc *ℤ ru) +ℤ (au *ℤ rl)) (let o : pos 0 <ℤ el.den = i.positive in omega (arith, ints)) h in
    let k0 : el.den *ℤ pos 0 ≡ pos 0 = product_zero_right el.den in
    let k1 : el.den *ℤ ((lc *ℤ ru) +ℤ (au *ℤ rl)) ≡ (el.den *ℤ (lc *ℤ ru)) +ℤ (el.den *ℤ (au *ℤ rl)) = distrib_left el.den (lc *ℤ ru) (au *ℤ rl) in
    let k2 : el.den *ℤ (lc *ℤ ru) ≡ lc *ℤ (ru *ℤ el.den) = product_swap el.den lc ru ∙ ap (λ (x : ℤ). lc *ℤ x) (product_comm el.den ru) in
    let k3 : el.den *ℤ (au *ℤ rl) ≡ au *ℤ (el.num *ℤ (al *ℤ d)) =
    product_swap el.den au rl ∙ ap (λ (x : ℤ). au *ℤ x) (product_comm el.den rl ∙ sym i.ratio) in
    let k4 : au *ℤ (el.num *ℤ (al *ℤ d)) ≡ al *ℤ (mu *ℤ el.num) =
    ap (λ (x : ℤ). au *ℤ x) (product_swap el.num al d) ∙ product_swap au al (el.num *ℤ d) ∙
    ap (λ (x : ℤ). al *ℤ x) (ap (λ (y : ℤ). au *ℤ y) (product_comm el.num d) ∙ sym (product_assoc au d el.num)) in
    let k5 : lc *ℤ (mu *ℤ el.num) ≡ neg_ℤ (al *ℤ (mu *ℤ el.num)) = product_neg_left al (mu *ℤ el.num) in
    let one : (mu *ℤ el.num) ≤ℤ (ru *ℤ el.den) = cancel_order lc (mu *ℤ el.num) (ru *ℤ el.den) (omega (arith, ints)) (omega (arith, ints)) in
    let n : (eu.den *ℤ (mu *ℤ el.num)) ≤ℤ (eu.den *ℤ (ru *ℤ el.den)) =
    product_monotone eu.den (mu *ℤ el.num) (ru *ℤ el.den) (let o : pos 0 <ℤ eu.den = j.positive in omega (arith, ints)) one in
    let n1 : eu.den *ℤ (mu *ℤ el.num) ≡ mu *ℤ (el.num *ℤ eu.den) = product_swap eu.den mu el.num ∙ ap (λ (x : ℤ). mu *ℤ x) (product_comm eu.den el.num) in
    let n2 : eu.den *ℤ (ru *ℤ el.den) ≡ mu *ℤ (eu.num *ℤ el.den) =
    product_inner eu.den ru el.den ∙ ap (λ (x : ℤ). x *ℤ el.den) (sym j.ratio ∙ product_comm eu.num mu) ∙ product_assoc mu eu.num el.den in
    record {
      left = i.positive;
      right = j.positive;
      order = cancel_order mu (el.num *ℤ eu.den) (eu.num *ℤ el.den) (positive_product au d q s) (omega (arith, ints));
    }

pub negative_nonzero : (z : ℤ) → z <ℤ pos 0 → z ≢ pos 0
negative_nonzero z p e = omega (arith, ints)

pub positive_nonzero : (z : ℤ) → pos 0 <ℤ z → z ≢ pos 0
positive_nonzero z p e = omega (arith, ints)

pair_in_order : (d : ℤ) (p : ℕ → ℤ) (k : ℕ) (values : List Fraction) (u l : DerivedRow) → AreValues values d p → p k ≡ pos 0 →
    is_upper k u ≡ true → is_lower k l ≡ true → RowHolds d p (pair k u l) → AtMost (end_of k values l) (end_of k values u)
pair_in_order d p k values u l v z a b h =
    let pu : pos 0 <ℤ at k u = less_is (pos 0) (at k u) a in
    let pl : at k l <ℤ pos 0 = less_is (at k l) (pos 0) b in
    let s = shares (at k u) (at k l) pu pl in
    ends_in_order (at k l) (at k u) d (room d p l) (room d p u) (end_of k values l) (end_of k values u) pl pu v.positive
    (in_order_from_rooms (pos (common (unsigned_abs (at k u)) (unsigned_abs (at k l)))) (share k u l) (other_share k u l) (at k l) (at k u) (room d p l) (room d p u)
    (omega (arith, ints)) s.0 s.1 (rooms d p k u l h))
    (end_is k values d p l v z (negative_nonzero (at k l) pl))
    (end_is k values d p u v z (positive_nonzero (at k u) pu))

-- ---- splitting

le_sum : (kind : RowKind) → sum_kind Le kind ≡ Le
le_sum Le = refl
le_sum Eq = refl

-- of the rows after splitting only inequalities have the column
abbrev pub IsInequality : ℕ → DerivedRow → Type 0
IsInequality k r = has k r ≡ true → r.row.kind ≡ Le

pub halves_are_inequalities : (k : ℕ) (r : DerivedRow) → AllByRecursion (IsInequality k) (halves k r)
halves_are_inequalities k r = by_test (is_equality r.row.kind && has k r) refl
  where
    by_kind : (kind : RowKind) (b : Bool) → (is_equality kind && b) ≡ false → b ≡ true → kind ≡ Le
    by_kind Le b e f = refl
    by_kind Eq b e f = absurd (cc)

    by_test : (b : Bool) → (is_equality r.row.kind && has k r) ≡ b →
        AllByRecursion (IsInequality k) (if b then plus_times nothing_derived (pos 1) r ∷ plus_times nothing_derived (negsuc 0) r ∷ [] else r ∷ [])
    by_test true e = (λ f. le_sum r.row.kind, (λ f. le_sum r.row.kind, tt))
    by_test false e = (λ f. by_kind r.row.kind (has k r) e f, tt)

-- a row holds where its halves do
halves_hold : (d : ℤ) (p : ℕ → ℤ) (k : ℕ) (r : DerivedRow) → AllByRecursion (RowHolds d p) (halves k r) → RowHolds d p r
halves_hold d p k r h = by_test (is_equality r.row.kind && has k r) refl h
  where
    half : (m : ℤ) → RowHolds d p (plus_times nothing_derived m r) → (pos 0 +ℤ (m *ℤ dot p r.row.terms)) ≤ℤ ((pos 0 +ℤ (m *ℤ r.row.bound)) *ℤ d)
    half m i =
        let a : dot p (summed ([] ++ scaled m r.row.terms)) ≡ pos 0 +ℤ (m *ℤ dot p r.row.terms) = dot-scaled_sum p [] m r.row.terms in
        let b : dot p (summed ([] ++ scaled m r.row.terms)) ≤ℤ ((pos 0 +ℤ (m *ℤ r.row.bound)) *ℤ d) =
        stands_as_inequality (sum_kind Le r.row.kind) (dot p (summed ([] ++ scaled m r.row.terms))) ((pos 0 +ℤ (m *ℤ r.row.bound)) *ℤ d) i in
        omega (arith, ints)

    both : (pos 0 +ℤ (pos 1 *ℤ dot p r.row.terms)) ≤ℤ ((pos 0 +ℤ (pos 1 *ℤ r.row.bound)) *ℤ d) →
        (pos 0 +ℤ (negsuc 0 *ℤ dot p r.row.terms)) ≤ℤ ((pos 0 +ℤ (negsuc 0 *ℤ r.row.bound)) *ℤ d) → dot p r.row.terms ≡ r.row.bound *ℤ d
    both x y =
        let a : pos 1 *ℤ dot p r.row.terms ≡ dot p r.row.terms = product_one_left (dot p r.row.terms) in
        let b : (pos 0 +ℤ (pos 1 *ℤ r.row.bound)) *ℤ d ≡ r.row.bound *ℤ d =
        ap (λ (w : ℤ). w *ℤ d) (let o : pos 1 *ℤ r.row.bound ≡ r.row.bound = product_one_left r.row.bound in let q : pos 0 +ℤ (pos 1 *ℤ r.row.bound) ≡ r.row.bound = omega (arith, ints) in q) in
        let c : negsuc 0 *ℤ dot p r.row.terms ≡ neg_ℤ (pos 1 *ℤ dot p r.row.terms) = product_neg_left (pos 1) (dot p r.row.terms) in
        let e : (pos 0 +ℤ (negsuc 0 *ℤ r.row.bound)) *ℤ d ≡ neg_ℤ r.row.bound *ℤ d =
        ap (λ (w : ℤ). w *ℤ d) (let o : negsuc 0 *ℤ r.row.bound ≡ neg_ℤ (pos 1 *ℤ r.row.bound) = product_neg_left (pos 1) r.row.bound in
        let o2 : pos 1 *ℤ r.row.bound ≡ r.row.bound = product_one_left r.row.bound in
        let q : pos 0 +ℤ (negsuc 0 *ℤ r.row.bound) ≡ neg_ℤ r.row.bound = omega (arith, ints) in q) in
        let f : neg_ℤ r.row.bound *ℤ d ≡ neg_ℤ (r.row.bound *ℤ d) = product_neg_left r.row.bound d in
        omega (arith, ints)

    by_test : (b : Bool) → (is_equality r.row.kind && has k r) ≡ b →
        AllByRecursion (RowHolds d p) (if b then plus_times nothing_derived (pos 1) r ∷ plus_times nothing_derived (negsuc 0) r ∷ [] else r ∷ []) → RowHolds d p r
    by_test true e i =
        let q : r.row.kind ≡ Eq = equality_is r.row.kind (and_parts (is_equality r.row.kind) (has k r) e).0 in
        subst (λ (kind : RowKind). Stands kind (dot p r.row.terms) (r.row.bound *ℤ d)) (sym q) (both (half (pos 1) i.0) (half (negsuc 0) i.1.0))
    by_test false e i = i.0

-- ---- a column between bounds

has_from_nonzero : (k : ℕ) (r : DerivedRow) → at k r ≢ pos 0 → has k r ≡ true
has_from_nonzero k r n = by_test (is_zero (at k r)) refl
  where
    by_test : (b : Bool) → is_zero (at k r) ≡ b → not b ≡ true
    by_test true e = absurd (n (zero_is (at k r) e))
    by_test false e = refl

not_has_from_zero : (k : ℕ) (r : DerivedRow) → at k r ≡ pos 0 → not (has k r) ≡ true
not_has_from_zero k r e = subst (λ (z : ℤ). not (not (is_zero z)) ≡ true) (sym e) refl

abbrev pub Anything : DerivedRow → Type 0
Anything r = Unit {0}

pub passing : (f : DerivedRow → Bool) (rows : List DerivedRow) → AllByRecursion (λ r. f r ≡ true) (filter f rows)
passing f rows =
    all_weaker (λ r. Anything r × (f r ≡ true)) (λ r. f r ≡ true) (filter f rows) (λ r i. i.1) (all_filter Anything f rows (all_always Anything rows (λ r. tt)))

pub best_low : (k : ℕ) (values : List Fraction) (rows : List DerivedRow) → AllByRecursion (λ r. pos 0 <ℤ (end_of k values r).den) rows →
    IsBest AtMost (end_of k values) (lower_end k values rows) rows
best_low k values rows h =
    best_is AtMost at_most_refl at_most_trans (λ a b i. i.right) greater greater_left greater_right greater_least (end_of k values) (raised k values) (λ r. refl) (λ m r. refl) rows h

pub best_up : (k : ℕ) (values : List Fraction) (rows : List DerivedRow) → AllByRecursion (λ r. pos 0 <ℤ (end_of k values r).den) rows →
    IsBest AtLeast (end_of k values) (upper_end k values rows) rows
best_up k values rows h =
    best_is AtLeast at_most_refl (λ a b c i j. at_most_trans c b a j i) (λ a b i. i.left) less less_left less_right less_greatest (end_of k values) (lowered_end k values) (λ r. refl) (λ m r. refl) rows h

-- what is known of each row after splitting
abbrev IsWithin : ℤ → (ℕ → ℤ) → ℕ → List Fraction → Fraction → DerivedRow → Type 0
IsWithin d p k values v r =
    (IsInequality k r × (not (has k r) ≡ true → RowHolds d p r)) × ((is_upper k r ≡ true → AtMost v (end_of k values r)) × (is_lower k r ≡ true → AtMost (end_of k values r) v))

row_within : (d : ℤ) (p : ℕ → ℤ) (k : ℕ) (values : List Fraction) (v : Fraction) (r : DerivedRow) → AreValues values d p → p k ≡ pos 0 → pos 0 <ℤ v.den →
    IsWithin d p k values v r → RowHolds (d *ℤ v.den) (wider d p k v) r
row_within d p k values v r a z q h = by_upper (is_upper k r) refl
  where
    by_lower : (b : Bool) → is_upper k r ≡ false → is_lower k r ≡ b → RowHolds (d *ℤ v.den) (wider d p k v) r
    by_lower true e f =
        let l : at k r <ℤ pos 0 = less_is (at k r) (pos 0) f in
        let n : at k r ≢ pos 0 = negative_nonzero (at k r) l in
        lower_holds d p k v (end_of k values r) r z a.positive (h.0.0 (has_from_nonzero k r n)) l (end_is k values d p r a z n) (h.1.1 f)
    by_lower false e f =
        let l : at k r ≤ℤ pos 0 = not_less_is (pos 0) (at k r) e in
        let m : pos 0 ≤ℤ at k r = not_less_is (at k r) (pos 0) f in
        let n : at k r ≡ pos 0 = omega (arith, ints) in
        stays d p k v r z q n (h.0.1 (not_has_from_zero k r n))

    by_upper : (b : Bool) → is_upper k r ≡ b → RowHolds (d *ℤ v.den) (wider d p k v) r
    by_upper true e =
        let l : pos 0 <ℤ at k r = less_is (pos 0) (at k r) e in
        let n : at k r ≢ pos 0 = positive_nonzero (at k r) l in
        upper_holds d p k v (end_of k values r) r z a.positive (h.0.0 (has_from_nonzero k r n)) l (end_is k values d p r a z n) (h.1.0 e)
    by_upper false e = by_lower (is_lower k r) e refl

bounded_holds : (d : ℤ) (p : ℕ → ℤ) (k : ℕ) (values : List Fraction) (all : List DerivedRow) → AreValues values d p → p k ≡ pos 0 →
    AllByRecursion (IsInequality k) all → AllByRecursion (RowHolds d p) (paired_off k all).rows →
    let v = value_of k values (paired_off k all).aside in (pos 0 <ℤ v.den) × AllByRecursion (RowHolds (d *ℤ v.den) (wider d p k v)) all
bounded_holds d p k values all a z kinds h =
    let f : DerivedRow → Fraction = end_of k values in
    let lows : List DerivedRow = filter (is_lower k) all in
    let ups : List DerivedRow = filter (is_upper k) all in
    let v : Fraction = nearest (lower_end k values lows) (upper_end k values ups) in
    let s = all_parts (RowHolds d p) (filter (λ r. not (has k r)) all) (pairs k ups lows) h in
    let held : AllByRecursion (λ u. AllByRecursion (λ l. RowHolds d p (pair k u l)) lows) ups =
    all_weaker (λ u. AllByRecursion (RowHolds d p) (map (pair k u) lows)) (λ u. AllByRecursion (λ l. RowHolds d p (pair k u l)) lows) ups
    (λ u i. all_mapped (RowHolds d p) (pair k u) lows i) (all_flat_mapped (RowHolds d p) (λ u. map (pair k u) lows) ups s.1) in
    let low_tests : AllByRecursion (λ r. is_lower k r ≡ true) lows = passing (is_lower k) all in
    let up_tests : AllByRecursion (λ r. is_upper k r ≡ true) ups = passing (is_upper k) all in
    let order : AllByRecursion (λ u. AllByRecursion (λ l. AtMost (f l) (f u)) lows) ups =
    all_weaker (λ u. AllByRecursion (λ l. RowHolds d p (pair k u l)) lows × (is_upper k u ≡ true)) (λ u. AllByRecursion (λ l. AtMost (f l) (f u)) lows) ups
    (λ u i. all_weaker (λ l. RowHolds d p (pair k u l) × (is_lower k l ≡ true)) (λ l. AtMost (f l) (f u)) lows
    (λ l j. pair_in_order d p k values u l a z i.1 j.1 j.0)
    (all_both (λ l. RowHolds d p (pair k u l)) (λ l. is_lower k l ≡ true) lows i.0 low_tests))
    (all_both (λ u. AllByRecursion (λ l. RowHolds d p (pair k u l)) lows) (λ u. is_upper k u ≡ true) ups held up_tests) in
    let low_good : AllByRecursion (λ r. pos 0 <ℤ (f r).den) lows =
    all_weaker (λ r. is_lower k r ≡ true) (λ r. pos 0 <ℤ (f r).den) lows
    (λ r i. (end_is k values d p r a z (negative_nonzero (at k r) (less_is (at k r) (pos 0) i))).positive) low_tests in
    let up_good : AllByRecursion (λ r. pos 0 <ℤ (f r).den) ups =
    all_weaker (λ r. is_upper k r ≡ true) (λ r. pos 0 <ℤ (f r).den) ups
    (λ r i. (end_is k values d p r a z (positive_nonzero (at k r) (less_is (pos 0) (at k r) i))).positive) up_tests in
    let bl : IsBest AtMost f (lower_end k values lows) lows = best_low k values lows low_good in
    let bu : IsBest AtLeast f (upper_end k values ups) ups = best_up k values ups up_good in
    let lies = value_lies f (lower_end k values lows) (upper_end k values ups) lows ups bl bu (all_swap (λ u l. AtMost (f l) (f u)) ups lows order) in
    let good : pos 0 <ℤ v.den = lies_positive (lower_end k values lows) (upper_end k values ups) v lies in
    let below : AllByRecursion (λ r. is_lower k r ≡ true → AtMost (f r) v) all =
    all_filtered (λ r. AtMost (f r) v) (is_lower k) all (lows_below f (lower_end k values lows) (upper_end k values ups) v lows bl lies) in
    let above : AllByRecursion (λ r. is_upper k r ≡ true → AtMost v (f r)) all =
    all_filtered (λ r. AtMost v (f r)) (is_upper k) all (ups_above f (lower_end k values lows) (upper_end k values ups) v ups bu lies) in
    let free : AllByRecursion (λ r. not (has k r) ≡ true → RowHolds d p r) all = all_filtered (RowHolds d p) (λ r. not (has k r)) all s.0 in
    let within : AllByRecursion (IsWithin d p k values v) all =
    all_both (λ r. IsInequality k r × (not (has k r) ≡ true → RowHolds d p r)) (λ r. (is_upper k r ≡ true → AtMost v (f r)) × (is_lower k r ≡ true → AtMost (f r) v)) all
    (all_both (IsInequality k) (λ r. not (has k r) ≡ true → RowHolds d p r) all kinds free)
    (all_both (λ r. is_upper k r ≡ true → AtMost v (f r)) (λ r. is_lower k r ≡ true → AtMost (f r) v) all above below) in
    (good, all_weaker (IsWithin d p k values v) (RowHolds (d *ℤ v.den) (wider d p k v)) all (λ r i. row_within d p k values v r a z good i) within)

-- ---- a column that an equality forces

undo : (kind : RowKind) (x m y b c d : ℤ) → y ≡ c *ℤ d → Stands (sum_kind kind Eq) (x +ℤ (m *ℤ y)) ((b +ℤ (m *ℤ c)) *ℤ d) → Stands kind x (b *ℤ d)
undo Le x m y b c d e h =
    let f : m *ℤ y ≡ m *ℤ (c *ℤ d) = ap (λ (z : ℤ). m *ℤ z) e in
    let g : (b +ℤ (m *ℤ c)) *ℤ d ≡ (b *ℤ d) +ℤ ((m *ℤ c) *ℤ d) = distrib_right b (m *ℤ c) d in
    let i : (m *ℤ c) *ℤ d ≡ m *ℤ (c *ℤ d) = product_assoc m c d in
    omega (arith, ints)
undo Eq x m y b c d e h =
    let f : m *ℤ y ≡ m *ℤ (c *ℤ d) = ap (λ (z : ℤ). m *ℤ z) e in
    let g : (b +ℤ (m *ℤ c)) *ℤ d ≡ (b *ℤ d) +ℤ ((m *ℤ c) *ℤ d) = distrib_right b (m *ℤ c) d in
    let i : (m *ℤ c) *ℤ d ≡ m *ℤ (c *ℤ d) = product_assoc m c d in
    omega (arith, ints)

-- a row holds where the row without the column and the equality hold
uncleared : (d : ℤ) (p : ℕ → ℤ) (k : ℕ) (e r : DerivedRow) → e.row.kind ≡ Eq → dot p e.row.terms ≡ e.row.bound *ℤ d → RowHolds d p (cleared k e r) → RowHolds d p r
uncleared d p k e r q i h = by_test (has k r) h
  where
    by_test : (b : Bool) → RowHolds d p (if b then plus_times r (clearing k e r) e else r) → RowHolds d p r
    by_test true j =
        let m : ℤ = clearing k e r in
        let s : Stands (sum_kind r.row.kind e.row.kind) (dot p r.row.terms +ℤ (m *ℤ dot p e.row.terms)) ((r.row.bound +ℤ (m *ℤ e.row.bound)) *ℤ d) =
        subst (λ (z : ℤ). Stands (sum_kind r.row.kind e.row.kind) z ((r.row.bound +ℤ (m *ℤ e.row.bound)) *ℤ d)) (dot-scaled_sum p r.row.terms m e.row.terms) j in
        undo r.row.kind (dot p r.row.terms) m (dot p e.row.terms) r.row.bound e.row.bound d i
        (subst (λ (kind : RowKind). Stands (sum_kind r.row.kind kind) (dot p r.row.terms +ℤ (m *ℤ dot p e.row.terms)) ((r.row.bound +ℤ (m *ℤ e.row.bound)) *ℤ d)) q s)
    by_test false j = j

pub unit_nonzero : (z : ℤ) → unsigned_abs z ≡ 1 → z ≢ pos 0
unit_nonzero z e h = omega (arith, ints)

forced_all : (d : ℤ) (p : ℕ → ℤ) (k : ℕ) (values : List Fraction) (e : DerivedRow) (rows : List DerivedRow) → AreValues values d p → p k ≡ pos 0 →
    first (is_pivot k) rows ≡ Some e → is_pivot k e ≡ true → AllByRecursion (RowHolds d p) (map (cleared k e) (others (is_pivot k) rows)) →
    let v = end_of k values e in (pos 0 <ℤ v.den) × AllByRecursion (RowHolds (d *ℤ v.den) (wider d p k v)) rows
forced_all d p k values e rows a z f t h =
    let v : Fraction = end_of k values e in
    let i : Is v (room d p e) (at k e *ℤ d) = end_is k values d p e a z (unit_nonzero (at k e) (pivot_is_unit k e t)) in
    let q : e.row.kind ≡ Eq = equality_is e.row.kind (and_parts (is_equality e.row.kind) (nat_eq (unsigned_abs (at k e)) 1) t).0 in
    let own : dot (wider d p k v) e.row.terms ≡ e.row.bound *ℤ (d *ℤ v.den) = forced_holds d p k v e z i in
    let here : RowHolds (d *ℤ v.den) (wider d p k v) e =
    subst (λ (kind : RowKind). Stands kind (dot (wider d p k v) e.row.terms) (e.row.bound *ℤ (d *ℤ v.den))) (sym q) own in
    let there : AllByRecursion (RowHolds (d *ℤ v.den) (wider d p k v)) (others (is_pivot k) rows) =
    all_weaker (λ r. RowHolds d p (cleared k e r)) (RowHolds (d *ℤ v.den) (wider d p k v)) (others (is_pivot k) rows)
    (λ r j. uncleared (d *ℤ v.den) (wider d p k v) k e r q own (stays d p k v (cleared k e r) z i.positive (cleared_lacks k e r t) j))
    (all_mapped (RowHolds d p) (cleared k e) (others (is_pivot k) rows) h) in
    (i.positive, all_of_others (RowHolds (d *ℤ v.den) (wider d p k v)) (is_pivot k) rows e f here there)

-- ---- one column

step_by_holds : (d : ℤ) (p : ℕ → ℤ) (k : ℕ) (values : List Fraction) (o : Option DerivedRow) (rows : List DerivedRow) → AreValues values d p → p k ≡ pos 0 →
    first (is_pivot k) rows ≡ o → MatchOption o (Unit {0}) (λ e. Anything e × (is_pivot k e ≡ true)) → AllByRecursion (RowHolds d p) (elimination_step_by k o rows).rows →
    let v = value_of k values (elimination_step_by k o rows).aside in (pos 0 <ℤ v.den) × AllByRecursion (RowHolds (d *ℤ v.den) (wider d p k v)) rows
step_by_holds d p k values (Some e) rows a z f t h = forced_all d p k values e rows a z f t.1 h
step_by_holds d p k values None rows a z f t h =
    let all : List DerivedRow = flat_map (halves k) rows in
    let v : Fraction = value_of k values (paired_off k all).aside in
    let kinds : AllByRecursion (IsInequality k) all = kinds_of rows in
    let b = bounded_holds d p k values all a z kinds h in (
      b.0,
      all_weaker (λ r. AllByRecursion (RowHolds (d *ℤ v.den) (wider d p k v)) (halves k r)) (RowHolds (d *ℤ v.den) (wider d p k v)) rows
          (λ r i. halves_hold (d *ℤ v.den) (wider d p k v) k r i)
          (all_flat_mapped (RowHolds (d *ℤ v.den) (wider d p k v)) (halves k) rows b.1),
    )
  where
    kinds_of : (xs : List DerivedRow) → AllByRecursion (IsInequality k) (flat_map (halves k) xs)
    kinds_of [] = tt
    kinds_of (x ∷ xs) = all_append (IsInequality k) (halves k x) (flat_map (halves k) xs) (halves_are_inequalities k x) (kinds_of xs)

-- ---- all columns

-- the point with these values, one a column, meets the rows
pub record MeetsRows (n : ℕ) (rows : List DerivedRow) (values : List Fraction) : Type 0 where
  pub columns : length values ≡ n
  pub d : ℤ
  pub p : ℕ → ℤ
  pub are_values : AreValues values d p
  pub holds : AllByRecursion (RowHolds d p) rows

abbrev pub IfPoint : EliminationOutcome → (List Fraction → Type 0) → Type 0
IfPoint (refuted parts) P = Unit {0}
IfPoint (point values) P = P values

pub step_meets : (k : ℕ) (rows : List DerivedRow) (values : List Fraction) → MeetsRows k (elimination_step k rows).rows values →
    MeetsRows (suc k) rows (values ++ value_of k values (elimination_step k rows).aside ∷ [])
step_meets k rows values m =
    let v : Fraction = value_of k values (elimination_step k rows).aside in
    let z : m.p k ≡ pos 0 = none_at_end k values m.d m.p m.columns m.are_values in
    let s = step_by_holds m.d m.p k values (first (is_pivot k) rows) rows m.are_values z refl
    (all_first Anything (is_pivot k) rows (all_always Anything rows (λ r. tt))) m.holds in
    record {
      columns = (let e : length (values ++ v ∷ []) ≡ length values + length (v ∷ []) = length-append values (v ∷ []) in
          let c : length values ≡ k = m.columns in
          let o : length (v ∷ []) ≡ 1 = refl in
          omega arith);
      d = m.d *ℤ v.den;
      p = wider m.d m.p k v;
      are_values = extended_values k values m.d m.p v m.columns s.0 m.are_values;
      holds = s.1;
    }

extended_meets : (k : ℕ) (rows : List DerivedRow) (o : EliminationOutcome) → IfPoint o (MeetsRows k (elimination_step k rows).rows) →
    IfPoint (extended k (elimination_step k rows).aside o) (MeetsRows (suc k) rows)
extended_meets k rows (refuted parts) h = tt
extended_meets k rows (point values) h = step_meets k rows values h

pub unless_false_meets : (o : Option DerivedRow) (rest : EliminationOutcome) (P : List Fraction → Type 0) → (o ≡ None → IfPoint rest P) → IfPoint (unless_false o rest) P
unless_false_meets None rest P h = h refl
unless_false_meets (Some r) rest P h = tt

no_columns : (terms : List (ℕ × ℤ)) (kind : RowKind) (bound : ℤ) → AscendsFrom 0 terms → HasNoZero terms → ((c : ℕ) → coefficient c terms ≡ pos 0) →
    (has_no_terms terms && is_false_bound kind bound) ≡ false → Stands kind (dot (λ c. pos 0) terms) (bound *ℤ pos 1)
no_columns [] Le bound a n c e =
    let l : pos 0 ≤ℤ bound = not_less_is bound (pos 0) e in
    let o : bound *ℤ pos 1 ≡ bound = product_one_right bound in
    omega (arith, ints)
no_columns [] Eq bound a n c e = by_test (is_zero bound) refl e
  where
    by_test : (b : Bool) → is_zero bound ≡ b → not b ≡ false → pos 0 ≡ bound *ℤ pos 1
    by_test true f g = let z : bound ≡ pos 0 = zero_is bound f in let o : bound *ℤ pos 1 ≡ bound = product_one_right bound in omega (arith, ints)
    by_test false f g = absurd (cc)
no_columns (t ∷ ts) kind bound a n c e = absurd (n.0 (sym (coefficient_first t.0 t ts a.1 refl) ∙ c t.0))

pub none_meets : (rows : List DerivedRow) → AllByRecursion (IsClear 0) rows → AllByRecursion IsOrdered rows → first is_false rows ≡ None → MeetsRows 0 rows []
none_meets rows c o e = record {
  columns = refl;
  d = pos 1;
  p = λ c. pos 0;
  are_values = record { positive = omega (arith, ints); each = λ c. record { positive = omega (arith, ints); ratio = refl } };
  holds =
      all_weaker (λ r. (IsClear 0 r × IsOrdered r) × (is_false r ≡ false)) (RowHolds (pos 1) (λ c. pos 0)) rows
      (λ r i. no_columns r.row.terms r.row.kind r.row.bound i.0.1.0 i.0.1.1 (λ c. i.0.0 c (omega arith)) i.1)
      (all_both (λ r. IsClear 0 r × IsOrdered r) (λ r. is_false r ≡ false) rows (all_both (IsClear 0) IsOrdered rows c o) (none_first is_false rows e));
}

pub solve_meets : (n : ℕ) (rows : List DerivedRow) → AllByRecursion (IsClear n) rows → AllByRecursion IsOrdered rows → IfPoint (solve n rows) (MeetsRows n rows)
solve_meets zero rows c o =
    unless_false_meets (first is_false rows) (point []) (MeetsRows 0 rows) (λ e. none_meets rows c o e)
solve_meets (suc k) rows c o =
    unless_false_meets (first is_false rows) (extended k (elimination_step k rows).aside (solve k (elimination_step k rows).rows)) (MeetsRows (suc k) rows)
    (λ e. extended_meets k rows (solve k (elimination_step k rows).rows)
    (solve_meets k (elimination_step k rows).rows (step_is_clear k rows c) (step_is_ordered k rows o)))
