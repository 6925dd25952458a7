-- The elimination finds the point each of whose values is picked from what the values before it leave.
use Rattle.std.proofs.Common.{◌≡◌, ◌≢◌, ℕ, zero, suc, ◌+◌, ◌%◌, ◌<◌, ℤ, pos, neg_ℤ, ◌+ℤ◌, ◌*ℤ◌, ◌≤ℤ◌, ◌<ℤ◌, Bool, true, false, List, [], ◌∷◌, ◌++◌, Option, None, Some, length, nat_eq, append_assoc, refl, sym, ap, ◌∙◌, subst, inl, inr, ◌⊎◌, arith, if◌then◌else◌}
use Rattle.std.specs.Prelude.{MatchOption, IfSome, unsigned_abs, int_le}
use Rattle.std.specs.Int.{int_max, int_min}
use Rattle.std.proofs.lemmas.Nat.Gcd.{IsGcd-from_zero, IsGcd-from_mod}
use Rattle.std.specs.List.{AllByRecursion, filter, flat_map, fold}
use Rattle.std.proofs.lemmas.Bool.{cases_eq, and_parts}
use Rattle.std.proofs.lemmas.Int.{ints}
use Rattle.std.proofs.lemmas.List.{length-append}
use Rattle.math_facts.specs.Terms.{dot, with_value}
use Rattle.math_facts.proofs.Whole.{product_comm, product_assoc, product_monotone, product_cancel, product_nonzero, product_zero_left, product_zero_right, distrib_right, product_neg_left, cancel_order}
use Rattle.math_facts.proofs.TermLaws.{dot-with_value_at, with_value_here, with_value_other}
use Rattle.frac.specs.Fractions.{Fraction, IsLowest}
use Rattle.frac.proofs.LowestTerms.{same_lowest}
use Rattle.lin_rows.specs.declared.types.RowKind.{RowKind}
use Rattle.lin_rows.specs.declared.types.RowKind.TheVariants.{Eq}
use Rattle.lin_rows.specs.Rows.{LinearRow, Stands}
use Rattle.lin_rows.specs.Sums.{sum_kind, CanScale}
use Rattle.lin_rows.proofs.HoldsLaws.{holds-scaled_sum, stands_as_inequality}
use Rattle.fm_elim.specs.Quotients.{whole, fraction_minus, is_less, floor, ceiling, nearest}
use Rattle.fm_elim.specs.Folds.{first}
use Rattle.fm_elim.specs.Derivations.{DerivedRow, nothing_derived, plus_times, at, is_upper, is_lower, is_equality, is_false}
use Rattle.fm_elim.specs.Columns.{is_pivot, halves, elimination_step_by, elimination_step}
use Rattle.fm_elim.specs.Values.{value_at, sum_of, end_of, greater_end, less_end, raised, lower_end, upper_end, value_of}
use Rattle.fm_elim.specs.Elimination.{EliminationOutcome, refuted, point, extended, solve}
use Rattle.fm_elim.specs.Slices.{IsPick, InSlice, IsPicked}
use Rattle.fm_elim.proofs.Lists.{all_append, all_parts, all_weaker, all_both, all_always, all_flat_map, all_filter, all_first}
use Rattle.fm_elim.proofs.Steps.{equality_is, halves_keep, step_keeps}
use Rattle.fm_elim.proofs.Multipliers.{less_is}
use Rattle.fm_elim.proofs.Inputs.{IsClear, IsOrdered}
use Rattle.fm_elim.proofs.FractionLaws.{Is, lowest, whole_is, minus_is, positive_product, positive_is_not_zero}
use Rattle.fm_elim.proofs.Clearing.{Lacks, pivot_is_unit, step_lacks, step_is_clear, step_is_ordered}
use Rattle.fm_elim.proofs.Ends.{AreValues, room, sum_is, end_is}
use Rattle.fm_elim.proofs.Between.{AtMost, AtLeast, IsBest, Lies}
use Rattle.fm_elim.proofs.Extending.{at_end, past_end, not_at_end, none_at_end}
use Rattle.fm_elim.proofs.Points.{RowHolds, Anything, passing, best_low, best_up, negative_nonzero, positive_nonzero, unit_nonzero, MeetsRows, IfPoint, step_meets, unless_false_meets, none_meets}
use Rattle.fm_elim.proofs.Picks.{pick_of_same, only_is_pick, nearest_is_pick}

-- a point of derived rows, in lowest terms
pub record IsOne (n : ℕ) (rows : List DerivedRow) (values : List Fraction) : Type 0 where
  pub lowest : AllByRecursion IsLowest values
  pub meets : MeetsRows n rows values

-- ---- rows that hold make rows that hold

nothing_holds : (d : ℤ) (p : ℕ → ℤ) → RowHolds d p nothing_derived
nothing_holds d p = let z : pos 0 *ℤ d ≡ pos 0 = product_zero_left d in (let l : pos 0 ≤ℤ (pos 0 *ℤ d) = omega (arith, ints) in l)

sum_holds : (d : ℤ) (p : ℕ → ℤ) (a : DerivedRow) (m : ℤ) (b : DerivedRow) → CanScale m b.row.kind → RowHolds d p a → RowHolds d p b → RowHolds d p (plus_times a m b)
sum_holds d p a m b s h i =
    let widened : DerivedRow → LinearRow = λ r. record { terms = r.row.terms; kind = r.row.kind; bound = r.row.bound *ℤ d } in
    let e : (a.row.bound +ℤ (m *ℤ b.row.bound)) *ℤ d ≡ (a.row.bound *ℤ d) +ℤ ((m *ℤ b.row.bound) *ℤ d) = distrib_right a.row.bound (m *ℤ b.row.bound) d in
    let f : (m *ℤ b.row.bound) *ℤ d ≡ m *ℤ (b.row.bound *ℤ d) = product_assoc m b.row.bound d in
    let g : (a.row.bound *ℤ d) +ℤ (m *ℤ (b.row.bound *ℤ d)) ≡ (a.row.bound +ℤ (m *ℤ b.row.bound)) *ℤ d = omega (arith, ints) in
    subst (λ (x : ℤ). Stands (sum_kind a.row.kind b.row.kind) (dot p (plus_times a m b).row.terms) x) g
    (holds-scaled_sum p (widened a) m (widened b) s h i)

-- ---- the last value of a point

-- the numerators without that of a column
abbrev without : (ℕ → ℤ) → ℕ → ℕ → ℤ
without p k = with_value p k (pos 0)

shorter_values : (k : ℕ) (values : List Fraction) (w : Fraction) (d : ℤ) (p : ℕ → ℤ) → length values ≡ k → AreValues (values ++ w ∷ []) d p →
    AreValues values d (without p k)
shorter_values k values w d p e h = record { positive = h.positive; each = λ c. at_column c (cases_eq k c) }
  where
    at_column : (c : ℕ) → ((k ≡ c) ⊎ (k ≡ c → ⊥)) → Is (value_at values c) (without p k c) d
    at_column c (inl i) =
        let s : without p k c ≡ pos 0 = ap (without p k) (sym i) ∙ with_value_here p k (pos 0) in
        let t : value_at values c ≡ whole (pos 0) = past_end values c (omega arith) in
        let none : Is (whole (pos 0)) (pos 0) d = record { positive = omega (arith, ints); ratio = product_zero_left d } in
        subst (λ (z : ℤ). Is (value_at values c) z d) (sym s) (subst (λ (x : Fraction). Is x (pos 0) d) (sym t) none)
    at_column c (inr n) =
        subst (λ (z : ℤ). Is (value_at values c) z d) (sym (with_value_other p k (pos 0) c n))
        (subst (λ (x : Fraction). Is x (p c) d) (not_at_end values w c (λ (u : length values ≡ c). n (sym e ∙ u))) (h.each c))

last_value : (k : ℕ) (values : List Fraction) (w : Fraction) (d : ℤ) (p : ℕ → ℤ) → length values ≡ k → AreValues (values ++ w ∷ []) d p → Is w (p k) d
last_value k values w d p e h = subst (λ (x : Fraction). Is x (p k) d) (at_end values w k e) (h.each k)

-- a row at the point, and without the column's value
dot_without : (p : ℕ → ℤ) (k : ℕ) (r : DerivedRow) → dot (without p k) r.row.terms +ℤ (at k r *ℤ p k) ≡ dot p r.row.terms
dot_without p k r =
    let e : dot (without p k) r.row.terms +ℤ (at k r *ℤ p k) ≡ dot p r.row.terms +ℤ (at k r *ℤ pos 0) = dot-with_value_at p k (pos 0) r.row.terms in
    let z : at k r *ℤ pos 0 ≡ pos 0 = product_zero_right (at k r) in
    omega (arith, ints)

holds_without : (d : ℤ) (p : ℕ → ℤ) (k : ℕ) (r : DerivedRow) → Lacks k r → RowHolds d p r → RowHolds d (without p k) r
holds_without d p k r l h =
    let e : dot (without p k) r.row.terms +ℤ (at k r *ℤ p k) ≡ dot p r.row.terms = dot_without p k r in
    let f : at k r *ℤ p k ≡ pos 0 *ℤ p k = ap (λ (x : ℤ). x *ℤ p k) l in
    let z : pos 0 *ℤ p k ≡ pos 0 = product_zero_left (p k) in
    let g : dot p r.row.terms ≡ dot (without p k) r.row.terms = omega (arith, ints) in
    subst (λ (x : ℤ). Stands r.row.kind x (r.row.bound *ℤ d)) g h

length_last : (values : List Fraction) (w : Fraction) (k : ℕ) → length (values ++ w ∷ []) ≡ suc k → length values ≡ k
length_last values w k e =
    let f : length (values ++ w ∷ []) ≡ length values + length (w ∷ []) = length-append values (w ∷ []) in
    let o : length (w ∷ []) ≡ 1 = refl in
    omega arith

-- a point without its last value meets the rows without the column
pub shorter_meets : (k : ℕ) (rows : List DerivedRow) (values : List Fraction) (w : Fraction) → MeetsRows (suc k) rows (values ++ w ∷ []) →
    MeetsRows k (elimination_step k rows).rows values
shorter_meets k rows values w m =
    let e : length values ≡ k = length_last values w k m.columns in
    record {
      columns = e;
      d = m.d;
      p = without m.p k;
      are_values = shorter_values k values w m.d m.p e m.are_values;
      holds =
          all_weaker (λ r. RowHolds m.d m.p r × Lacks k r) (RowHolds m.d (without m.p k)) (elimination_step k rows).rows (λ r i. holds_without m.d m.p k r i.1 i.0)
          (all_both (RowHolds m.d m.p) (Lacks k) (elimination_step k rows).rows
          (step_keeps (RowHolds m.d m.p) (nothing_holds m.d m.p) (sum_holds m.d m.p) k rows m.holds) (step_lacks k rows));
    }

-- ---- the last value and the ends that rows set

-- what the row leaves for the column
takes_room : (d : ℤ) (p : ℕ → ℤ) (k : ℕ) (r : DerivedRow) → dot p r.row.terms ≤ℤ (r.row.bound *ℤ d) → (at k r *ℤ p k) ≤ℤ room d (without p k) r
takes_room d p k r h = let e : dot (without p k) r.row.terms +ℤ (at k r *ℤ p k) ≡ dot p r.row.terms = dot_without p k r in omega (arith, ints)

takes_all_room : (d : ℤ) (p : ℕ → ℤ) (k : ℕ) (r : DerivedRow) → dot p r.row.terms ≡ r.row.bound *ℤ d → at k r *ℤ p k ≡ room d (without p k) r
takes_all_room d p k r h = let e : dot (without p k) r.row.terms +ℤ (at k r *ℤ p k) ≡ dot p r.row.terms = dot_without p k r in omega (arith, ints)

-- with w = q/d and the end = rest/(a*d), both times the denominators
left_side : (a d q : ℤ) (w end : Fraction) → Is w q d → (a *ℤ d) *ℤ (w.num *ℤ end.den) ≡ (w.den *ℤ end.den) *ℤ (a *ℤ q)
left_side a d q w end i =
    product_assoc a d (w.num *ℤ end.den) ∙
    ap (λ (x : ℤ). a *ℤ x) (sym (product_assoc d w.num end.den) ∙ ap (λ (x : ℤ). x *ℤ end.den) (product_comm d w.num ∙ i.ratio) ∙ product_assoc q w.den end.den) ∙
    sym (product_assoc a q (w.den *ℤ end.den)) ∙ product_comm (a *ℤ q) (w.den *ℤ end.den)

right_side : (a d rest : ℤ) (w end : Fraction) → Is end rest (a *ℤ d) → (a *ℤ d) *ℤ (end.num *ℤ w.den) ≡ (w.den *ℤ end.den) *ℤ rest
right_side a d rest w end j =
    sym (product_assoc (a *ℤ d) end.num w.den) ∙ ap (λ (x : ℤ). x *ℤ w.den) (product_comm (a *ℤ d) end.num ∙ j.ratio) ∙
    product_assoc rest end.den w.den ∙ ap (λ (x : ℤ). rest *ℤ x) (product_comm end.den w.den) ∙ product_comm rest (w.den *ℤ end.den)

sides : (a d q rest : ℤ) (w end : Fraction) → Is w q d → Is end rest (a *ℤ d) → (a *ℤ q) ≤ℤ rest →
    ((a *ℤ d) *ℤ (w.num *ℤ end.den)) ≤ℤ ((a *ℤ d) *ℤ (end.num *ℤ w.den))
sides a d q rest w end i j h =
    let e : (a *ℤ d) *ℤ (w.num *ℤ end.den) ≡ (w.den *ℤ end.den) *ℤ (a *ℤ q) = left_side a d q w end i in
    let f : (a *ℤ d) *ℤ (end.num *ℤ w.den) ≡ (w.den *ℤ end.den) *ℤ rest = right_side a d rest w end j in
    let g : pos 0 <ℤ (w.den *ℤ end.den) = positive_product w.den end.den i.positive j.positive in
    let k : ((w.den *ℤ end.den) *ℤ (a *ℤ q)) ≤ℤ ((w.den *ℤ end.den) *ℤ rest) = product_monotone (w.den *ℤ end.den) (a *ℤ q) rest (omega (arith, ints)) h in
    omega (arith, ints)

below_upper : (a d q rest : ℤ) (w end : Fraction) → pos 0 <ℤ a → pos 0 <ℤ d → Is w q d → Is end rest (a *ℤ d) → (a *ℤ q) ≤ℤ rest → AtMost w end
below_upper a d q rest w end l p i j h = record {
  left = i.positive;
  right = j.positive;
  order = cancel_order (a *ℤ d) (w.num *ℤ end.den) (end.num *ℤ w.den) (positive_product a d l p) (sides a d q rest w end i j h);
}

above_lower : (a d q rest : ℤ) (w end : Fraction) → a <ℤ pos 0 → pos 0 <ℤ d → Is w q d → Is end rest (a *ℤ d) → (a *ℤ q) ≤ℤ rest → AtMost end w
above_lower a d q rest w end l p i j h =
    let m : ℤ = a *ℤ d in
    let s : neg_ℤ a *ℤ d ≡ neg_ℤ m = product_neg_left a d in
    let t : pos 0 <ℤ (neg_ℤ a *ℤ d) = positive_product (neg_ℤ a) d (omega (arith, ints)) p in
    let x : (m *ℤ (w.num *ℤ end.den)) ≤ℤ (m *ℤ (end.num *ℤ w.den)) = sides a d q rest w end i j h in
    let y : neg_ℤ m *ℤ (w.num *ℤ end.den) ≡ neg_ℤ (m *ℤ (w.num *ℤ end.den)) = product_neg_left m (w.num *ℤ end.den) in
    let z : neg_ℤ m *ℤ (end.num *ℤ w.den) ≡ neg_ℤ (m *ℤ (end.num *ℤ w.den)) = product_neg_left m (end.num *ℤ w.den) in
    record {
      left = j.positive;
      right = i.positive;
      order = cancel_order (neg_ℤ m) (end.num *ℤ w.den) (w.num *ℤ end.den) (omega (arith, ints)) (omega (arith, ints));
    }

at_forced : (a d q rest : ℤ) (w end : Fraction) → a ≢ pos 0 → pos 0 <ℤ d → Is w q d → Is end rest (a *ℤ d) → a *ℤ q ≡ rest → IsLowest w → IsLowest end → w ≡ end
at_forced a d q rest w end n p i j h v x =
    same_lowest w end v x
    (product_cancel (a *ℤ d) (w.num *ℤ end.den) (end.num *ℤ w.den) (product_nonzero a d n (positive_is_not_zero d p))
    (left_side a d q w end i ∙ ap (λ (y : ℤ). (w.den *ℤ end.den) *ℤ y) h ∙ sym (right_side a d rest w end j)))

-- ---- ends in lowest terms

end_lowest : (k : ℕ) (values : List Fraction) (d : ℤ) (p : ℕ → ℤ) (r : DerivedRow) → AreValues values d p → p k ≡ pos 0 → at k r ≢ pos 0 → IsLowest (end_of k values r)
end_lowest k values d p r v z n =
    let x : Fraction = fraction_minus (whole r.row.bound) (sum_of k values r.row.terms) in
    let i : Is x (room d p r) d =
    minus_is (whole r.row.bound) (sum_of k values r.row.terms) (r.row.bound *ℤ d) (dot p r.row.terms) d (whole_is r.row.bound d) (sum_is k values d p r.row.terms v z) in
    lowest (x.num *ℤ pos 1) (x.den *ℤ at k r) (product_nonzero x.den (at k r) (positive_is_not_zero x.den i.positive) n)

pub whole_lowest : (z : ℤ) → IsLowest (whole z)
whole_lowest z = record { positive = omega (arith, ints); coprime = IsGcd-from_mod (unsigned_abs z) 1 1 (IsGcd-from_zero 1 (unsigned_abs z % 1) (let e : unsigned_abs z % 1 ≡ 0 = omega arith in e)) }

greater_lowest : (best : Option Fraction) (e : Fraction) → IfSome best IsLowest → IsLowest e → IsLowest (greater_end best e)
greater_lowest None e h i = i
greater_lowest (Some b) e h i = by_test (is_less b e)
  where
    by_test : (t : Bool) → IsLowest (if t then e else b)
    by_test true = i
    by_test false = h

less_lowest : (best : Option Fraction) (e : Fraction) → IfSome best IsLowest → IsLowest e → IsLowest (less_end best e)
less_lowest None e h i = i
less_lowest (Some b) e h i = by_test (is_less e b)
  where
    by_test : (t : Bool) → IsLowest (if t then e else b)
    by_test true = i
    by_test false = h

lows_lowest : (k : ℕ) (values : List Fraction) (best : Option Fraction) (rows : List DerivedRow) → IfSome best IsLowest →
    AllByRecursion (λ r. IsLowest (end_of k values r)) rows → IfSome (fold (raised k values) best rows) IsLowest
lows_lowest k values best [] h i = h
lows_lowest k values best (r ∷ rows) h i = lows_lowest k values (raised k values best r) rows (greater_lowest best (end_of k values r) h i.0) i.1

nearest_lowest : (l u : Option Fraction) → IfSome l IsLowest → IsLowest (nearest l u)
nearest_lowest None None h = whole_lowest (pos 0)
nearest_lowest (Some l) None h = whole_lowest _
nearest_lowest None (Some u) h = whole_lowest _
nearest_lowest (Some l) (Some u) h = by_test (int_le (ceiling l) (floor u))
  where
    by_test : (t : Bool) → IsLowest (if t then whole (int_max (ceiling l) (int_min (pos 0) (floor u))) else l)
    by_test true = whole_lowest (int_max (ceiling l) (int_min (pos 0) (floor u)))
    by_test false = h

-- ---- the value of a column is the pick of what the values before it leave

aside_lowest : (k : ℕ) (values : List Fraction) (d : ℤ) (p : ℕ → ℤ) (o : Option DerivedRow) (rows : List DerivedRow) → AreValues values d p → p k ≡ pos 0 →
    MatchOption o (Unit {0}) (λ e. Anything e × (is_pivot k e ≡ true)) → IsLowest (value_of k values (elimination_step_by k o rows).aside)
aside_lowest k values d p (Some e) rows a z t = end_lowest k values d p e a z (unit_nonzero (at k e) (pivot_is_unit k e t.1))
aside_lowest k values d p None rows a z t =
    let all : List DerivedRow = flat_map (halves k) rows in
    let lows : List DerivedRow = filter (is_lower k) all in
    nearest_lowest (lower_end k values lows) (upper_end k values (filter (is_upper k) all))
    (lows_lowest k values None lows tt
    (all_weaker (λ r. is_lower k r ≡ true) (λ r. IsLowest (end_of k values r)) lows
    (λ r i. end_lowest k values d p r a z (negative_nonzero (at k r) (less_is (at k r) (pos 0) i))) (passing (is_lower k) all)))

pivot_first : (k : ℕ) (rows : List DerivedRow) → MatchOption (first (is_pivot k) rows) (Unit {0}) (λ e. Anything e × (is_pivot k e ≡ true))
pivot_first k rows = all_first Anything (is_pivot k) rows (all_always Anything rows (λ r. tt))

longer_one : (k : ℕ) (rows : List DerivedRow) (values : List Fraction) → IsOne k (elimination_step k rows).rows values →
    IsOne (suc k) rows (values ++ value_of k values (elimination_step k rows).aside ∷ [])
longer_one k rows values h =
    let m : MeetsRows k (elimination_step k rows).rows values = h.meets in
    let z : m.p k ≡ pos 0 = none_at_end k values m.d m.p m.columns m.are_values in
    record {
      lowest =
          all_append IsLowest values (value_of k values (elimination_step k rows).aside ∷ []) h.lowest
          (aside_lowest k values m.d m.p (first (is_pivot k) rows) rows m.are_values z (pivot_first k rows), tt);
      meets = step_meets k rows values m;
    }

shorter_one : (k : ℕ) (rows : List DerivedRow) (values : List Fraction) (w : Fraction) → IsOne (suc k) rows (values ++ w ∷ []) → IsOne k (elimination_step k rows).rows values
shorter_one k rows values w h = record { lowest = (all_parts IsLowest values (w ∷ []) h.lowest).0; meets = shorter_meets k rows values w h.meets }

-- what lies between all ends lies between the best ones
lies_from : (f : DerivedRow → Fraction) (l u : Option Fraction) (w : Fraction) (lows ups : List DerivedRow) → pos 0 <ℤ w.den → IsBest AtMost f l lows → IsBest AtLeast f u ups →
    AllByRecursion (λ r. AtMost (f r) w) lows → AllByRecursion (λ r. AtMost w (f r)) ups → Lies l u w
lies_from f None None w lows ups p h i a b = p
lies_from f (Some l) None w lows ups p h i a b = h.2 w a
lies_from f None (Some u) w lows ups p h i a b = i.2 w b
lies_from f (Some l) (Some u) w lows ups p h i a b = (h.2 w a, i.2 w b)

bounded_lies : (k : ℕ) (rows : List DerivedRow) (values : List Fraction) (w : Fraction) → MeetsRows (suc k) rows (values ++ w ∷ []) →
    let all = flat_map (halves k) rows in Lies (lower_end k values (filter (is_lower k) all)) (upper_end k values (filter (is_upper k) all)) w
bounded_lies k rows values w m =
    let d : ℤ = m.d in
    let p : ℕ → ℤ = m.p in
    let f : DerivedRow → Fraction = end_of k values in
    let all : List DerivedRow = flat_map (halves k) rows in
    let lows : List DerivedRow = filter (is_lower k) all in
    let ups : List DerivedRow = filter (is_upper k) all in
    let e : length values ≡ k = length_last values w k m.columns in
    let a : AreValues values d (without p k) = shorter_values k values w d p e m.are_values in
    let z : without p k k ≡ pos 0 = with_value_here p k (pos 0) in
    let i : Is w (p k) d = last_value k values w d p e m.are_values in
    let held : AllByRecursion (RowHolds d p) all =
    all_flat_map (RowHolds d p) (RowHolds d p) (halves k) rows (λ r h. halves_keep (RowHolds d p) (nothing_holds d p) (sum_holds d p) k r h) m.holds in
    let low_ends : AllByRecursion (λ r. AtMost (f r) w) lows =
    all_weaker (λ r. RowHolds d p r × (is_lower k r ≡ true)) (λ r. AtMost (f r) w) lows
    (λ r h.
    let l : at k r <ℤ pos 0 = less_is (at k r) (pos 0) h.1 in
    above_lower (at k r) d (p k) (room d (without p k) r) w (f r) l a.positive i (end_is k values d (without p k) r a z (negative_nonzero (at k r) l))
    (takes_room d p k r (stands_as_inequality r.row.kind (dot p r.row.terms) (r.row.bound *ℤ d) h.0)))
    (all_filter (RowHolds d p) (is_lower k) all held) in
    let up_ends : AllByRecursion (λ r. AtMost w (f r)) ups =
    all_weaker (λ r. RowHolds d p r × (is_upper k r ≡ true)) (λ r. AtMost w (f r)) ups
    (λ r h.
    let l : pos 0 <ℤ at k r = less_is (pos 0) (at k r) h.1 in
    below_upper (at k r) d (p k) (room d (without p k) r) w (f r) l a.positive i (end_is k values d (without p k) r a z (positive_nonzero (at k r) l))
    (takes_room d p k r (stands_as_inequality r.row.kind (dot p r.row.terms) (r.row.bound *ℤ d) h.0)))
    (all_filter (RowHolds d p) (is_upper k) all held) in
    lies_from f (lower_end k values lows) (upper_end k values ups) w lows ups i.positive
    (best_low k values lows (all_weaker (λ r. AtMost (f r) w) (λ r. pos 0 <ℤ (f r).den) lows (λ r h. h.left) low_ends))
    (best_up k values ups (all_weaker (λ r. AtMost w (f r)) (λ r. pos 0 <ℤ (f r).den) ups (λ r h. h.right) up_ends))
    low_ends up_ends

forced_is : (k : ℕ) (rows : List DerivedRow) (values : List Fraction) (w : Fraction) (e : DerivedRow) → first (is_pivot k) rows ≡ Some e → is_pivot k e ≡ true →
    IsOne (suc k) rows (values ++ w ∷ []) → w ≡ end_of k values e
forced_is k rows values w e g t q =
    let m : MeetsRows (suc k) rows (values ++ w ∷ []) = q.meets in
    let d : ℤ = m.d in
    let p : ℕ → ℤ = m.p in
    let s : length values ≡ k = length_last values w k m.columns in
    let a : AreValues values d (without p k) = shorter_values k values w d p s m.are_values in
    let z : without p k k ≡ pos 0 = with_value_here p k (pos 0) in
    let n : at k e ≢ pos 0 = unit_nonzero (at k e) (pivot_is_unit k e t) in
    let h : RowHolds d p e =
    (subst (λ (o : Option DerivedRow). MatchOption o (Unit {0}) (λ r. RowHolds d p r × (is_pivot k r ≡ true))) g
    (all_first (RowHolds d p) (is_pivot k) rows m.holds)).0 in
    let c : e.row.kind ≡ Eq = equality_is e.row.kind (and_parts (is_equality e.row.kind) (nat_eq (unsigned_abs (at k e)) 1) t).0 in
    let o : dot p e.row.terms ≡ e.row.bound *ℤ d = subst (λ (kind : RowKind). Stands kind (dot p e.row.terms) (e.row.bound *ℤ d)) c h in
    at_forced (at k e) d (p k) (room d (without p k) e) w (end_of k values e) n a.positive (last_value k values w d p s m.are_values)
    (end_is k values d (without p k) e a z n) (takes_all_room d p k e o)
    (all_parts IsLowest values (w ∷ []) q.lowest).1.0 (end_lowest k values d (without p k) e a z n)

no_more : (k : ℕ) (values : List Fraction) (w : Fraction) (rest : List Fraction) → length values ≡ k → length (values ++ w ∷ rest) ≡ suc k → rest ≡ []
no_more k values w [] e f = refl
no_more k values w (x ∷ rest) e f =
    let g : length (values ++ w ∷ x ∷ rest) ≡ length values + length (w ∷ x ∷ rest) = length-append values (w ∷ x ∷ rest) in
    absurd (let c : ⊥ = omega arith in c)

-- the point that ends by a value of the last slice
ends_by : (k : ℕ) (rows : List DerivedRow) (values : List Fraction) (w : Fraction) → length values ≡ k → InSlice (IsOne (suc k) rows) values w → IsOne (suc k) rows (values ++ w ∷ [])
ends_by k rows values w e s =
    subst (λ (rest : List Fraction). IsOne (suc k) rows (values ++ w ∷ rest)) (no_more k values w s.0 e s.1.meets.columns) s.1

last_by : (k : ℕ) (rows : List DerivedRow) (values : List Fraction) (o : Option DerivedRow) → length values ≡ k → first (is_pivot k) rows ≡ o →
    MatchOption o (Unit {0}) (λ e. Anything e × (is_pivot k e ≡ true)) → InSlice (IsOne (suc k) rows) values (value_of k values (elimination_step_by k o rows).aside) →
    IsPick (InSlice (IsOne (suc k) rows) values) (value_of k values (elimination_step_by k o rows).aside)
last_by k rows values (Some e) l g t m =
    only_is_pick (InSlice (IsOne (suc k) rows) values) (end_of k values e) m (λ w s. forced_is k rows values w e g t.1 (ends_by k rows values w l s))
last_by k rows values None l g t m =
    let all : List DerivedRow = flat_map (halves k) rows in
    nearest_is_pick (InSlice (IsOne (suc k) rows) values) (lower_end k values (filter (is_lower k) all)) (upper_end k values (filter (is_upper k) all))
    (λ w s. bounded_lies k rows values w (ends_by k rows values w l s).meets) m

last_pick : (k : ℕ) (rows : List DerivedRow) (values : List Fraction) → IsOne k (elimination_step k rows).rows values →
    IsPick (InSlice (IsOne (suc k) rows) values) (value_of k values (elimination_step k rows).aside)
last_pick k rows values q =
    last_by k rows values (first (is_pivot k) rows) q.meets.columns refl (pivot_first k rows) ([], longer_one k rows values q)

-- ---- lists by their ends

nil_is_no_middle : (before : List Fraction) (x : Fraction) (rest : List Fraction) → [] ≡ before ++ x ∷ rest → ⊥
nil_is_no_middle [] x rest e = cc
nil_is_no_middle (b ∷ before) x rest e = cc

-- a place in a longer list is the last, or one in the list
abbrev IsPlace : List Fraction → Fraction → List Fraction → Fraction → Type 0
IsPlace values v before w = ((values ≡ before) × (v ≡ w)) ⊎ ((others : List Fraction) × (values ≡ before ++ w ∷ others))

place_of : (values : List Fraction) (v : Fraction) (before : List Fraction) (w : Fraction) (rest : List Fraction) → values ++ v ∷ [] ≡ before ++ w ∷ rest → IsPlace values v before w
place_of [] v [] w rest e = inl (refl, let s : v ≡ w = cc in s)
place_of [] v (b ∷ before) w rest e = absurd (nil_is_no_middle before w rest (let s : [] ≡ before ++ w ∷ rest = cc in s))
place_of (x ∷ values) v [] w rest e = inr (values, let s : x ≡ w = cc in ap (λ (y : Fraction). y ∷ values) s)
place_of (x ∷ values) v (b ∷ before) w rest e = further (place_of values v before w rest (let s : values ++ v ∷ [] ≡ before ++ w ∷ rest = cc in s))
  where
    same : x ≡ b
    same = cc

    further : IsPlace values v before w → IsPlace (x ∷ values) v (b ∷ before) w
    further (inl h) = inl (ap (λ (y : Fraction). y ∷ values) same ∙ ap (λ (ys : List Fraction). b ∷ ys) h.0, h.1)
    further (inr h) = inr (h.0, ap (λ (y : Fraction). y ∷ values) same ∙ ap (λ (ys : List Fraction). b ∷ ys) h.1)

last_of : (x : Fraction) (xs : List Fraction) → (ys : List Fraction) × ((y : Fraction) × (x ∷ xs ≡ ys ++ y ∷ []))
last_of x [] = ([], (x, refl))
last_of x (z ∷ zs) = let r = last_of z zs in (x ∷ r.0, (r.1.0, ap (λ (l : List Fraction). x ∷ l) r.1.1))

-- ---- all columns

-- the points of the rows and of what a step leaves have the same slices
slice_longer : (k : ℕ) (rows : List DerivedRow) (before : List Fraction) (u : Fraction) → InSlice (IsOne k (elimination_step k rows).rows) before u → InSlice (IsOne (suc k) rows) before u
slice_longer k rows before u s =
    let v : Fraction = value_of k (before ++ u ∷ s.0) (elimination_step k rows).aside in
    (s.0 ++ v ∷ [], subst (IsOne (suc k) rows) (append_assoc before (u ∷ s.0) (v ∷ [])) (longer_one k rows (before ++ u ∷ s.0) s.1))

slice_shorter : (k : ℕ) (rows : List DerivedRow) (before : List Fraction) (u : Fraction) → length before < k → InSlice (IsOne (suc k) rows) before u →
    InSlice (IsOne k (elimination_step k rows).rows) before u
slice_shorter k rows before u l s = by_rest s.0 s.1
  where
    by_rest : (rest : List Fraction) → IsOne (suc k) rows (before ++ u ∷ rest) → InSlice (IsOne k (elimination_step k rows).rows) before u
    by_rest [] q =
        let e : length (before ++ u ∷ []) ≡ suc k = q.meets.columns in
        let f : length (before ++ u ∷ []) ≡ length before + length (u ∷ []) = length-append before (u ∷ []) in
        let o : length (u ∷ []) ≡ 1 = refl in
        absurd (let c : ⊥ = omega arith in c)
    by_rest (x ∷ xs) q =
        let r = last_of x xs in
        let e : before ++ u ∷ x ∷ xs ≡ (before ++ u ∷ r.0) ++ r.1.0 ∷ [] =
        ap (λ (ys : List Fraction). before ++ u ∷ ys) r.1.1 ∙ sym (append_assoc before (u ∷ r.0) (r.1.0 ∷ [])) in
        (r.0, shorter_one k rows (before ++ u ∷ r.0) r.1.0 (subst (IsOne (suc k) rows) e q))

extended_picked : (k : ℕ) (rows : List DerivedRow) (o : EliminationOutcome) → IfPoint o (IsPicked (IsOne k (elimination_step k rows).rows)) →
    IfPoint (extended k (elimination_step k rows).aside o) (IsPicked (IsOne (suc k) rows))
extended_picked k rows (refuted parts) h = tt
extended_picked k rows (point values) h = record {
  one = longer_one k rows values h.one;
  picks = λ before w rest e. at_place before w (place_of values (value_of k values (elimination_step k rows).aside) before w rest e);
}
  where
    at_place : (before : List Fraction) (w : Fraction) → IsPlace values (value_of k values (elimination_step k rows).aside) before w → IsPick (InSlice (IsOne (suc k) rows) before) w
    at_place before w (inl s) =
        subst (λ (x : Fraction). IsPick (InSlice (IsOne (suc k) rows) before) x) s.1
        (subst (λ (ys : List Fraction). IsPick (InSlice (IsOne (suc k) rows) ys) (value_of k values (elimination_step k rows).aside)) s.0 (last_pick k rows values h.one))
    at_place before w (inr s) =
        let c : length values ≡ k = h.one.meets.columns in
        let e : length values ≡ length (before ++ w ∷ s.0) = ap (λ (ys : List Fraction). length ys) s.1 in
        let f : length (before ++ w ∷ s.0) ≡ length before + length (w ∷ s.0) = length-append before (w ∷ s.0) in
        let g : length (w ∷ s.0) ≡ suc (length s.0) = refl in
        let l : length before < k = omega arith in
        pick_of_same (InSlice (IsOne k (elimination_step k rows).rows) before) (InSlice (IsOne (suc k) rows) before) w
        (slice_longer k rows before) (λ u q. slice_shorter k rows before u l q) (h.picks before w s.0 s.1)

-- the elimination of derived rows finds their picked point
pub solve_picked : (n : ℕ) (rows : List DerivedRow) → AllByRecursion (IsClear n) rows → AllByRecursion IsOrdered rows → IfPoint (solve n rows) (IsPicked (IsOne n rows))
solve_picked zero rows c o =
    unless_false_meets (first is_false rows) (point []) (IsPicked (IsOne 0 rows))
    (λ e. record {
      one = record { lowest = tt; meets = none_meets rows c o e };
      picks = λ before v rest h. absurd (nil_is_no_middle before v rest h);
    })
solve_picked (suc k) rows c o =
    unless_false_meets (first is_false rows) (extended k (elimination_step k rows).aside (solve k (elimination_step k rows).rows)) (IsPicked (IsOne (suc k) rows))
    (λ e. extended_picked k rows (solve k (elimination_step k rows).rows)
    (solve_picked k (elimination_step k rows).rows (step_is_clear k rows c) (step_is_ordered k rows o)))
