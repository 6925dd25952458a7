-- What the elimination is worth over tight rows, and the whole point that it finds where all values are whole.
use Rattle.std.proofs.Common.{◌≡◌, ℕ, zero, suc, ◌+◌, ◌<◌, Bool, true, false, ℤ, pos, ◌+ℤ◌, ◌*ℤ◌, ◌<ℤ◌, List, [], ◌∷◌, Option, None, Some, length, map, nat_eq, refl, sym, ap, ◌∙◌, subst, arith, if◌then◌else◌}
use Rattle.std.specs.Prelude.{unsigned_abs}
use Rattle.std.specs.List.{AllByRecursion}
use Rattle.std.proofs.lemmas.Bool.{eqb-true, eqb-false}
use Rattle.std.proofs.lemmas.Int.{ints}
use Rattle.math_facts.specs.Fits.{Fits}
use Rattle.math_facts.specs.Terms.{dot}
use Rattle.math_facts.proofs.Whole.{product_comm, product_assoc, product_one_right, product_zero_left, distrib_right, cancel_order, positive_cancel}
use Rattle.frac.specs.Fractions.{Fraction, IsFraction}
use Rattle.lin_rows.specs.declared.types.RowKind.{RowKind}
use Rattle.lin_rows.specs.declared.types.RowKind.TheVariants.{Le, Eq}
use Rattle.lin_rows.specs.Rows.{LinearRow, AscendsFrom, Stands, Holds, RowsBelow}
use Rattle.lin_rows.specs.Tightening.{tightened}
use Rattle.lin_rows.specs.Negating.{below_opposite}
use Rattle.lin_rows.specs.Points.{point_of}
use Rattle.lin_rows.proofs.Ascending.{HasNoZero}
use Rattle.fm_elim.specs.Quotients.{whole, floor}
use Rattle.fm_elim.specs.Derivations.{inputs}
use Rattle.fm_elim.specs.Values.{value_at}
use Rattle.fm_elim.specs.Elimination as outcome
use Rattle.fm_elim.specs.Worth.{Combines, HoldsAt, MeetsAll}
use Rattle.fm_elim.proofs.Lists.{all_weaker}
use Rattle.fm_elim.proofs.Multipliers.{IfRefuted, solve_refutes}
use Rattle.fm_elim.proofs.Inputs.{IsOrdered, inputs_are_made, inputs_are_clear}
use Rattle.fm_elim.proofs.Ends.{AreValues}
use Rattle.fm_elim.proofs.Points.{RowHolds, MeetsRows, IfPoint, solve_meets}
use Rattle.int_decide.specs.Decide.{first_broken}
use Rattle.int_decide.proofs.CutNumbers.{cut_numbers_fit}
use Rattle.int_decide.proofs.Tight.{IsTight, tight_rows_stay}

-- ---- the elimination over tight rows

-- a point, a value for each of n columns, all with positive denominators, meets the rows over the rationals
pub record MeetsTight (n : ℕ) (rows : List LinearRow) (values : List Fraction) : Type 0 where
  pub columns : length values ≡ n
  pub d : ℤ
  pub p : ℕ → ℤ
  pub are_values : AreValues values d p
  pub holds : AllByRecursion (HoldsAt d p) rows

-- the outcome is true of the rows themselves
abbrev pub OutcomeWorth : ℕ → List LinearRow → outcome.EliminationOutcome → Type 0
OutcomeWorth n rows (outcome.refuted parts) = Combines rows parts
OutcomeWorth n rows (outcome.point values) = MeetsTight n rows values

inputs_ordered : (k : ℕ) (rows : List LinearRow) → AllByRecursion IsTight rows → AllByRecursion IsOrdered (inputs k rows)
inputs_ordered k [] h = tt
inputs_ordered k (r ∷ rs) h =
    (subst (λ (q : LinearRow). AscendsFrom 0 q.terms × HasNoZero q.terms) (sym h.0.stays) (h.0.ascends, h.0.nonzero), inputs_ordered (suc k) rs h.1)

inputs_hold : (d : ℤ) (p : ℕ → ℤ) (k : ℕ) (rows : List LinearRow) → AllByRecursion (RowHolds d p) (inputs k rows) → AllByRecursion (HoldsAt d p) (map tightened rows)
inputs_hold d p k [] h = tt
inputs_hold d p k (r ∷ rs) h = (h.0, inputs_hold d p (suc k) rs h.1)

worth_of : (n : ℕ) (rows : List LinearRow) (o : outcome.EliminationOutcome) → IfRefuted o (Combines (map tightened rows)) → IfPoint o (MeetsRows n (inputs 0 rows)) →
    OutcomeWorth n (map tightened rows) o
worth_of n rows (outcome.refuted parts) h m = h
worth_of n rows (outcome.point values) h m = record {
  columns = m.columns;
  d = m.d;
  p = m.p;
  are_values = m.are_values;
  holds = inputs_hold m.d m.p 0 rows m.holds;
}

pub elimination_worth : (n : ℕ) (rows : List LinearRow) → AllByRecursion IsTight rows → RowsBelow n rows → OutcomeWorth n rows (outcome.elimination n rows)
elimination_worth n rows t b =
    subst (λ (rs : List LinearRow). OutcomeWorth n rs (outcome.elimination n rows)) (tight_rows_stay rows t)
    (worth_of n rows (outcome.elimination n rows) (solve_refutes (map tightened rows) n (inputs 0 rows) (inputs_are_made rows))
    (solve_meets n (inputs 0 rows) (inputs_are_clear n 0 rows b) (inputs_ordered 0 rows t)))

-- ---- the first value that is not whole

-- where there is none, each denominator is 1
pub all_whole : (c : ℕ) (fs : List Fraction) → first_broken c fs ≡ None → AllByRecursion (λ f. unsigned_abs f.den ≡ 1) fs
all_whole c [] e = tt
all_whole c (f ∷ fs) e = by_test (nat_eq (unsigned_abs f.den) 1) refl e (λ h. all_whole (suc c) fs h)
  where
    by_test : (b : Bool) → nat_eq (unsigned_abs f.den) 1 ≡ b → (if b then first_broken (suc c) fs else Some (c, f)) ≡ None →
        (first_broken (suc c) fs ≡ None → AllByRecursion (λ f. unsigned_abs f.den ≡ 1) fs) →
        (unsigned_abs f.den ≡ 1) × AllByRecursion (λ f. unsigned_abs f.den ≡ 1) fs
    by_test true t h r = (eqb-true (unsigned_abs f.den) 1 t, r h)
    by_test false t h r = absurd (cc)

column_of : Option (ℕ × Fraction) → ℕ
column_of None = 0
column_of (Some y) = y.0

first_column : (c : ℕ) (f : Fraction) (x : ℕ × Fraction) → Some (c, f) ≡ Some x → c ≡ x.0
unfolding column_of
first_column c f x h = ap column_of h

value_of : Fraction → Option (ℕ × Fraction) → Fraction
value_of f None = f
value_of f (Some y) = y.1

first_value : (c : ℕ) (f : Fraction) (x : ℕ × Fraction) → Some (c, f) ≡ Some x → f ≡ x.1
unfolding value_of
first_value c f x h = ap (value_of f) h

-- its column is one of the values
pub broken_below : (c : ℕ) (fs : List Fraction) (x : ℕ × Fraction) → first_broken c fs ≡ Some x → x.0 < c + length fs
broken_below c [] x e = absurd (cc)
broken_below c (f ∷ fs) x e = by_test (nat_eq (unsigned_abs f.den) 1) e (λ h. broken_below (suc c) fs x h)
  where
    by_test : (b : Bool) → (if b then first_broken (suc c) fs else Some (c, f)) ≡ Some x → (first_broken (suc c) fs ≡ Some x → x.0 < suc c + length fs) →
        x.0 < c + suc (length fs)
    by_test true h r = let l : x.0 < suc c + length fs = r h in omega arith
    by_test false h r = let l : c ≡ x.0 = first_column c f x h in omega arith

-- ---- all values are whole

pub value_has : (P : Fraction → Type 0) (values : List Fraction) (c : ℕ) → P (whole (pos 0)) → AllByRecursion P values → P (value_at values c)
value_has P [] zero z h = z
value_has P [] (suc c) z h = z
value_has P (f ∷ fs) zero z h = h.0
value_has P (f ∷ fs) (suc c) z h = value_has P fs c z h.1

pub one_from_size : (d : ℤ) → unsigned_abs d ≡ 1 → pos 0 <ℤ d → d ≡ pos 1
one_from_size d e p = omega (arith, ints)

-- p is q over d, so are the sums
pub dot_over : (p q : ℕ → ℤ) (d : ℤ) (ts : List (ℕ × ℤ)) → ((c : ℕ) → p c ≡ q c *ℤ d) → dot p ts ≡ dot q ts *ℤ d
dot_over p q d [] e = sym (product_zero_left d)
dot_over p q d (t ∷ ts) e =
    let a : t.1 *ℤ p t.0 ≡ t.1 *ℤ (q t.0 *ℤ d) = ap (λ (z : ℤ). t.1 *ℤ z) (e t.0) in
    let b : (t.1 *ℤ q t.0) *ℤ d ≡ t.1 *ℤ (q t.0 *ℤ d) = product_assoc t.1 (q t.0) d in
    let g : ((t.1 *ℤ q t.0) +ℤ dot q ts) *ℤ d ≡ ((t.1 *ℤ q t.0) *ℤ d) +ℤ (dot q ts *ℤ d) = distrib_right (t.1 *ℤ q t.0) (dot q ts) d in
    let h : dot p ts ≡ dot q ts *ℤ d = dot_over p q d ts e in
    omega (arith, ints)

pub stands_over : (kind : RowKind) (x b d : ℤ) → pos 0 <ℤ d → Stands kind (x *ℤ d) (b *ℤ d) → Stands kind x b
stands_over Le x b d p h =
    let e : x *ℤ d ≡ d *ℤ x = product_comm x d in
    let f : b *ℤ d ≡ d *ℤ b = product_comm b d in
    cancel_order d x b p (omega (arith, ints))
stands_over Eq x b d p h = positive_cancel d x b p (product_comm d x ∙ h ∙ product_comm b d)

numerator_at : (values : List Fraction) (c : ℕ) → point_of (map (λ f. f.num) values) c ≡ (value_at values c).num
numerator_at [] c = refl
numerator_at (f ∷ fs) zero = refl
numerator_at (f ∷ fs) (suc c) = numerator_at fs c

-- The values, as whole numbers, meet the rows.
pub whole_holds : (rows : List LinearRow) (values : List Fraction) (d : ℤ) (p : ℕ → ℤ) → AreValues values d p → first_broken 0 values ≡ None →
    AllByRecursion (HoldsAt d p) rows → AllByRecursion (Holds (point_of (map (λ f. f.num) values))) rows
whole_holds rows values d p a e h =
    let q : ℕ → ℤ = point_of (map (λ f. f.num) values) in
    let each : (c : ℕ) → p c ≡ q c *ℤ d =
    (λ c.
    let f : Fraction = value_at values c in
    let s : unsigned_abs f.den ≡ 1 = value_has (λ g. unsigned_abs g.den ≡ 1) values c refl (all_whole 0 values e) in
    let i = a.each c in
    let o : f.den ≡ pos 1 = one_from_size f.den s i.positive in
    let r : f.num *ℤ d ≡ p c *ℤ f.den = i.ratio in
    let v : q c ≡ f.num = numerator_at values c in
    sym (product_one_right (p c)) ∙ ap (λ (z : ℤ). p c *ℤ z) (sym o) ∙ sym r ∙ ap (λ (z : ℤ). z *ℤ d) (sym v)) in
    all_weaker (HoldsAt d p) (Holds q) rows
    (λ r i. stands_over r.kind (dot q r.terms) r.bound d a.positive
    (subst (λ (z : ℤ). Stands r.kind z (r.bound *ℤ d)) (dot_over p q d r.terms each) i)) h

pub whole_meets : (n : ℕ) (rows : List LinearRow) (values : List Fraction) → MeetsTight n rows values → first_broken 0 values ≡ None →
    AllByRecursion (Holds (point_of (map (λ f. f.num) values))) rows
whole_meets n rows values m e = whole_holds rows values m.d m.p m.are_values e m.holds

-- the same from what the elimination promises of fractions
pub whole_meets_all : (n : ℕ) (rows : List LinearRow) (values : List Fraction) → MeetsAll n rows values → AllByRecursion IsFraction values →
    first_broken 0 values ≡ None → AllByRecursion (Holds (point_of (map (λ f. f.num) values))) rows
whole_meets_all n rows values m v e =
    whole_holds rows values m.d m.p (record {
      positive = m.positive;
      each = λ c. record {
        positive = value_has (λ f. pos 0 <ℤ f.den) values c (omega (arith, ints)) (all_weaker IsFraction (λ f. pos 0 <ℤ f.den) values (λ f i. i.lowest.positive) v);
        ratio = m.values_are c;
      };
    }) e m.holds

-- ---- the numbers of the cut

-- the first value that is not whole is one of the values
pub broken_has : (P : Fraction → Type 0) (c : ℕ) (fs : List Fraction) (x : ℕ × Fraction) → first_broken c fs ≡ Some x → AllByRecursion P fs →
    P x.1 × (unsigned_abs x.1.den ≡ 1 → ⊥)
broken_has P c [] x e h = absurd (cc)
broken_has P c (f ∷ fs) x e h = by_test (nat_eq (unsigned_abs f.den) 1) refl e h (λ d. broken_has P (suc c) fs x d h.1)
  where
    by_test : (b : Bool) → nat_eq (unsigned_abs f.den) 1 ≡ b → (if b then first_broken (suc c) fs else Some (c, f)) ≡ Some x → P f × AllByRecursion P fs →
        (first_broken (suc c) fs ≡ Some x → P x.1 × (unsigned_abs x.1.den ≡ 1 → ⊥)) → P x.1 × (unsigned_abs x.1.den ≡ 1 → ⊥)
    by_test true t d k r = r d
    by_test false t d k r =
        let s : f ≡ x.1 = first_value c f x d in
        (subst P s k.0, subst (λ (g : Fraction). unsigned_abs g.den ≡ 1 → ⊥) s (eqb-false (unsigned_abs f.den) 1 t))

-- where the values are fractions, its floor and one less than the opposite fit
pub broken_cut_fits : (c : ℕ) (fs : List Fraction) (x : ℕ × Fraction) → first_broken c fs ≡ Some x → AllByRecursion IsFraction fs →
    Fits (floor x.1) × Fits (below_opposite (floor x.1))
broken_cut_fits c fs x e v = let h = broken_has IsFraction c fs x e v in cut_numbers_fit x.1 h.0 h.1
