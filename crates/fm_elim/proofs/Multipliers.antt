-- Each derived row is the combination of the input rows that its multipliers say, so a false one refutes them.
use Rattle.std.proofs.Common.{◌≡◌, ◌≢◌, ℕ, zero, suc, ◌+◌, ◌<◌, ◌≤◌, ℤ, pos, negsuc, neg_ℤ, ◌+ℤ◌, ◌*ℤ◌, ◌≤ℤ◌, ◌<ℤ◌, Bool, true, false, ◌&&◌, not, List, [], ◌∷◌, ◌++◌, Option, None, Some, length, nat_eq, refl, sym, ap, ◌∙◌, subst, inl, inr, ⊎_elim, arith, if◌then◌else◌}
use Rattle.std.specs.Prelude.{MatchOption, int_lt}
use Rattle.std.specs.List.{AllByRecursion}
use Rattle.std.proofs.lemmas.Bool.{and_parts, cases_lt, eq-eqb, eqb-true}
use Rattle.std.proofs.lemmas.Int.{ints}
use Rattle.math_facts.specs.Terms.{coefficient, dot, scaled, opposite}
use Rattle.math_facts.proofs.Whole.{product_monotone, product_zero_right}
use Rattle.math_facts.proofs.TermLaws.{dot-opposite}
use Rattle.lin_rows.specs.declared.types.RowKind.{RowKind}
use Rattle.lin_rows.specs.declared.types.RowKind.TheVariants.{Le, Eq}
use Rattle.lin_rows.specs.Rows.{LinearRow, AscendsFrom}
use Rattle.lin_rows.specs.Sums.{is_zero, sum_kind, CanScale}
use Rattle.lin_rows.specs.Combinations.{row_at, Multiplies, IsPart, combined}
use Rattle.lin_rows.proofs.Ascending.{coefficient_first, coefficient_rest, HasNoZero}
use Rattle.lin_rows.proofs.SummedLaws.{coefficient-scaled_sum, dot-scaled_sum, AscendsFrom-summed, HasNoZero-summed}
use Rattle.fm_elim.specs.Derivations.{DerivedRow, nothing_derived, plus_times, is_equality, has_no_terms, is_false_bound, is_false, refuting}
use Rattle.fm_elim.specs.Folds.{first}
use Rattle.fm_elim.specs.Columns.{SetAside, elimination_step}
use Rattle.fm_elim.specs.Elimination.{EliminationOutcome, refuted, point, unless_false, extended, solve}
use Rattle.fm_elim.specs.Worth.{Combines}
use Rattle.fm_elim.proofs.Lists.{all_first}
use Rattle.fm_elim.proofs.Steps.{equality_is, step_keeps}

-- a row of one kind may take m times a row of another: an inequality no negative number of times, and an equality none at all
abbrev pub MayTake : RowKind → RowKind → ℤ → Type 0
MayTake Le Le m = pos 0 ≤ℤ m
MayTake Le Eq m = Unit {0}
MayTake Eq Le m = m ≡ pos 0
MayTake Eq Eq m = Unit {0}

-- the derived row is the combination that its multipliers say
pub record IsMade (given : List LinearRow) (r : DerivedRow) : Type 0 where
  pub columns : (c : ℕ) → coefficient c r.row.terms ≡ dot (λ i. coefficient c (row_at given i).terms) r.by.terms
  pub bound : r.row.bound ≡ dot (λ i. (row_at given i).bound) r.by.terms
  pub takes : (i : ℕ) → MayTake r.row.kind (row_at given i).kind (coefficient i r.by.terms)
  pub within : (i : ℕ) → length given ≤ i → coefficient i r.by.terms ≡ pos 0
  pub ascends : AscendsFrom 0 r.by.terms
  pub nonzero : HasNoZero r.by.terms

may_sum : (a b r : RowKind) (x m y : ℤ) → CanScale m b → MayTake a r x → MayTake b r y → MayTake (sum_kind a b) r (x +ℤ (m *ℤ y))
may_sum Le Le Le x m y (inl p) h i =
    let e : (m *ℤ pos 0) ≤ℤ (m *ℤ y) = product_monotone m (pos 0) y p i in
    let z : m *ℤ pos 0 ≡ pos 0 = product_zero_right m in
    omega (arith, ints)
may_sum Le Le Le x m y (inr p) h i = absurd (cc)
may_sum Le Eq Le x m y p h i =
    let e : m *ℤ y ≡ m *ℤ pos 0 = ap (λ (z : ℤ). m *ℤ z) i in
    let z : m *ℤ pos 0 ≡ pos 0 = product_zero_right m in
    omega (arith, ints)
may_sum Eq Le Le x m y (inl p) h i =
    let e : (m *ℤ pos 0) ≤ℤ (m *ℤ y) = product_monotone m (pos 0) y p i in
    let z : m *ℤ pos 0 ≡ pos 0 = product_zero_right m in
    omega (arith, ints)
may_sum Eq Le Le x m y (inr p) h i = absurd (cc)
may_sum Eq Eq Le x m y p h i =
    let e : m *ℤ y ≡ m *ℤ pos 0 = ap (λ (z : ℤ). m *ℤ z) i in
    let z : m *ℤ pos 0 ≡ pos 0 = product_zero_right m in
    omega (arith, ints)
may_sum Le Le Eq x m y p h i = tt
may_sum Le Eq Eq x m y p h i = tt
may_sum Eq Le Eq x m y p h i = tt
may_sum Eq Eq Eq x m y p h i = tt

may_none : (r : RowKind) → MayTake Le r (pos 0)
may_none Le = omega (arith, ints)
may_none Eq = tt

-- no row makes `0 <= 0`
pub nothing_is_made : (given : List LinearRow) → IsMade given nothing_derived
nothing_is_made given = record {
  columns = λ c. refl;
  bound = refl;
  takes = λ i. may_none (row_at given i).kind;
  within = λ i l. refl;
  ascends = tt;
  nonzero = tt;
}

linear : (x y m p q : ℤ) → x ≡ p → y ≡ q → x +ℤ (m *ℤ y) ≡ p +ℤ (m *ℤ q)
linear x y m p q e f = ap (λ (z : ℤ). z +ℤ (m *ℤ y)) e ∙ ap (λ (z : ℤ). p +ℤ (m *ℤ z)) f

-- sums of combinations are combinations
pub sum_is_made : (given : List LinearRow) (a : DerivedRow) (m : ℤ) (b : DerivedRow) → CanScale m b.row.kind → IsMade given a → IsMade given b → IsMade given (plus_times a m b)
sum_is_made given a m b p h i = record {
  columns = λ c.
      let f : ℕ → ℤ = λ k. coefficient c (row_at given k).terms in
      coefficient-scaled_sum c a.row.terms m b.row.terms ∙
      linear (coefficient c a.row.terms) (coefficient c b.row.terms) m (dot f a.by.terms) (dot f b.by.terms) (h.columns c) (i.columns c) ∙
      sym (dot-scaled_sum f a.by.terms m b.by.terms);
  bound =
      let f : ℕ → ℤ = λ k. (row_at given k).bound in
      linear a.row.bound b.row.bound m (dot f a.by.terms) (dot f b.by.terms) h.bound i.bound ∙ sym (dot-scaled_sum f a.by.terms m b.by.terms);
  takes = λ k.
      subst (λ (z : ℤ). MayTake (sum_kind a.row.kind b.row.kind) (row_at given k).kind z) (sym (coefficient-scaled_sum k a.by.terms m b.by.terms))
      (may_sum a.row.kind b.row.kind (row_at given k).kind (coefficient k a.by.terms) m (coefficient k b.by.terms) p (h.takes k) (i.takes k));
  within = λ k l.
      coefficient-scaled_sum k a.by.terms m b.by.terms ∙
      linear (coefficient k a.by.terms) (coefficient k b.by.terms) m (pos 0) (pos 0) (h.within k l) (i.within k l) ∙
      (let z : m *ℤ pos 0 ≡ pos 0 = product_zero_right m in omega (arith, ints));
  ascends = AscendsFrom-summed (a.by.terms ++ scaled m b.by.terms);
  nonzero = HasNoZero-summed (a.by.terms ++ scaled m b.by.terms);
}

-- ---- a false row refutes

-- what the coefficient of a column says holds of its term
all_terms : (P : ℕ × ℤ → Type 0) (low : ℕ) (ts : List (ℕ × ℤ)) → AscendsFrom low ts → HasNoZero ts →
    ((t : ℕ × ℤ) → low ≤ t.0 → coefficient t.0 ts ≡ t.1 → t.1 ≢ pos 0 → P t) → AllByRecursion P ts
all_terms P low [] up n h = tt
all_terms P low (t ∷ ts) up n h = (
  h t up.0 (coefficient_first t.0 t ts up.1 refl) n.0,
  all_terms P (t.0 + 1) ts up.1 n.1 (λ u l e m. let k : low ≤ t.0 = up.0 in h u (omega arith) (coefficient_rest u.0 t ts (λ (d : t.0 ≡ u.0). omega arith) ∙ e) m),
)

-- a combination is a sum of the parts' multiples
pub combined_as_dot : (f : LinearRow → ℤ) (given : List LinearRow) (parts : List (ℕ × ℤ)) → combined f given parts ≡ dot (λ i. f (row_at given i)) parts
combined_as_dot f given [] = refl
combined_as_dot f given (t ∷ ts) = ap (λ (z : ℤ). (t.1 *ℤ f (row_at given t.0)) +ℤ z) (combined_as_dot f given ts)

multiplies : (kind r : RowKind) (m : ℤ) → MayTake kind r m → m ≢ pos 0 → Multiplies m r
multiplies Le Le m h n = omega (arith, ints)
multiplies Le Eq m h n = n
multiplies Eq Le m h n = absurd (n h)
multiplies Eq Eq m h n = n

multiplies_opposite : (r : RowKind) (m : ℤ) → MayTake Eq r m → m ≢ pos 0 → Multiplies (neg_ℤ m) r
multiplies_opposite Le m h n = absurd (n h)
multiplies_opposite Eq m h n = λ (e : neg_ℤ m ≡ pos 0). n (omega (arith, ints))

exists : (given : List LinearRow) (i : ℕ) (m z : ℤ) → (length given ≤ i → z ≡ pos 0) → z ≡ m → m ≢ pos 0 → i < length given
exists given i m z h e n = ⊎_elim (λ (l : i < length given). l) (λ (l : length given ≤ i). absurd (n (sym e ∙ h l))) (cases_lt i (length given))

are_parts : (given : List LinearRow) (r : DerivedRow) → IsMade given r → AllByRecursion (IsPart given) r.by.terms
are_parts given r h =
    all_terms (IsPart given) 0 r.by.terms h.ascends h.nonzero
    (λ t l e n. record {
      exists = exists given t.0 t.1 (coefficient t.0 r.by.terms) (h.within t.0) e n;
      multiplies = multiplies r.row.kind (row_at given t.0).kind t.1 (subst (MayTake r.row.kind (row_at given t.0).kind) e (h.takes t.0)) n;
    })

opposite_parts : (given : List LinearRow) (ts : List (ℕ × ℤ)) → AllByRecursion (λ t. (t.0 < length given) × Multiplies (neg_ℤ t.1) (row_at given t.0).kind) ts →
    AllByRecursion (IsPart given) (opposite ts)
opposite_parts given [] h = tt
opposite_parts given (t ∷ ts) h = (record { exists = h.0.0; multiplies = h.0.1 }, opposite_parts given ts h.1)

AscendsFrom-opposite : (low : ℕ) (ts : List (ℕ × ℤ)) → AscendsFrom low ts → AscendsFrom low (opposite ts)
AscendsFrom-opposite low [] h = tt
AscendsFrom-opposite low (t ∷ ts) h = (h.0, AscendsFrom-opposite (t.0 + 1) ts h.1)

no_terms : (r : DerivedRow) → has_no_terms r.row.terms ≡ true → (c : ℕ) → coefficient c r.row.terms ≡ pos 0
no_terms r e c = by_terms r.row.terms e
  where
    by_terms : (ts : List (ℕ × ℤ)) → has_no_terms ts ≡ true → coefficient c ts ≡ pos 0
    by_terms [] e = refl
    by_terms (t ∷ ts) e = absurd (cc)

pub less_is : (a b : ℤ) → int_lt a b ≡ true → a <ℤ b
less_is a b e = grind (arith, ints)

pub not_less_is : (a b : ℤ) → int_lt a b ≡ false → b ≤ℤ a
not_less_is a b e = grind (arith, ints)

pub zero_is : (a : ℤ) → is_zero a ≡ true → a ≡ pos 0
zero_is (pos n) e = ap pos (eqb-true n 0 e)
zero_is (negsuc n) e = absurd (cc)

pub not_zero_is : (a : ℤ) → not (is_zero a) ≡ true → a ≢ pos 0
not_zero_is (pos n) e h = by_test (nat_eq n 0) (eq-eqb n 0 (omega (arith, ints))) e
  where
    by_test : (b : Bool) → b ≡ true → not b ≡ true → ⊥
    by_test true d e = absurd (cc)
    by_test false d e = absurd (cc)
not_zero_is (negsuc n) e h = absurd (omega (arith, ints))

-- as the row says
combines_as_it_is : (given : List LinearRow) (r : DerivedRow) → IsMade given r → has_no_terms r.row.terms ≡ true → r.row.bound <ℤ pos 0 → Combines given r.by.terms
combines_as_it_is given r h e l = record {
  ascends = h.ascends;
  each = are_parts given r h;
  columns_vanish = λ c. combined_as_dot (λ q. coefficient c q.terms) given r.by.terms ∙ sym (h.columns c) ∙ no_terms r e c;
  bound_negative = subst (λ (z : ℤ). z <ℤ pos 0) (h.bound ∙ sym (combined_as_dot (λ q. q.bound) given r.by.terms)) l;
}

-- with the other sign
combines_opposite : (given : List LinearRow) (r : DerivedRow) → IsMade given r → has_no_terms r.row.terms ≡ true → r.row.kind ≡ Eq → pos 0 <ℤ r.row.bound →
    Combines given (opposite r.by.terms)
combines_opposite given r h e k l = record {
  ascends = AscendsFrom-opposite 0 r.by.terms h.ascends;
  each = opposite_parts given r.by.terms
      (all_terms (λ t. (t.0 < length given) × Multiplies (neg_ℤ t.1) (row_at given t.0).kind) 0 r.by.terms h.ascends h.nonzero
      (λ t l e n. (
        exists given t.0 t.1 (coefficient t.0 r.by.terms) (h.within t.0) e n,
        multiplies_opposite (row_at given t.0).kind t.1
            (subst (λ (q : RowKind). MayTake q (row_at given t.0).kind t.1) k (subst (MayTake r.row.kind (row_at given t.0).kind) e (h.takes t.0))) n,
      )));
  columns_vanish = λ c.
      combined_as_dot (λ q. coefficient c q.terms) given (opposite r.by.terms) ∙ dot-opposite (λ i. coefficient c (row_at given i).terms) r.by.terms ∙
      ap neg_ℤ (sym (h.columns c) ∙ no_terms r e c);
  bound_negative =
      let d : combined (λ q. q.bound) given (opposite r.by.terms) ≡ neg_ℤ r.row.bound =
      combined_as_dot (λ q. q.bound) given (opposite r.by.terms) ∙ dot-opposite (λ i. (row_at given i).bound) r.by.terms ∙ ap neg_ℤ (sym h.bound) in
      omega (arith, ints);
}

negative_bound : (k : RowKind) (b : ℤ) → is_false_bound k b ≡ true → (is_equality k && int_lt (pos 0) b) ≡ false → b <ℤ pos 0
negative_bound Le b e f = less_is b (pos 0) e
negative_bound Eq b e f = let n : b ≢ pos 0 = not_zero_is b e in let l : b ≤ℤ pos 0 = not_less_is (pos 0) b f in omega (arith, ints)

-- a false row refutes by its multipliers
pub false_refutes : (given : List LinearRow) (r : DerivedRow) → IsMade given r → is_false r ≡ true → Combines given (refuting r)
false_refutes given r h e = by_test (is_equality r.row.kind && int_lt (pos 0) r.row.bound) refl
  where
    both : (has_no_terms r.row.terms ≡ true) × (is_false_bound r.row.kind r.row.bound ≡ true)
    both = and_parts (has_no_terms r.row.terms) (is_false_bound r.row.kind r.row.bound) e

    by_test : (b : Bool) → (is_equality r.row.kind && int_lt (pos 0) r.row.bound) ≡ b → Combines given (if b then opposite r.by.terms else r.by.terms)
    by_test true d =
        let q = and_parts (is_equality r.row.kind) (int_lt (pos 0) r.row.bound) d in
        combines_opposite given r h both.0 (equality_is r.row.kind q.0) (less_is (pos 0) r.row.bound q.1)
    by_test false d = combines_as_it_is given r h both.0 (negative_bound r.row.kind r.row.bound both.1 d)

-- ---- all columns

abbrev pub IfRefuted : EliminationOutcome → (List (ℕ × ℤ) → Type 0) → Type 0
IfRefuted (refuted parts) P = P parts
IfRefuted (point values) P = Unit {0}

unless_false_refutes : (given : List LinearRow) (o : Option DerivedRow) (rest : EliminationOutcome) →
    MatchOption o (Unit {0}) (λ r. IsMade given r × (is_false r ≡ true)) → IfRefuted rest (Combines given) → IfRefuted (unless_false o rest) (Combines given)
unless_false_refutes given None rest h i = i
unless_false_refutes given (Some r) rest h i = false_refutes given r h.0 h.1

extended_refutes : (given : List LinearRow) (k : ℕ) (a : SetAside) (o : EliminationOutcome) → IfRefuted o (Combines given) → IfRefuted (extended k a o) (Combines given)
extended_refutes given k a (refuted parts) h = h
extended_refutes given k a (point values) h = tt

pub solve_refutes : (given : List LinearRow) (n : ℕ) (rows : List DerivedRow) → AllByRecursion (IsMade given) rows → IfRefuted (solve n rows) (Combines given)
solve_refutes given zero rows h =
    unless_false_refutes given (first is_false rows) (point []) (all_first (IsMade given) is_false rows h) tt
solve_refutes given (suc k) rows h =
    unless_false_refutes given (first is_false rows) (extended k (elimination_step k rows).aside (solve k (elimination_step k rows).rows))
    (all_first (IsMade given) is_false rows h)
    (extended_refutes given k (elimination_step k rows).aside (solve k (elimination_step k rows).rows)
    (solve_refutes given k (elimination_step k rows).rows (step_keeps (IsMade given) (nothing_is_made given) (sum_is_made given) k rows h)))
