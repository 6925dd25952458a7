-- What one step of a merge does: the least column leaves both lists, and its coefficients are added.
use Rattle.std.proofs.Common.{◌≡◌, ◌≢◌, ◌↔◌, ℕ, ◌+◌, ◌<◌, ◌≤◌, min, ℤ, pos, negsuc, ◌+ℤ◌, ◌*ℤ◌, List, [], ◌∷◌, ◌++◌, true, false, Some, None, length, get_or, nat_eq, if◌then◌else◌, ap, refl, sym, ◌∙◌, subst, arith, inl, inr, ◌⊎◌, append_assoc, lit<}
use Rattle.std.specs.List.{AllByRecursion}
use Rattle.std.proofs.lemmas.Int.{ints}
use Rattle.std.proofs.lemmas.Bool.{eq-eqb, ne_eqb, eqb-true, cases_eq, cases_lt, cases_Bool}
use Rattle.std.proofs.lemmas.List.{append-nil}
use Rattle.math_facts.specs.Fits.{Fits}
use Rattle.math_facts.specs.Terms.{coefficient}
use Rattle.math_facts.proofs.Whole.{product_zero_right}
use Rattle.math_facts.proofs.TermLaws.{coefficient-append}
use Rattle.lin_rows.specs.Rows.{AscendsFrom, IsCoefficient}
use Rattle.lin_rows.specs.Sums.{is_zero, led_by}
use Rattle.lin_rows.specs.Ties.Merging.{least_column, after_column, ColumnFits, AreMerged}
use Rattle.lin_rows.proofs.Ascending.{coefficient_below, coefficient_first, coefficient_rest, AscendsFrom_less, AscendsFrom-suffix, AscendsFrom-join}

-- ---- the front of one list

-- a list that begins with a column has the first coefficient there
pub coefficient_found : (c : ℕ) (ts : List (ℕ × ℤ)) → AscendsFrom c ts → 1 ≤ length ts → (get_or ts 0 (0, pos 0)).0 ≡ c →
    (get_or ts 0 (0, pos 0)).1 ≡ coefficient c ts
coefficient_found c [] up l e = absurd (omega arith)
coefficient_found c (t ∷ ts) up l e = sym (coefficient_first c t ts up.1 e)

-- and one that does not has none
pub coefficient_missed : (c : ℕ) (ts : List (ℕ × ℤ)) → AscendsFrom c ts → ((get_or ts 0 (0, pos 0)).0 ≡ c → ⊥) → pos 0 ≡ coefficient c ts
coefficient_missed c [] up n = refl
coefficient_missed c (t ∷ ts) up n =
    let h : c ≤ t.0 = up.0 in
    let k : c < t.0 = omega (arith, n) in
    sym (coefficient_below t.0 c (t ∷ ts) (omega arith, up.1) k)

-- without a column, a list begins later
pub AscendsFrom-after_column : (c : ℕ) (ts : List (ℕ × ℤ)) → AscendsFrom c ts → AscendsFrom (c + 1) (after_column c ts)
AscendsFrom-after_column c [] up = tt
AscendsFrom-after_column c (t ∷ ts) up = cases c t ts up (cases_eq t.0 c)
  where
    cases : (c : ℕ) (t : ℕ × ℤ) (ts : List (ℕ × ℤ)) → AscendsFrom c (t ∷ ts) → ((t.0 ≡ c) ⊎ (t.0 ≡ c → ⊥)) → AscendsFrom (c + 1) (after_column c (t ∷ ts))
    cases c t ts up (inl e) = rw (eq-eqb t.0 c e) (AscendsFrom_less (c + 1) (t.0 + 1) ts (omega arith) up.1)
    cases c t ts up (inr e) = let h : c ≤ t.0 = up.0 in rw (ne_eqb t.0 c e) (omega (arith, e), up.1)

-- it has no coefficient there
pub coefficient_taken : (c : ℕ) (ts : List (ℕ × ℤ)) → AscendsFrom c ts → coefficient c (after_column c ts) ≡ pos 0
coefficient_taken c ts up = coefficient_below (c + 1) c (after_column c ts) (AscendsFrom-after_column c ts up) (omega arith)

-- and its others
pub coefficient_kept : (c d : ℕ) (ts : List (ℕ × ℤ)) → (c ≡ d → ⊥) → coefficient d (after_column c ts) ≡ coefficient d ts
coefficient_kept c d [] n = refl
coefficient_kept c d (t ∷ ts) n = cases c d t ts n (cases_eq t.0 c)
  where
    cases : (c d : ℕ) (t : ℕ × ℤ) (ts : List (ℕ × ℤ)) → (c ≡ d → ⊥) → ((t.0 ≡ c) ⊎ (t.0 ≡ c → ⊥)) → coefficient d (after_column c (t ∷ ts)) ≡ coefficient d (t ∷ ts)
    cases c d t ts n (inl e) = rw (eq-eqb t.0 c e) (sym (coefficient_rest d t ts (λ (k : t.0 ≡ d). n (sym e ∙ k))))
    cases c d t ts n (inr e) = rw (ne_eqb t.0 c e) refl

-- ---- one more term in front, or at the end

pub is_zero-true : (z : ℤ) → is_zero z ≡ true → z ≡ pos 0
is_zero-true (pos n) e = ap pos (eqb-true n 0 e)
is_zero-true (negsuc n) e = absurd (cc)

pub is_zero-false : (z : ℤ) → is_zero z ≡ false → z ≢ pos 0
is_zero-false (pos n) e h = let k : is_zero (pos n) ≡ is_zero (pos 0) = ap is_zero h in absurd (cc)
is_zero-false (negsuc n) e h = absurd (cc)

pub led_by_zero : (c : ℕ) (z : ℤ) (ts : List (ℕ × ℤ)) → is_zero z ≡ true → led_by c z ts ≡ ts
led_by_zero c z ts e = rw e refl

pub led_by_other : (c : ℕ) (z : ℤ) (ts : List (ℕ × ℤ)) → is_zero z ≡ false → led_by c z ts ≡ (c, z) ∷ ts
led_by_other c z ts e = rw e refl

-- a term in front counts at its column
pub coefficient-led_by : (d c : ℕ) (z : ℤ) (ts : List (ℕ × ℤ)) → coefficient d (led_by c z ts) ≡ (if nat_eq c d then z else pos 0) +ℤ coefficient d ts
coefficient-led_by d c z ts = cases d c z ts (cases_Bool (is_zero z)) (cases_Bool (nat_eq c d))
  where
    cases : (d c : ℕ) (z : ℤ) (ts : List (ℕ × ℤ)) → ((is_zero z ≡ true) ⊎ (is_zero z ≡ false)) → ((nat_eq c d ≡ true) ⊎ (nat_eq c d ≡ false)) →
        coefficient d (led_by c z ts) ≡ (if nat_eq c d then z else pos 0) +ℤ coefficient d ts
    cases d c z ts (inl e) (inl k) = let h : z ≡ pos 0 = is_zero-true z e in rw (led_by_zero c z ts e, k) (omega (arith, ints))
    cases d c z ts (inl e) (inr k) = rw (led_by_zero c z ts e, k) (omega (arith, ints))
    cases d c z ts (inr e) k = rw (led_by_other c z ts e) refl

pub AscendsFrom-led_by : (c : ℕ) (z : ℤ) (ts : List (ℕ × ℤ)) → AscendsFrom (c + 1) ts → AscendsFrom c (led_by c z ts)
AscendsFrom-led_by c z ts up = cases c z ts up (cases_Bool (is_zero z))
  where
    cases : (c : ℕ) (z : ℤ) (ts : List (ℕ × ℤ)) → AscendsFrom (c + 1) ts → ((is_zero z ≡ true) ⊎ (is_zero z ≡ false)) → AscendsFrom c (led_by c z ts)
    cases c z ts up (inl e) = rw (led_by_zero c z ts e) (AscendsFrom_less c (c + 1) ts (omega arith) up)
    cases c z ts up (inr e) = rw (led_by_other c z ts e) (omega arith, up)

pub append-led_by : (c : ℕ) (z : ℤ) (a b : List (ℕ × ℤ)) → (a ++ led_by c z []) ++ b ≡ a ++ led_by c z b
append-led_by c z a b = cases c z a b (cases_Bool (is_zero z))
  where
    cases : (c : ℕ) (z : ℤ) (a b : List (ℕ × ℤ)) → ((is_zero z ≡ true) ⊎ (is_zero z ≡ false)) → (a ++ led_by c z []) ++ b ≡ a ++ led_by c z b
    cases c z a b (inl e) = rw (led_by_zero c z [] e, led_by_zero c z b e) (ap (λ (l : List (ℕ × ℤ)). l ++ b) (append-nil a))
    cases c z a b (inr e) = rw (led_by_other c z [] e, led_by_other c z b e) (append_assoc a ((c, z) ∷ []) b)

pub IsCoefficient-led_by : (c : ℕ) (z : ℤ) (ts : List (ℕ × ℤ)) → Fits z → AllByRecursion IsCoefficient ts → AllByRecursion IsCoefficient (ts ++ led_by c z [])
IsCoefficient-led_by c z [] f h = cases c z f (cases_Bool (is_zero z))
  where
    cases : (c : ℕ) (z : ℤ) → Fits z → ((is_zero z ≡ true) ⊎ (is_zero z ≡ false)) → AllByRecursion IsCoefficient (led_by c z [])
    cases c z f (inl e) = rw (led_by_zero c z [] e) tt
    cases c z f (inr e) = rw (led_by_other c z [] e) (record { is_not_zero = is_zero-false z e; fits = f }, tt)
IsCoefficient-led_by c z (t ∷ ts) f h = (h.0, IsCoefficient-led_by c z ts f h.1)

-- ---- the least column of two lists

pub ascends_from_least : (c : ℕ) (left right : List (ℕ × ℤ)) → AscendsFrom 0 left → AscendsFrom 0 right → least_column left right ≡ Some c →
    AscendsFrom c left × AscendsFrom c right
ascends_from_least c [] [] p q e = absurd (cc)
ascends_from_least c [] (u ∷ us) p q e = let k : u.0 ≡ c = cc in (tt, (omega arith, q.1))
ascends_from_least c (t ∷ ts) [] p q e = let k : t.0 ≡ c = cc in ((omega arith, p.1), tt)
ascends_from_least c (t ∷ ts) (u ∷ us) p q e = let k : min t.0 u.0 ≡ c = cc in ((omega arith, p.1), (omega arith, q.1))

-- what begins at the least column may stand behind what both lists stand behind
pub least_joins : (low c : ℕ) (out left right rest : List (ℕ × ℤ)) → AscendsFrom low (out ++ left) → AscendsFrom low (out ++ right) →
    least_column left right ≡ Some c → AscendsFrom c rest → AscendsFrom low (out ++ rest)
least_joins low c out [] [] rest p q e h = absurd (cc)
least_joins low c out [] (u ∷ us) rest p q e h =
    let k : u.0 ≡ c = cc in AscendsFrom-join low out u us rest q (AscendsFrom_less u.0 c rest (omega arith) h)
least_joins low c out (t ∷ ts) [] rest p q e h =
    let k : t.0 ≡ c = cc in AscendsFrom-join low out t ts rest p (AscendsFrom_less t.0 c rest (omega arith) h)
least_joins low c out (t ∷ ts) (u ∷ us) rest p q e h = cases low c out t u ts us rest p q (let k : min t.0 u.0 ≡ c = cc in k) h (cases_lt t.0 u.0)
  where
    cases : (low c : ℕ) (out : List (ℕ × ℤ)) (t u : ℕ × ℤ) (ts us rest : List (ℕ × ℤ)) → AscendsFrom low (out ++ t ∷ ts) → AscendsFrom low (out ++ u ∷ us) →
        min t.0 u.0 ≡ c → AscendsFrom c rest → ((t.0 < u.0) ⊎ (u.0 ≤ t.0)) → AscendsFrom low (out ++ rest)
    cases low c out t u ts us rest p q k h (inl l) = AscendsFrom-join low out t ts rest p (AscendsFrom_less t.0 c rest (omega arith) h)
    cases low c out t u ts us rest p q k h (inr l) = AscendsFrom-join low out u us rest q (AscendsFrom_less u.0 c rest (omega arith) h)

-- fewer terms are left
pub fewer_left : (c : ℕ) (left right : List (ℕ × ℤ)) → least_column left right ≡ Some c →
    length (after_column c left) + length (after_column c right) < length left + length right
fewer_left c [] [] e = absurd (cc)
fewer_left c [] (u ∷ us) e = let k : u.0 ≡ c = cc in rw (eq-eqb u.0 c k) (omega arith)
fewer_left c (t ∷ ts) [] e = let k : t.0 ≡ c = cc in rw (eq-eqb t.0 c k) (omega arith)
fewer_left c (t ∷ ts) (u ∷ us) e = cases c t u ts us (let k : min t.0 u.0 ≡ c = cc in k) (cases_eq t.0 c) (cases_eq u.0 c)
  where
    cases : (c : ℕ) (t u : ℕ × ℤ) (ts us : List (ℕ × ℤ)) → min t.0 u.0 ≡ c → ((t.0 ≡ c) ⊎ (t.0 ≡ c → ⊥)) → ((u.0 ≡ c) ⊎ (u.0 ≡ c → ⊥)) →
        length (after_column c (t ∷ ts)) + length (after_column c (u ∷ us)) < length (t ∷ ts) + length (u ∷ us)
    cases c t u ts us k (inl e) (inl f) = rw (eq-eqb t.0 c e, eq-eqb u.0 c f) (omega arith)
    cases c t u ts us k (inl e) (inr f) = rw (eq-eqb t.0 c e, ne_eqb u.0 c f) (omega arith)
    cases c t u ts us k (inr e) (inl f) = rw (ne_eqb t.0 c e, eq-eqb u.0 c f) (omega arith)
    cases c t u ts us k (inr e) (inr f) = absurd (omega (arith, e, f))

-- ---- the state of a merge

-- what is left of `a` and `b`, where `sum` is what came out so far
pub record IsMerging (a : List (ℕ × ℤ)) (m : ℤ) (b sum left right : List (ℕ × ℤ)) : Type 0 where
  pub left_ascends : AscendsFrom 0 (sum ++ left)
  pub right_ascends : AscendsFrom 0 (sum ++ right)
  pub coefficients : AllByRecursion IsCoefficient sum
  pub sums : (c : ℕ) → coefficient c sum +ℤ (coefficient c left +ℤ (m *ℤ coefficient c right)) ≡ coefficient c a +ℤ (m *ℤ coefficient c b)
  pub fits : (c : ℕ) → ColumnFits m left right c ↔ ColumnFits m a b c

pub merging_starts : (a : List (ℕ × ℤ)) (m : ℤ) (b : List (ℕ × ℤ)) → AscendsFrom 0 a → AscendsFrom 0 b → IsMerging a m b [] a b
merging_starts a m b p q = record {
  left_ascends = p;
  right_ascends = q;
  coefficients = tt;
  sums = λ c. omega (arith, ints);
  fits = λ c. (λ h. h, λ h. h);
}

-- both lists begin at the least column, or later
pub merging_ascends : (a : List (ℕ × ℤ)) (m : ℤ) (b sum left right : List (ℕ × ℤ)) (c : ℕ) → IsMerging a m b sum left right →
    least_column left right ≡ Some c → AscendsFrom c left × AscendsFrom c right
merging_ascends a m b sum left right c s e =
    ascends_from_least c left right (AscendsFrom-suffix 0 sum left s.left_ascends) (AscendsFrom-suffix 0 sum right s.right_ascends) e

-- the product and the sum at the least column, where all fit
pub least_fits : (a : List (ℕ × ℤ)) (m : ℤ) (b sum left right : List (ℕ × ℤ)) (c : ℕ) → IsMerging a m b sum left right →
    ((d : ℕ) → ColumnFits m a b d) → Fits (m *ℤ coefficient c right) × Fits (coefficient c left +ℤ (m *ℤ coefficient c right))
least_fits a m b sum left right c s h = (s.fits c).1 (h c)

-- one step of a merge
pub merging_goes : (a : List (ℕ × ℤ)) (m : ℤ) (b sum left right : List (ℕ × ℤ)) (c : ℕ) (z : ℤ) → IsMerging a m b sum left right →
    least_column left right ≡ Some c → z ≡ coefficient c left +ℤ (m *ℤ coefficient c right) →
    Fits (m *ℤ coefficient c right) → Fits z → IsMerging a m b (sum ++ led_by c z []) (after_column c left) (after_column c right)
merging_goes a m b sum left right c z s e v f g = record {
  left_ascends = rw (append-led_by c z sum (after_column c left))
      (least_joins 0 c sum left right (led_by c z (after_column c left)) s.left_ascends s.right_ascends e (AscendsFrom-led_by c z (after_column c left) (AscendsFrom-after_column c left (ascends.0))));
  right_ascends = rw (append-led_by c z sum (after_column c right))
      (least_joins 0 c sum left right (led_by c z (after_column c right)) s.left_ascends s.right_ascends e (AscendsFrom-led_by c z (after_column c right) (AscendsFrom-after_column c right (ascends.1))));
  coefficients = IsCoefficient-led_by c z sum g s.coefficients;
  sums = λ d. sums_at d (cases_eq c d);
  fits = λ d. fits_at d (cases_eq c d);
}
  where
    ascends : AscendsFrom c left × AscendsFrom c right
    ascends = merging_ascends a m b sum left right c s e

    sums_here : coefficient c (sum ++ led_by c z []) +ℤ (coefficient c (after_column c left) +ℤ (m *ℤ coefficient c (after_column c right))) ≡ coefficient c a +ℤ (m *ℤ coefficient c b)
    sums_here =
        let h : coefficient c (sum ++ led_by c z []) ≡ coefficient c sum +ℤ coefficient c (led_by c z []) = coefficient-append c sum (led_by c z []) in
        let k : coefficient c (led_by c z []) ≡ z +ℤ pos 0 = rw (eq-eqb c c refl) at (coefficient-led_by c c z []) in
        let t : coefficient c sum +ℤ (coefficient c left +ℤ (m *ℤ coefficient c right)) ≡ coefficient c a +ℤ (m *ℤ coefficient c b) = s.sums c in
        rw (coefficient_taken c left ascends.0, coefficient_taken c right ascends.1, product_zero_right m) (omega (arith, ints))

    sums_later : (d : ℕ) → (c ≡ d → ⊥) →
        coefficient d (sum ++ led_by c z []) +ℤ (coefficient d (after_column c left) +ℤ (m *ℤ coefficient d (after_column c right))) ≡ coefficient d a +ℤ (m *ℤ coefficient d b)
    sums_later d n =
        let h : coefficient d (sum ++ led_by c z []) ≡ coefficient d sum +ℤ coefficient d (led_by c z []) = coefficient-append d sum (led_by c z []) in
        let k : coefficient d (led_by c z []) ≡ pos 0 +ℤ pos 0 = rw (ne_eqb c d n) at (coefficient-led_by d c z []) in
        let t : coefficient d sum +ℤ (coefficient d left +ℤ (m *ℤ coefficient d right)) ≡ coefficient d a +ℤ (m *ℤ coefficient d b) = s.sums d in
        rw (coefficient_kept c d left n, coefficient_kept c d right n) (omega (arith, ints))

    sums_at : (d : ℕ) → ((c ≡ d) ⊎ (c ≡ d → ⊥)) →
        coefficient d (sum ++ led_by c z []) +ℤ (coefficient d (after_column c left) +ℤ (m *ℤ coefficient d (after_column c right))) ≡ coefficient d a +ℤ (m *ℤ coefficient d b)
    sums_at d (inl k) = subst (λ (n : ℕ). coefficient n (sum ++ led_by c z []) +ℤ (coefficient n (after_column c left) +ℤ (m *ℤ coefficient n (after_column c right))) ≡ coefficient n a +ℤ (m *ℤ coefficient n b)) k sums_here
    sums_at d (inr n) = sums_later d n

    fits_here : ColumnFits m (after_column c left) (after_column c right) c ↔ ColumnFits m a b c
    fits_here = (
      λ h. (s.fits c).0 (f, subst Fits v g),
      λ h. rw (coefficient_taken c left ascends.0, coefficient_taken c right ascends.1, product_zero_right m) (lit< tt, lit< tt),
    )

    fits_at : (d : ℕ) → ((c ≡ d) ⊎ (c ≡ d → ⊥)) → ColumnFits m (after_column c left) (after_column c right) d ↔ ColumnFits m a b d
    fits_at d (inl k) = subst (λ (n : ℕ). ColumnFits m (after_column c left) (after_column c right) n ↔ ColumnFits m a b n) k fits_here
    fits_at d (inr n) = rw (coefficient_kept c d left n, coefficient_kept c d right n) (s.fits d)

-- where nothing is left, the sum is whole
pub merging_ends : (a : List (ℕ × ℤ)) (m : ℤ) (b sum left right : List (ℕ × ℤ)) → IsMerging a m b sum left right →
    least_column left right ≡ None → AreMerged a m b sum
merging_ends a m b sum [] [] s e = record {
  fits = λ c. (s.fits c).0 (at_zero m);
  terms = record { ascends = rw (append-nil sum) at s.left_ascends; coefficients = s.coefficients };
  coefficients = λ c.
      let t : coefficient c sum +ℤ (pos 0 +ℤ (m *ℤ pos 0)) ≡ coefficient c a +ℤ (m *ℤ coefficient c b) = s.sums c in
      let k : m *ℤ pos 0 ≡ pos 0 = product_zero_right m in
      omega (arith, ints);
}
  where
    at_zero : (m : ℤ) → Fits (m *ℤ pos 0) × Fits (pos 0 +ℤ (m *ℤ pos 0))
    at_zero m = rw (product_zero_right m) (lit< tt, lit< tt)
merging_ends a m b sum [] (u ∷ us) s e = absurd (cc)
merging_ends a m b sum (t ∷ ts) [] s e = absurd (cc)
merging_ends a m b sum (t ∷ ts) (u ∷ us) s e = absurd (cc)
