-- Laws of terms: their coefficients, and their value at a point.
use Rattle.std.proofs.Common.{◌≡◌, ℕ, ◌+◌, ◌<◌, ◌≤◌, max, ℤ, pos, ◌+ℤ◌, ◌*ℤ◌, neg_ℤ, Bool, true, false, List, [], ◌∷◌, ◌++◌, nat_eq, if◌then◌else◌, ap, refl, sym, ◌∙◌, subst, arith, inl, inr, ◌⊎◌}
use Rattle.std.proofs.lemmas.Int.{ints}
use Rattle.std.proofs.lemmas.Bool.{eq-eqb, ne_eqb, cases_eq}
use Rattle.math_facts.specs.Terms.{coefficient, dot, scaled, opposite, IsBelow, with_value}
use Rattle.math_facts.proofs.Whole.{distrib_left, distrib_right, product_assoc, product_neg_left, product_zero_right}
use Rattle.math_facts.proofs.SumBelow.{sum_below, sum_below_same, sum_below_zero, sum_below-sum, sum_below_single}

-- ---- lists joined

-- the coefficients of joined terms add up
pub coefficient-append : (c : ℕ) (a b : List (ℕ × ℤ)) → coefficient c (a ++ b) ≡ coefficient c a +ℤ coefficient c b
coefficient-append c [] b = omega (arith, ints)
coefficient-append c (t ∷ a) b =
    let e : coefficient c (a ++ b) ≡ coefficient c a +ℤ coefficient c b = coefficient-append c a b in
    omega (arith, ints)

-- the values of joined terms add up
pub dot-append : (point : ℕ → ℤ) (a b : List (ℕ × ℤ)) → dot point (a ++ b) ≡ dot point a +ℤ dot point b
dot-append point [] b = omega (arith, ints)
dot-append point (t ∷ a) b =
    let e : dot point (a ++ b) ≡ dot point a +ℤ dot point b = dot-append point a b in
    omega (arith, ints)

-- ---- factors and signs

times_if : (m z : ℤ) (b : Bool) → m *ℤ (if b then z else pos 0) ≡ (if b then m *ℤ z else pos 0)
times_if m z true = refl
times_if m z false = product_zero_right m

neg_if : (z : ℤ) (b : Bool) → neg_ℤ (if b then z else pos 0) ≡ (if b then neg_ℤ z else pos 0)
neg_if z true = refl
neg_if z false = refl

-- m times the terms have m times the coefficients
pub coefficient-scaled : (c : ℕ) (m : ℤ) (ts : List (ℕ × ℤ)) → coefficient c (scaled m ts) ≡ m *ℤ coefficient c ts
coefficient-scaled c m [] = sym (product_zero_right m)
coefficient-scaled c m (t ∷ ts) =
    let e : coefficient c (scaled m ts) ≡ m *ℤ coefficient c ts = coefficient-scaled c m ts in
    let h : m *ℤ (if nat_eq t.0 c then t.1 else pos 0) ≡ (if nat_eq t.0 c then m *ℤ t.1 else pos 0) = times_if m t.1 (nat_eq t.0 c) in
    let d : m *ℤ coefficient c (t ∷ ts) ≡ (m *ℤ (if nat_eq t.0 c then t.1 else pos 0)) +ℤ (m *ℤ coefficient c ts) =
    distrib_left m (if nat_eq t.0 c then t.1 else pos 0) (coefficient c ts) in
    omega (arith, ints)

-- m times the terms have m times the value
pub dot-scaled : (point : ℕ → ℤ) (m : ℤ) (ts : List (ℕ × ℤ)) → dot point (scaled m ts) ≡ m *ℤ dot point ts
dot-scaled point m [] = sym (product_zero_right m)
dot-scaled point m (t ∷ ts) =
    let e : dot point (scaled m ts) ≡ m *ℤ dot point ts = dot-scaled point m ts in
    let h : (m *ℤ t.1) *ℤ point t.0 ≡ m *ℤ (t.1 *ℤ point t.0) = product_assoc m t.1 (point t.0) in
    let d : m *ℤ dot point (t ∷ ts) ≡ (m *ℤ (t.1 *ℤ point t.0)) +ℤ (m *ℤ dot point ts) =
    distrib_left m (t.1 *ℤ point t.0) (dot point ts) in
    omega (arith, ints)

-- the opposite terms have the opposite coefficients
pub coefficient-opposite : (c : ℕ) (ts : List (ℕ × ℤ)) → coefficient c (opposite ts) ≡ neg_ℤ (coefficient c ts)
coefficient-opposite c [] = refl
coefficient-opposite c (t ∷ ts) =
    let e : coefficient c (opposite ts) ≡ neg_ℤ (coefficient c ts) = coefficient-opposite c ts in
    let h : neg_ℤ (if nat_eq t.0 c then t.1 else pos 0) ≡ (if nat_eq t.0 c then neg_ℤ t.1 else pos 0) = neg_if t.1 (nat_eq t.0 c) in
    omega (arith, ints)

-- the opposite terms have the opposite value
pub dot-opposite : (point : ℕ → ℤ) (ts : List (ℕ × ℤ)) → dot point (opposite ts) ≡ neg_ℤ (dot point ts)
dot-opposite point [] = refl
dot-opposite point (t ∷ ts) =
    let e : dot point (opposite ts) ≡ neg_ℤ (dot point ts) = dot-opposite point ts in
    let h : neg_ℤ t.1 *ℤ point t.0 ≡ neg_ℤ (t.1 *ℤ point t.0) = product_neg_left t.1 (point t.0) in
    omega (arith, ints)

-- ---- the columns below a bound

-- a greater bound serves too
pub IsBelow_more : (n m : ℕ) (ts : List (ℕ × ℤ)) → n ≤ m → IsBelow n ts → IsBelow m ts
IsBelow_more n m [] l h = tt
IsBelow_more n m (t ∷ ts) l h = (let k : t.0 < n = h.0 in omega arith, IsBelow_more n m ts l h.1)

-- joined terms are below a bound where both are
pub IsBelow-append : (n : ℕ) (a b : List (ℕ × ℤ)) → IsBelow n a → IsBelow n b → IsBelow n (a ++ b)
IsBelow-append n [] b h k = k
IsBelow-append n (t ∷ a) b h k = (h.0, IsBelow-append n a b h.1 k)

-- a factor moves no column
pub IsBelow-scaled : (n : ℕ) (m : ℤ) (ts : List (ℕ × ℤ)) → IsBelow n ts → IsBelow n (scaled m ts)
IsBelow-scaled n m [] h = tt
IsBelow-scaled n m (t ∷ ts) h = (h.0, IsBelow-scaled n m ts h.1)

-- a sign moves no column
pub IsBelow-opposite : (n : ℕ) (ts : List (ℕ × ℤ)) → IsBelow n ts → IsBelow n (opposite ts)
IsBelow-opposite n [] h = tt
IsBelow-opposite n (t ∷ ts) h = (h.0, IsBelow-opposite n ts h.1)

-- one more than the greatest column, or 0
abbrev pub columns_end : List (ℕ × ℤ) → ℕ
columns_end [] = 0
columns_end (t ∷ ts) = max (t.0 + 1) (columns_end ts)

-- each list of terms is below a bound
pub IsBelow-columns_end : (ts : List (ℕ × ℤ)) → IsBelow (columns_end ts) ts
IsBelow-columns_end [] = tt
IsBelow-columns_end (t ∷ ts) =
    (omega arith, IsBelow_more (columns_end ts) (max (t.0 + 1) (columns_end ts)) ts (omega arith) (IsBelow-columns_end ts))

-- terms have no coefficient at a column past all of theirs
pub coefficient_past : (c n : ℕ) (ts : List (ℕ × ℤ)) → n ≤ c → IsBelow n ts → coefficient c ts ≡ pos 0
coefficient_past c n [] l h = refl
coefficient_past c n (t ∷ ts) l h =
    let k : t.0 < n = h.0 in
    let e : coefficient c ts ≡ pos 0 = coefficient_past c n ts l h.1 in
    let b : nat_eq t.0 c ≡ false = ne_eqb t.0 c (λ (u : t.0 ≡ c). omega arith) in
    rw b (omega (arith, ints))

-- ---- the value at a point

-- The value is the sum over the columns, so only the coefficients count.
pub dot_as_sum : (point : ℕ → ℤ) (n : ℕ) (ts : List (ℕ × ℤ)) → IsBelow n ts → dot point ts ≡ sum_below n (λ c. coefficient c ts *ℤ point c)
dot_as_sum point n [] h = sym (sum_below_zero n (λ c. coefficient c [] *ℤ point c) (λ c l. omega (arith, ints)))
dot_as_sum point n (t ∷ ts) h =
    let e : dot point ts ≡ sum_below n (λ c. coefficient c ts *ℤ point c) = dot_as_sum point n ts h.1 in
    let one : ℕ → ℤ = λ c. (if nat_eq t.0 c then t.1 else pos 0) *ℤ point c in
    let rest : ℕ → ℤ = λ c. coefficient c ts *ℤ point c in
    let f : sum_below n one ≡ t.1 *ℤ point t.0 = sum_below_single n t.0 t.1 point h.0 in
    let g : sum_below n (λ c. one c +ℤ rest c) ≡ sum_below n one +ℤ sum_below n rest = sum_below-sum n one rest in
    let d : sum_below n (λ c. coefficient c (t ∷ ts) *ℤ point c) ≡ sum_below n (λ c. one c +ℤ rest c) =
    sum_below_same n (λ c. coefficient c (t ∷ ts) *ℤ point c) (λ c. one c +ℤ rest c)
    (λ c l. distrib_right (if nat_eq t.0 c then t.1 else pos 0) (coefficient c ts) (point c)) in
    omega (arith, ints)

-- terms with the same coefficients have the same value at each point
pub dot_from_coefficients : (point : ℕ → ℤ) (a b : List (ℕ × ℤ)) → ((c : ℕ) → coefficient c a ≡ coefficient c b) → dot point a ≡ dot point b
dot_from_coefficients point a b h =
    let n : ℕ = max (columns_end a) (columns_end b) in
    let p : IsBelow n a = IsBelow_more (columns_end a) n a (omega arith) (IsBelow-columns_end a) in
    let q : IsBelow n b = IsBelow_more (columns_end b) n b (omega arith) (IsBelow-columns_end b) in
    dot_as_sum point n a p ∙
    sum_below_same n (λ c. coefficient c a *ℤ point c) (λ c. coefficient c b *ℤ point c) (λ c l. ap (λ (z : ℤ). z *ℤ point c) (h c)) ∙
    sym (dot_as_sum point n b q)

-- points that agree on the columns give the same value
pub dot_same_points : (p q : ℕ → ℤ) (n : ℕ) (ts : List (ℕ × ℤ)) → IsBelow n ts → ((c : ℕ) → c < n → p c ≡ q c) → dot p ts ≡ dot q ts
dot_same_points p q n [] b h = refl
dot_same_points p q n (t ∷ ts) b h =
    let e : dot p ts ≡ dot q ts = dot_same_points p q n ts b.1 h in
    let d : t.1 *ℤ p t.0 ≡ t.1 *ℤ q t.0 = ap (λ (z : ℤ). t.1 *ℤ z) (h t.0 b.0) in
    omega (arith, ints)

-- ---- a point with one value changed

-- the changed value
pub with_value_here : (point : ℕ → ℤ) (c : ℕ) (v : ℤ) → with_value point c v c ≡ v
with_value_here point c v = rw (eq-eqb c c refl)

-- the other values stay
pub with_value_other : (point : ℕ → ℤ) (c : ℕ) (v : ℤ) (k : ℕ) → (c ≡ k → ⊥) → with_value point c v k ≡ point k
with_value_other point c v k e = rw (ne_eqb c k e)

-- a column past all terms does not count
pub dot-with_value : (point : ℕ → ℤ) (c : ℕ) (v : ℤ) (ts : List (ℕ × ℤ)) → IsBelow c ts → dot (with_value point c v) ts ≡ dot point ts
dot-with_value point c v ts b =
    dot_same_points (with_value point c v) point c ts b (λ k l. with_value_other point c v k (λ (u : c ≡ k). omega arith))

-- What a changed value changes: the coefficient of its column, times the difference.
pub dot-with_value_at : (point : ℕ → ℤ) (c : ℕ) (v : ℤ) (ts : List (ℕ × ℤ)) →
    dot (with_value point c v) ts +ℤ (coefficient c ts *ℤ point c) ≡ dot point ts +ℤ (coefficient c ts *ℤ v)
dot-with_value_at point c v [] = omega (arith, ints)
dot-with_value_at point c v (t ∷ ts) =
    let q : ℕ → ℤ = with_value point c v in
    let one : ℤ = if nat_eq t.0 c then t.1 else pos 0 in
    let e : dot q ts +ℤ (coefficient c ts *ℤ point c) ≡ dot point ts +ℤ (coefficient c ts *ℤ v) = dot-with_value_at point c v ts in
    let f : (one +ℤ coefficient c ts) *ℤ point c ≡ (one *ℤ point c) +ℤ (coefficient c ts *ℤ point c) = distrib_right one (coefficient c ts) (point c) in
    let g : (one +ℤ coefficient c ts) *ℤ v ≡ (one *ℤ v) +ℤ (coefficient c ts *ℤ v) = distrib_right one (coefficient c ts) v in
    let h : (t.1 *ℤ q t.0) +ℤ (one *ℤ point c) ≡ (t.1 *ℤ point t.0) +ℤ (one *ℤ v) = at_term point c v t.0 t.1 (cases_eq t.0 c) in
    omega (arith, ints)
  where
    at_term : (point : ℕ → ℤ) (c : ℕ) (v : ℤ) (k : ℕ) (z : ℤ) → ((k ≡ c) ⊎ (k ≡ c → ⊥)) →
        (z *ℤ with_value point c v k) +ℤ ((if nat_eq k c then z else pos 0) *ℤ point c) ≡ (z *ℤ point k) +ℤ ((if nat_eq k c then z else pos 0) *ℤ v)
    at_term point c v k z (inl e) =
        subst (λ (n : ℕ). (z *ℤ with_value point n v k) +ℤ ((if nat_eq k n then z else pos 0) *ℤ point n) ≡ (z *ℤ point k) +ℤ ((if nat_eq k n then z else pos 0) *ℤ v)) e
        (rw (eq-eqb k k refl) (omega (arith, ints)))
    at_term point c v k z (inr e) =
        let d : c ≡ k → ⊥ = λ (u : c ≡ k). e (sym u) in
        rw (ne_eqb k c e, ne_eqb c k d) (omega (arith, ints))
