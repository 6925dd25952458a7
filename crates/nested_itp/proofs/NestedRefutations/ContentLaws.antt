-- Tightened rows over columns that are numbered anew: the greatest common divisor stays, and so do the numbers of each column.
use Rattle.std.proofs.Common.{◌≡◌, ◌∙◌, ◌⊎◌, inl, inr, ℕ, zero, suc, ◌+◌, ◌%◌, ◌<◌, ◌≤◌, ℤ, pos, ◌+ℤ◌, ◌*ℤ◌, ◌≤ℤ◌, Bool, true, false, List, [], ◌∷◌, map, refl, sym, ap, subst, arith}
use Rattle.std.specs.Prelude.{nat_eq, neg_ℤ, unsigned_abs, if◌then◌else◌}
use Rattle.std.specs.Int.{int_div_euclid, ◌∣◌}
use Rattle.std.proofs.lemmas.Nat.Gcd.{dvd-zero}
use Rattle.std.proofs.lemmas.Int.{ints}
use Rattle.std.proofs.lemmas.Bool.{eq-eqb, ne_eqb, cases_eq}
use Rattle.math_facts.specs.Terms.{coefficient, opposite, IsBelow}
use Rattle.math_facts.proofs.Division.{floor_below}
use Rattle.math_facts.proofs.Whole.{cancel_order}
use Rattle.math_facts.proofs.TermLaws.{coefficient-scaled, coefficient-opposite, coefficient_past}
use Rattle.lin_rows.specs.declared.types.RowKind.{RowKind}
use Rattle.lin_rows.specs.declared.types.RowKind.TheVariants.{Le, Eq}
use Rattle.lin_rows.specs.Rows.{LinearRow, AscendsFrom}
use Rattle.lin_rows.specs.Tightening.{all_divisible, content, divided, never, divided_row, tightened}
use Rattle.lin_rows.proofs.Ascending.{coefficient_below, coefficient_first, coefficient_rest, HasNoZero}
use Rattle.lin_rows.proofs.SummedLaws.{coefficient-summed, AscendsFrom-summed, HasNoZero-summed}
use Rattle.lin_rows.proofs.TighteningLaw.{all_divisible-cons, all_divisible_one, content_divides, content_at_least, content_divides_all, scaled-divided, tightened_as}
use Rattle.letter_acts.specs.FrameRows.Rows.{renamed}

-- ---- divisors of coefficients

divides_at : (d low : ℕ) (ts : List (ℕ × ℤ)) (c : ℕ) → AscendsFrom low ts → all_divisible d ts ≡ true → d ∣ unsigned_abs (coefficient c ts)
divides_at d low [] c up h = dvd-zero d
divides_at d low (t ∷ ts) c up h = by_column (cases_eq t.0 c) ((all_divisible-cons d t ts).0 h).0 (divides_at d (t.0 + 1) ts c up.1 ((all_divisible-cons d t ts).0 h).1)
  where
    by_column : ((t.0 ≡ c) ⊎ (t.0 ≡ c → ⊥)) → d ∣ unsigned_abs t.1 → d ∣ unsigned_abs (coefficient c ts) → d ∣ unsigned_abs (coefficient c (t ∷ ts))
    by_column (inl e) x y = subst (λ (z : ℤ). d ∣ unsigned_abs z) (sym (coefficient_first c t ts up.1 e)) x
    by_column (inr e) x y = subst (λ (z : ℤ). d ∣ unsigned_abs z) (sym (coefficient_rest c t ts e)) y

divides_all : (d low : ℕ) (ts : List (ℕ × ℤ)) → AscendsFrom low ts → ((c : ℕ) → d ∣ unsigned_abs (coefficient c ts)) → all_divisible d ts ≡ true
divides_all d low [] up h = refl
divides_all d low (t ∷ ts) up h =
    (all_divisible-cons d t ts).1 (
      subst (λ (z : ℤ). d ∣ unsigned_abs z) (coefficient_first t.0 t ts up.1 refl) (h t.0),
      divides_all d (t.0 + 1) ts up.1 (λ c. behind c (cases_eq t.0 c)),
    )
  where
    behind : (c : ℕ) → ((t.0 ≡ c) ⊎ (t.0 ≡ c → ⊥)) → d ∣ unsigned_abs (coefficient c ts)
    behind c (inl e) = subst (λ (z : ℤ). d ∣ unsigned_abs z) (sym (coefficient_below (t.0 + 1) c ts up.1 (omega (arith, e)))) (dvd-zero d)
    behind c (inr e) = subst (λ (z : ℤ). d ∣ unsigned_abs z) (coefficient_rest c t ts e) (h c)

-- ascending terms, none of them 0, that have the same divisors have the same greatest one
same_divisors : (us ts : List (ℕ × ℤ)) → HasNoZero us → HasNoZero ts → ((d : ℕ) → all_divisible d us ≡ true → all_divisible d ts ≡ true) →
    ((d : ℕ) → all_divisible d ts ≡ true → all_divisible d us ≡ true) → content us ≡ content ts
same_divisors [] [] n m f g = refl
same_divisors [] (t ∷ ts) n m f g =
    absurd (let l : suc (content (t ∷ ts)) ≤ content (t ∷ ts) = content_at_least t ts (suc (content (t ∷ ts))) m.0 (f (suc (content (t ∷ ts))) refl) in omega (arith, l))
same_divisors (u ∷ us) [] n m f g =
    absurd (let l : suc (content (u ∷ us)) ≤ content (u ∷ us) = content_at_least u us (suc (content (u ∷ us))) n.0 (g (suc (content (u ∷ us))) refl) in omega (arith, l))
same_divisors (u ∷ us) (t ∷ ts) n m f g =
    let a : content (u ∷ us) ≤ content (t ∷ ts) = content_at_least t ts (content (u ∷ us)) m.0 (f (content (u ∷ us)) (content_divides_all u us n.0)) in
    let b : content (t ∷ ts) ≤ content (u ∷ us) = content_at_least u us (content (t ∷ ts)) n.0 (g (content (t ∷ ts)) (content_divides_all t ts m.0)) in
    omega (arith, a, b)

same_columns : (us ts : List (ℕ × ℤ)) → AscendsFrom 0 us → AscendsFrom 0 ts → HasNoZero us → HasNoZero ts →
    ((d : ℕ) → ((c : ℕ) → d ∣ unsigned_abs (coefficient c us)) → (c : ℕ) → d ∣ unsigned_abs (coefficient c ts)) →
    ((d : ℕ) → ((c : ℕ) → d ∣ unsigned_abs (coefficient c ts)) → (c : ℕ) → d ∣ unsigned_abs (coefficient c us)) → content us ≡ content ts
same_columns us ts up vp n m f g =
    same_divisors us ts n m
    (λ d h. divides_all d 0 ts vp (f d (λ c. divides_at d 0 us c up h)))
    (λ d h. divides_all d 0 us up (g d (λ c. divides_at d 0 ts c vp h)))

-- ---- columns numbered anew

-- no two of the first n columns get the same number
abbrev pub DiffersBelow : ℕ → (ℕ → ℕ) → Type 0
DiffersBelow n to = (i j : ℕ) → i < n → j < n → to i ≡ to j → i ≡ j

abbrev pub moved : (ℕ → ℕ) → List (ℕ × ℤ) → List (ℕ × ℤ)
moved to ts = map (λ t. (to t.0, t.1)) ts

pub moved_at : (n : ℕ) (to : ℕ → ℕ) → DiffersBelow n to → (ts : List (ℕ × ℤ)) → IsBelow n ts → (j : ℕ) → j < n → coefficient (to j) (moved to ts) ≡ coefficient j ts
moved_at n to differ [] below j l = refl
moved_at n to differ (t ∷ ts) below j l = by_column (cases_eq t.0 j) (moved_at n to differ ts below.1 j l)
  where
    by_column : ((t.0 ≡ j) ⊎ (t.0 ≡ j → ⊥)) → coefficient (to j) (moved to ts) ≡ coefficient j ts → coefficient (to j) (moved to (t ∷ ts)) ≡ coefficient j (t ∷ ts)
    by_column (inl e) h = rw (eq-eqb (to t.0) (to j) (ap to e)) (rw (eq-eqb t.0 j e) (ap (λ (z : ℤ). t.1 +ℤ z) h))
    by_column (inr e) h = rw (ne_eqb (to t.0) (to j) (λ (q : to t.0 ≡ to j). e (differ t.0 j below.0 l q))) (rw (ne_eqb t.0 j e) (ap (λ (z : ℤ). pos 0 +ℤ z) h))

pub moved_off : (n : ℕ) (to : ℕ → ℕ) (x : ℕ) → ((j : ℕ) → j < n → to j ≡ x → ⊥) → (ts : List (ℕ × ℤ)) → IsBelow n ts → coefficient x (moved to ts) ≡ pos 0
moved_off n to x off [] below = refl
moved_off n to x off (t ∷ ts) below =
    let h : coefficient x (moved to ts) ≡ pos 0 = moved_off n to x off ts below.1 in
    rw (ne_eqb (to t.0) x (off t.0 below.0)) (omega (arith, ints, h))

-- a number is that of one of the first n columns, or of none
pub record IsHit (n : ℕ) (to : ℕ → ℕ) (x : ℕ) : Type 0 where
  pub column : ℕ
  pub below : column < n
  pub hits : to column ≡ x

pub hit_or_off : (n : ℕ) (to : ℕ → ℕ) (x : ℕ) → IsHit n to x ⊎ ((j : ℕ) → j < n → to j ≡ x → ⊥)
hit_or_off zero to x = inr (λ j l e. absurd (omega (arith, l)))
hit_or_off (suc n) to x = by_rest (hit_or_off n to x) (cases_eq (to n) x)
  where
    by_rest : IsHit n to x ⊎ ((j : ℕ) → j < n → to j ≡ x → ⊥) → ((to n ≡ x) ⊎ (to n ≡ x → ⊥)) → IsHit (suc n) to x ⊎ ((j : ℕ) → j < suc n → to j ≡ x → ⊥)
    by_rest (inl h) e = let l = h.below in inl (record { column = h.column; below = omega (arith, l); hits = h.hits })
    by_rest (inr f) (inl e) = inl (record { column = n; below = omega arith; hits = e })
    by_rest (inr f) (inr e) = inr (λ j l q. at_last j l q (cases_eq j n))
      where
        at_last : (j : ℕ) → j < suc n → to j ≡ x → ((j ≡ n) ⊎ (j ≡ n → ⊥)) → ⊥
        at_last j l q (inl k) = e (ap to (sym k) ∙ q)
        at_last j l q (inr k) = f j (omega (arith, l, k)) q

pub renamed_at : (n : ℕ) (to : ℕ → ℕ) → DiffersBelow n to → (r : LinearRow) → IsBelow n r.terms → (j : ℕ) → j < n → coefficient (to j) (renamed to r).terms ≡ coefficient j r.terms
renamed_at n to differ r below j l = coefficient-summed (to j) (moved to r.terms) ∙ moved_at n to differ r.terms below j l

pub renamed_off : (n : ℕ) (to : ℕ → ℕ) (x : ℕ) → ((j : ℕ) → j < n → to j ≡ x → ⊥) → (r : LinearRow) → IsBelow n r.terms → coefficient x (renamed to r).terms ≡ pos 0
renamed_off n to x off r below = coefficient-summed x (moved to r.terms) ∙ moved_off n to x off r.terms below

-- the greatest common divisor stays
pub content_renamed : (n : ℕ) (to : ℕ → ℕ) → DiffersBelow n to → (r : LinearRow) → IsBelow n r.terms → AscendsFrom 0 r.terms → HasNoZero r.terms → content (renamed to r).terms ≡ content r.terms
content_renamed n to differ r below up none =
    same_columns (renamed to r).terms r.terms (AscendsFrom-summed (moved to r.terms)) up (HasNoZero-summed (moved to r.terms)) none
    (λ d h c. back d h c (below_or c n))
    (λ d h x. there d h x (hit_or_off n to x))
  where
    below_or : (c m : ℕ) → (c < m) ⊎ (m ≤ c)
    below_or c zero = inr (omega arith)
    below_or c (suc m) = by_rest (below_or c m) (cases_eq c m)
      where
        by_rest : (c < m) ⊎ (m ≤ c) → ((c ≡ m) ⊎ (c ≡ m → ⊥)) → (c < suc m) ⊎ (suc m ≤ c)
        by_rest (inl l) e = inl (omega (arith, l))
        by_rest (inr l) (inl e) = inl (omega (arith, e))
        by_rest (inr l) (inr e) = inr (omega (arith, l, e))

    back : (d : ℕ) → ((c : ℕ) → d ∣ unsigned_abs (coefficient c (renamed to r).terms)) → (c : ℕ) → (c < n) ⊎ (n ≤ c) → d ∣ unsigned_abs (coefficient c r.terms)
    back d h c (inl l) = subst (λ (z : ℤ). d ∣ unsigned_abs z) (renamed_at n to differ r below c l) (h (to c))
    back d h c (inr l) = subst (λ (z : ℤ). d ∣ unsigned_abs z) (sym (coefficient_past c n r.terms l below)) (dvd-zero d)

    there : (d : ℕ) → ((c : ℕ) → d ∣ unsigned_abs (coefficient c r.terms)) → (x : ℕ) → IsHit n to x ⊎ ((j : ℕ) → j < n → to j ≡ x → ⊥) → d ∣ unsigned_abs (coefficient x (renamed to r).terms)
    there d h x (inl k) = subst (λ (z : ℤ). d ∣ unsigned_abs z) (sym (ap (λ (y : ℕ). coefficient y (renamed to r).terms) (sym k.hits) ∙ renamed_at n to differ r below k.column k.below)) (h k.column)
    there d h x (inr off) = subst (λ (z : ℤ). d ∣ unsigned_abs z) (sym (renamed_off n to x off r below)) (dvd-zero d)

no_less : (z : ℤ) → unsigned_abs (neg_ℤ z) ≡ unsigned_abs z
no_less z = omega (arith, ints)

opposite_ascends : (low : ℕ) (ts : List (ℕ × ℤ)) → AscendsFrom low ts → AscendsFrom low (opposite ts)
opposite_ascends low [] h = tt
opposite_ascends low (t ∷ ts) h = (h.0, opposite_ascends (t.0 + 1) ts h.1)

opposite_not_zero : (ts : List (ℕ × ℤ)) → HasNoZero ts → HasNoZero (opposite ts)
opposite_not_zero [] h = tt
opposite_not_zero (t ∷ ts) h = ((λ (e : neg_ℤ t.1 ≡ pos 0). h.0 (let q : t.1 ≡ pos 0 = omega (arith, ints, e) in q)), opposite_not_zero ts h.1)

pub content_opposite : (ts : List (ℕ × ℤ)) → AscendsFrom 0 ts → HasNoZero ts → content (opposite ts) ≡ content ts
content_opposite ts up none =
    same_columns (opposite ts) ts (opposite_ascends 0 ts up) up (opposite_not_zero ts none) none
    (λ d h c. subst (λ (n : ℕ). d ∣ n) (ap unsigned_abs (coefficient-opposite c ts) ∙ no_less (coefficient c ts)) (h c))
    (λ d h c. subst (λ (n : ℕ). d ∣ n) (sym (ap unsigned_abs (coefficient-opposite c ts) ∙ no_less (coefficient c ts))) (h c))

-- ---- a tightened row, taken as often as its greatest common divisor

zero_of : (ts : List (ℕ × ℤ)) → HasNoZero ts → content ts ≡ 0 → ts ≡ []
zero_of [] n e = refl
zero_of (t ∷ ts) n e = absurd (let l : 1 ≤ content (t ∷ ts) = content_at_least t ts 1 n.0 (all_divisible_one (t ∷ ts)) in omega (arith, l, e))

pub divided_back : (c g : ℕ) (ts : List (ℕ × ℤ)) → 0 < g → all_divisible g ts ≡ true → pos g *ℤ coefficient c (divided g ts) ≡ coefficient c ts
divided_back c g ts p h = sym (coefficient-scaled c (pos g) (divided g ts)) ∙ ap (coefficient c) (scaled-divided g ts p h)

-- it gives back an inequality's coefficients
pub tightened_back : (c : ℕ) (r : LinearRow) → r.kind ≡ Le → HasNoZero r.terms → pos (content r.terms) *ℤ coefficient c (tightened r).terms ≡ coefficient c r.terms
tightened_back c r k none = by_content (content r.terms) refl
  where
    by_content : (g : ℕ) → content r.terms ≡ g → pos g *ℤ coefficient c (tightened r).terms ≡ coefficient c r.terms
    by_content zero e =
        let n : coefficient c r.terms ≡ pos 0 = ap (coefficient c) (zero_of r.terms none e) in
        let z : pos 0 *ℤ coefficient c (tightened r).terms ≡ pos 0 = nothing (coefficient c (tightened r).terms) in z ∙ sym n
      where
        nothing : (z : ℤ) → pos 0 *ℤ z ≡ pos 0
        nothing z = omega (arith, ints)
    by_content (suc g) e =
        let t : tightened r ≡ divided_row Le (suc g) r.terms r.bound = tightened_as r (suc g) e ∙ ap (λ (kind : RowKind). divided_row kind (suc g) r.terms r.bound) k in
        let h : all_divisible (suc g) r.terms ≡ true = subst (λ (n : ℕ). all_divisible n r.terms ≡ true) e (content_divides r.terms (omega (arith, e))) in
        ap (λ (x : LinearRow). pos (suc g) *ℤ coefficient c x.terms) t ∙ divided_back c (suc g) r.terms (omega arith) h

-- and no more than its bound
pub tightened_bound : (r : LinearRow) → r.kind ≡ Le → 0 < content r.terms → (pos (content r.terms) *ℤ (tightened r).bound) ≤ℤ r.bound
tightened_bound r k p = by_content (content r.terms) refl p
  where
    by_content : (g : ℕ) → content r.terms ≡ g → 0 < g → (pos g *ℤ (tightened r).bound) ≤ℤ r.bound
    by_content zero e q = absurd (omega (arith, q))
    by_content (suc g) e q =
        let t : tightened r ≡ divided_row Le (suc g) r.terms r.bound = tightened_as r (suc g) e ∙ ap (λ (kind : RowKind). divided_row kind (suc g) r.terms r.bound) k in
        subst (λ (x : LinearRow). (pos (suc g) *ℤ x.bound) ≤ℤ r.bound) (sym t) (floor_below (suc g) r.bound (omega arith))

pub tightened_le : (r : LinearRow) → r.kind ≡ Le → (tightened r).kind ≡ Le
tightened_le r k = by_content (content r.terms) refl
  where
    by_content : (g : ℕ) → content r.terms ≡ g → (tightened r).kind ≡ Le
    by_content zero e = ap (λ (x : LinearRow). x.kind) (tightened_as r 0 e) ∙ k
    by_content (suc g) e = ap (λ (x : LinearRow). x.kind) (tightened_as r (suc g) e ∙ ap (λ (kind : RowKind). divided_row kind (suc g) r.terms r.bound) k)

-- ---- tightened and numbered anew

times_same : (g : ℕ) (x y : ℤ) → pos (suc g) *ℤ x ≡ pos (suc g) *ℤ y → x ≡ y
times_same g x y e =
    let a : x ≤ℤ y = cancel_order (pos (suc g)) x y (omega (arith, ints)) (omega (arith, ints, e)) in
    let b : y ≤ℤ x = cancel_order (pos (suc g)) y x (omega (arith, ints)) (omega (arith, ints, e)) in
    omega (arith, ints, a, b)

-- the row over other columns: it has the same bound and kind, and the same coefficients there
pub record IsMoved (n : ℕ) (to : ℕ → ℕ) (r new : LinearRow) : Type 0 where
  pub at : (j : ℕ) → j < n → coefficient (to j) new.terms ≡ coefficient j r.terms
  pub off : (x : ℕ) → ((j : ℕ) → j < n → to j ≡ x → ⊥) → coefficient x new.terms ≡ pos 0
  pub bound : new.bound ≡ r.bound
  pub kind : new.kind ≡ r.kind

divided_moved : (n : ℕ) (to : ℕ → ℕ) (kind : RowKind) (g : ℕ) (ts us : List (ℕ × ℤ)) (b : ℤ) → all_divisible (suc g) ts ≡ true → all_divisible (suc g) us ≡ true →
    ((j : ℕ) → j < n → coefficient (to j) us ≡ coefficient j ts) → ((x : ℕ) → ((j : ℕ) → j < n → to j ≡ x → ⊥) → coefficient x us ≡ pos 0) →
    IsMoved n to (divided_row kind (suc g) ts b) (divided_row kind (suc g) us b)
divided_moved n to Le g ts us b h k f off = record {
  at = λ j l. times_same g (coefficient (to j) (divided (suc g) us)) (coefficient j (divided (suc g) ts))
      (divided_back (to j) (suc g) us (omega arith) k ∙ f j l ∙ sym (divided_back j (suc g) ts (omega arith) h));
  off = λ x q. times_same g (coefficient x (divided (suc g) us)) (pos 0) (divided_back x (suc g) us (omega arith) k ∙ off x q ∙ (let z : pos 0 ≡ pos (suc g) *ℤ pos 0 = omega (arith, ints) in z));
  bound = refl;
  kind = refl;
}
divided_moved n to Eq g ts us b h k f off = by_test (nat_eq (unsigned_abs b % suc g) 0)
  where
    by_test : (z : Bool) →
        IsMoved n to (if z then (record { terms = divided (suc g) ts; kind = Eq; bound = int_div_euclid b (pos (suc g)) }) else never)
        (if z then (record { terms = divided (suc g) us; kind = Eq; bound = int_div_euclid b (pos (suc g)) }) else never)
    by_test true = record {
      at = λ j l. times_same g (coefficient (to j) (divided (suc g) us)) (coefficient j (divided (suc g) ts))
          (divided_back (to j) (suc g) us (omega arith) k ∙ f j l ∙ sym (divided_back j (suc g) ts (omega arith) h));
      off = λ x q. times_same g (coefficient x (divided (suc g) us)) (pos 0) (divided_back x (suc g) us (omega arith) k ∙ off x q ∙ (let z : pos 0 ≡ pos (suc g) *ℤ pos 0 = omega (arith, ints) in z));
      bound = refl;
      kind = refl;
    }
    by_test false = record { at = λ j l. refl; off = λ x q. refl; bound = refl; kind = refl }

pub tightened_moved : (n : ℕ) (to : ℕ → ℕ) → DiffersBelow n to → (r : LinearRow) → IsBelow n r.terms → AscendsFrom 0 r.terms → HasNoZero r.terms →
    IsMoved n to (tightened r) (tightened (renamed to r))
tightened_moved n to differ r below up none = by_content (content r.terms) refl
  where
    by_content : (g : ℕ) → content r.terms ≡ g → IsMoved n to (tightened r) (tightened (renamed to r))
    by_content zero e =
        let f : content (renamed to r).terms ≡ 0 = content_renamed n to differ r below up none ∙ e in
        subst (λ (x : LinearRow). IsMoved n to x (tightened (renamed to r))) (sym (tightened_as r 0 e))
        (subst (λ (x : LinearRow). IsMoved n to r x) (sym (tightened_as (renamed to r) 0 f))
        (record { at = renamed_at n to differ r below; off = λ x q. renamed_off n to x q r below; bound = refl; kind = refl }))
    by_content (suc g) e =
        let f : content (renamed to r).terms ≡ suc g = content_renamed n to differ r below up none ∙ e in
        let h : all_divisible (suc g) r.terms ≡ true = subst (λ (m : ℕ). all_divisible m r.terms ≡ true) e (content_divides r.terms (omega (arith, e))) in
        let k : all_divisible (suc g) (renamed to r).terms ≡ true = subst (λ (m : ℕ). all_divisible m (renamed to r).terms ≡ true) f (content_divides (renamed to r).terms (omega (arith, f))) in
        subst (λ (x : LinearRow). IsMoved n to x (tightened (renamed to r))) (sym (tightened_as r (suc g) e))
        (subst (λ (x : LinearRow). IsMoved n to (divided_row r.kind (suc g) r.terms r.bound) x) (sym (tightened_as (renamed to r) (suc g) f))
        (divided_moved n to r.kind g r.terms (renamed to r).terms r.bound h k (renamed_at n to differ r below) (λ x q. renamed_off n to x q r below)))

-- a column that a row does not name
pub tightened_off : (x : ℕ) (r : LinearRow) → coefficient x r.terms ≡ pos 0 → coefficient x (tightened r).terms ≡ pos 0
tightened_off x r n = by_content (content r.terms) refl
  where
    by_kind : (kind : RowKind) (g : ℕ) → coefficient x (divided (suc g) r.terms) ≡ pos 0 → coefficient x (divided_row kind (suc g) r.terms r.bound).terms ≡ pos 0
    by_kind Le g d = d
    by_kind Eq g d = by_test (nat_eq (unsigned_abs r.bound % suc g) 0)
      where
        by_test : (z : Bool) → coefficient x (if z then (record { terms = divided (suc g) r.terms; kind = Eq; bound = int_div_euclid r.bound (pos (suc g)) }) else never).terms ≡ pos 0
        by_test true = d
        by_test false = refl

    by_content : (g : ℕ) → content r.terms ≡ g → coefficient x (tightened r).terms ≡ pos 0
    by_content zero e = ap (λ (y : LinearRow). coefficient x y.terms) (tightened_as r 0 e) ∙ n
    by_content (suc g) e =
        let h : all_divisible (suc g) r.terms ≡ true = subst (λ (m : ℕ). all_divisible m r.terms ≡ true) e (content_divides r.terms (omega (arith, e))) in
        let d : coefficient x (divided (suc g) r.terms) ≡ pos 0 =
        times_same g (coefficient x (divided (suc g) r.terms)) (pos 0) (divided_back x (suc g) r.terms (omega arith) h ∙ n ∙ (let z : pos 0 ≡ pos (suc g) *ℤ pos 0 = omega (arith, ints) in z)) in
        ap (λ (y : LinearRow). coefficient x y.terms) (tightened_as r (suc g) e) ∙ by_kind r.kind g d

-- ---- one row over two numberings

-- they have one greatest common divisor
content_both : (n : ℕ) (f g : ℕ → ℕ) → DiffersBelow n f → DiffersBelow n g → (r : LinearRow) → IsBelow n r.terms → content (renamed f r).terms ≡ content (renamed g r).terms
content_both n f g df dg r below =
    same_columns (renamed f r).terms (renamed g r).terms (AscendsFrom-summed (moved f r.terms)) (AscendsFrom-summed (moved g r.terms)) (HasNoZero-summed (moved f r.terms)) (HasNoZero-summed (moved g r.terms))
    (λ d h x. over f g df dg d h x (hit_or_off n g x)) (λ d h x. over g f dg df d h x (hit_or_off n f x))
  where
    over : (p q : ℕ → ℕ) → DiffersBelow n p → DiffersBelow n q → (d : ℕ) → ((c : ℕ) → d ∣ unsigned_abs (coefficient c (renamed p r).terms)) → (x : ℕ) → IsHit n q x ⊎ ((j : ℕ) → j < n → q j ≡ x → ⊥) →
        d ∣ unsigned_abs (coefficient x (renamed q r).terms)
    over p q dp dq d h x (inl k) =
        subst (λ (z : ℤ). d ∣ unsigned_abs z)
        (renamed_at n p dp r below k.column k.below ∙ sym (renamed_at n q dq r below k.column k.below) ∙ ap (λ (y : ℕ). coefficient y (renamed q r).terms) k.hits) (h (p k.column))
    over p q dp dq d h x (inr off) = subst (λ (z : ℤ). d ∣ unsigned_abs z) (sym (renamed_off n q x off r below)) (dvd-zero d)

-- the two rows have the same bound and kind, and the same coefficients
pub record AreMoved (n : ℕ) (f g : ℕ → ℕ) (r s : LinearRow) : Type 0 where
  pub at : (j : ℕ) → j < n → coefficient (f j) r.terms ≡ coefficient (g j) s.terms
  pub bound : r.bound ≡ s.bound
  pub kind : r.kind ≡ s.kind

divided_both : (n : ℕ) (f h : ℕ → ℕ) (kind : RowKind) (g : ℕ) (ts us : List (ℕ × ℤ)) (b : ℤ) → all_divisible (suc g) ts ≡ true → all_divisible (suc g) us ≡ true →
    ((j : ℕ) → j < n → coefficient (f j) ts ≡ coefficient (h j) us) → AreMoved n f h (divided_row kind (suc g) ts b) (divided_row kind (suc g) us b)
divided_both n f h Le g ts us b x y same = record {
  at = λ j l. times_same g (coefficient (f j) (divided (suc g) ts)) (coefficient (h j) (divided (suc g) us))
      (divided_back (f j) (suc g) ts (omega arith) x ∙ same j l ∙ sym (divided_back (h j) (suc g) us (omega arith) y));
  bound = refl;
  kind = refl;
}
divided_both n f h Eq g ts us b x y same = by_test (nat_eq (unsigned_abs b % suc g) 0)
  where
    by_test : (z : Bool) →
        AreMoved n f h (if z then (record { terms = divided (suc g) ts; kind = Eq; bound = int_div_euclid b (pos (suc g)) }) else never)
        (if z then (record { terms = divided (suc g) us; kind = Eq; bound = int_div_euclid b (pos (suc g)) }) else never)
    by_test true = record {
      at = λ j l. times_same g (coefficient (f j) (divided (suc g) ts)) (coefficient (h j) (divided (suc g) us))
          (divided_back (f j) (suc g) ts (omega arith) x ∙ same j l ∙ sym (divided_back (h j) (suc g) us (omega arith) y));
      bound = refl;
      kind = refl;
    }
    by_test false = record { at = λ j l. refl; bound = refl; kind = refl }

pub both_moved : (n : ℕ) (f g : ℕ → ℕ) → DiffersBelow n f → DiffersBelow n g → (r : LinearRow) → IsBelow n r.terms → AreMoved n f g (tightened (renamed f r)) (tightened (renamed g r))
both_moved n f g df dg r below = by_content (content (renamed f r).terms) refl
  where
    same : (j : ℕ) → j < n → coefficient (f j) (renamed f r).terms ≡ coefficient (g j) (renamed g r).terms
    same j l = renamed_at n f df r below j l ∙ sym (renamed_at n g dg r below j l)

    by_content : (m : ℕ) → content (renamed f r).terms ≡ m → AreMoved n f g (tightened (renamed f r)) (tightened (renamed g r))
    by_content zero e =
        let k : content (renamed g r).terms ≡ 0 = sym (content_both n f g df dg r below) ∙ e in
        subst (λ (x : LinearRow). AreMoved n f g x (tightened (renamed g r))) (sym (tightened_as (renamed f r) 0 e))
        (subst (λ (x : LinearRow). AreMoved n f g (renamed f r) x) (sym (tightened_as (renamed g r) 0 k)) (record { at = same; bound = refl; kind = refl }))
    by_content (suc m) e =
        let k : content (renamed g r).terms ≡ suc m = sym (content_both n f g df dg r below) ∙ e in
        let x : all_divisible (suc m) (renamed f r).terms ≡ true = subst (λ (z : ℕ). all_divisible z (renamed f r).terms ≡ true) e (content_divides (renamed f r).terms (omega (arith, e))) in
        let y : all_divisible (suc m) (renamed g r).terms ≡ true = subst (λ (z : ℕ). all_divisible z (renamed g r).terms ≡ true) k (content_divides (renamed g r).terms (omega (arith, k))) in
        subst (λ (z : LinearRow). AreMoved n f g z (tightened (renamed g r))) (sym (tightened_as (renamed f r) (suc m) e))
        (subst (λ (z : LinearRow). AreMoved n f g (divided_row r.kind (suc m) (renamed f r).terms r.bound) z) (sym (tightened_as (renamed g r) (suc m) k))
        (divided_both n f g r.kind m (renamed f r).terms (renamed g r).terms r.bound x y same))
