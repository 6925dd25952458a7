-- The columns of a conjunction over a frame and products: which of them its letter leaves out, and what ties say.
use Rattle.std.proofs.Common.{◌≡◌, ℕ, ◌<◌, ◌≤◌, Bool, true, false, not, ◌&&◌, nat_lt, nat_eq, ℤ, ◌+ℤ◌, List, [], ◌∷◌, Option, None, Some, filter, if◌then◌else◌, refl, ap, sym, ◌∙◌}
use Rattle.std.specs.List.{AllByRecursion, list_any}
use Rattle.std.specs.Option.{is_some}
use Rattle.std.proofs.lemmas.Bool.{and_parts, and_from, and_left, and_right, or_parts, or_from, or_left, or_right, not_from_true, not_from_false, false≢true, ltb-true, ltb-false, lt-ltb, le-ltb, eqb-true, eq-eqb, both_ways}
use Rattle.lin_rows.specs.Rows.{LinearRow}
use Rattle.lin_rows.specs.Sums.{is_zero}
use Rattle.cond_jumps.specs.Frames.{or_else}
use Rattle.cond_jumps.specs.FreeProducts.Letters.{ProductSpan, is_between, is_product_column, is_helper_column, names_any, tied_terms, if_tied, tie_of, if_helper, product_of, plain_rows, is_left_out}

-- ---- columns

pub below_low : (low high c : ℕ) → c < low → is_between low high c ≡ false
below_low low high c l = and_left (not (nat_lt c low)) (nat_lt c high) (not_from_true (nat_lt c low) (lt-ltb c low l))

pub from_high : (low high c : ℕ) → high ≤ c → is_between low high c ≡ false
from_high low high c l = and_right (not (nat_lt c low)) (nat_lt c high) (le-ltb c high l)

pub is_inside : (low high c : ℕ) → low ≤ c → c < high → is_between low high c ≡ true
is_inside low high c l u = and_from (not (nat_lt c low)) (nat_lt c high) (not_from_false (nat_lt c low) (le-ltb c low l)) (lt-ltb c high u)

pub inside : (low high c : ℕ) → is_between low high c ≡ true → (low ≤ c) × (c < high)
inside low high c e =
    let p = and_parts (not (nat_lt c low)) (nat_lt c high) e in
    (ltb-false c low (not_true (nat_lt c low) p.0), ltb-true c high p.1)
  where
    not_true : (b : Bool) → not b ≡ true → b ≡ false
    not_true true h = absurd (false≢true h)
    not_true false h = refl

-- ---- ties

-- what a row that ties a product and a helper is
pub record IsTied (s : ProductSpan) (r : LinearRow) (x : ℕ × ℕ) : Type 0 where
  pub first : ℤ
  pub second : ℤ
  pub terms_are : r.terms ≡ (x.0, first) ∷ (x.1, second) ∷ []
  pub opposite : is_zero (first +ℤ second) ≡ true
  pub bound_is : is_zero r.bound ≡ true
  pub product : is_product_column s x.0 ≡ true
  pub helper : is_helper_column s x.1 ≡ true

tied_parts : (ts : List (ℕ × ℤ)) (x : ℕ × ℕ) → tied_terms ts ≡ Some x → (a : ℤ) × (b : ℤ) × (ts ≡ (x.0, a) ∷ (x.1, b) ∷ []) × (is_zero (a +ℤ b) ≡ true)
tied_parts [] x e = absurd (cc)
tied_parts (t ∷ []) x e = absurd (cc)
tied_parts (t ∷ (u ∷ (v ∷ ts))) x e = absurd (cc)
tied_parts (t ∷ (u ∷ [])) x e = by_test (is_zero (t.1 +ℤ u.1)) refl e
  where
    by_test : (b : Bool) → is_zero (t.1 +ℤ u.1) ≡ b → (if b then Some (t.0, u.0) else None) ≡ Some x →
        (a : ℤ) × (b : ℤ) × (t ∷ (u ∷ []) ≡ (x.0, a) ∷ (x.1, b) ∷ []) × (is_zero (a +ℤ b) ≡ true)
    by_test false f g = absurd (cc)
    by_test true f g =
        let y : (t.0, u.0) ≡ x = cc in
        (t.1, u.1, λ i. ((y i).0, t.1) ∷ ((y i).1, u.1) ∷ [], f)

if_tied_parts : (s : ProductSpan) (o : Option (ℕ × ℕ)) (x : ℕ × ℕ) → if_tied s o ≡ Some x → (o ≡ Some x) × (is_product_column s x.0 ≡ true) × (is_helper_column s x.1 ≡ true)
if_tied_parts s None x e = absurd (cc)
if_tied_parts s (Some y) x e = by_test (is_product_column s y.0 && is_helper_column s y.1) refl e
  where
    by_test : (b : Bool) → (is_product_column s y.0 && is_helper_column s y.1) ≡ b → (if b then Some y else None) ≡ Some x →
        (Some y ≡ Some x) × (is_product_column s x.0 ≡ true) × (is_helper_column s x.1 ≡ true)
    by_test false f g = absurd (cc)
    by_test true f g =
        let k : y ≡ x = cc in
        let p = and_parts (is_product_column s y.0) (is_helper_column s y.1) f in
        (g, ap (λ (z : ℕ × ℕ). is_product_column s z.0) (sym k) ∙ p.0, ap (λ (z : ℕ × ℕ). is_helper_column s z.1) (sym k) ∙ p.1)

pub tie_parts : (s : ProductSpan) (r : LinearRow) (x : ℕ × ℕ) → tie_of s r ≡ Some x → IsTied s r x
tie_parts s r x e = by_test (is_zero r.bound) refl e
  where
    by_test : (b : Bool) → is_zero r.bound ≡ b → (if b then if_tied s (tied_terms r.terms) else None) ≡ Some x → IsTied s r x
    by_test false f g = absurd (cc)
    by_test true f g =
        let p = if_tied_parts s (tied_terms r.terms) x g in
        let q = tied_parts r.terms x p.0 in
        record { first = q.0; second = q.1; terms_are = q.2; opposite = q.3; bound_is = f; product = p.1; helper = p.2 }

-- a tie names its product's column
pub tie_names : (s : ProductSpan) (r : LinearRow) (x : ℕ × ℕ) → IsTied s r x → names_any (is_product_column s) r ≡ true
tie_names s r x h =
    ap (λ (ts : List (ℕ × ℤ)). list_any (λ (t : ℕ × ℤ). is_product_column s t.0) ts) h.terms_are ∙
    or_left (is_product_column s x.0) (list_any (λ (t : ℕ × ℤ). is_product_column s t.0) ((x.1, h.second) ∷ [])) h.product

no_helper : (s : ProductSpan) (c : ℕ) (o : Option (ℕ × ℕ)) → is_helper_column s c ≡ false → ((x : ℕ × ℕ) → o ≡ Some x → is_helper_column s x.1 ≡ true) → if_helper c o ≡ None
no_helper s c None e h = refl
no_helper s c (Some x) e h = by_test (nat_eq x.1 c) refl
  where
    by_test : (b : Bool) → nat_eq x.1 c ≡ b → (if b then Some x.0 else None) ≡ None
    by_test false f = refl
    by_test true f = absurd (both_ways (is_helper_column s c) e (ap (is_helper_column s) (sym (eqb-true x.1 c f)) ∙ h x refl))

-- only helpers are tied
pub no_product : (s : ProductSpan) (rows : List LinearRow) (c : ℕ) → is_helper_column s c ≡ false → product_of s rows c ≡ None
no_product s [] c e = refl
no_product s (r ∷ rows) c e =
    ap (λ (o : Option ℕ). or_else o (product_of s rows c)) (no_helper s c (tie_of s r) e (λ x f. (tie_parts s r x f).helper)) ∙ no_product s rows c e

-- ---- what is left out

-- a column that is neither a product's nor a helper stays
pub other_stays : (s : ProductSpan) (rows : List LinearRow) (c : ℕ) → is_product_column s c ≡ false → is_helper_column s c ≡ false → is_left_out s rows c ≡ false
other_stays s rows c p h =
    or_from (is_product_column s c) (is_some (product_of s rows c) && not (list_any (names_any (nat_eq c)) (plain_rows s rows))) p
    (and_left (is_some (product_of s rows c)) (not (list_any (names_any (nat_eq c)) (plain_rows s rows))) (ap is_some (no_product s rows c h)))

-- a product's column goes
pub product_goes : (s : ProductSpan) (rows : List LinearRow) (c : ℕ) → is_product_column s c ≡ true → is_left_out s rows c ≡ true
product_goes s rows c p = or_left (is_product_column s c) (is_some (product_of s rows c) && not (list_any (names_any (nat_eq c)) (plain_rows s rows))) p

-- ---- the rows that name no product

-- where a row names no column that passes the test
pub none_named : (test : ℕ → Bool) (ts : List (ℕ × ℤ)) → list_any (λ (t : ℕ × ℤ). test t.0) ts ≡ false → AllByRecursion (λ (t : ℕ × ℤ). test t.0 ≡ false) ts
none_named test [] e = tt
none_named test (t ∷ ts) e =
    let p = or_parts (test t.0) (list_any (λ (t : ℕ × ℤ). test t.0) ts) e in
    (p.0, none_named test ts p.1)

itself : (c : ℕ) → nat_eq c c ≡ true
itself c = eq-eqb c c refl

-- a column that the terms name is named by them
names_own : (ts : List (ℕ × ℤ)) (P : ℕ → Type 0) → ((c : ℕ) → list_any (λ (t : ℕ × ℤ). nat_eq c t.0) ts ≡ true → P c) → AllByRecursion (λ (t : ℕ × ℤ). P t.0) ts
names_own [] P h = tt
names_own (t ∷ ts) P h = (
  h t.0 (or_left (nat_eq t.0 t.0) (list_any (λ (u : ℕ × ℤ). nat_eq t.0 u.0) ts) (itself t.0)),
  names_own ts P (λ c e. h c (or_right (nat_eq c t.0) (list_any (λ (u : ℕ × ℤ). nat_eq c u.0) ts) e)),
)

-- of the rows each column is named by one of them
own_named : (rows : List LinearRow) (P : ℕ → Type 0) → ((c : ℕ) → list_any (names_any (nat_eq c)) rows ≡ true → P c) → AllByRecursion (λ (r : LinearRow). AllByRecursion (λ (t : ℕ × ℤ). P t.0) r.terms) rows
own_named [] P h = tt
own_named (r ∷ rows) P h = (
  names_own r.terms P (λ c e. h c (or_left (names_any (nat_eq c) r) (list_any (names_any (nat_eq c)) rows) e)),
  own_named rows P (λ c e. h c (or_right (names_any (nat_eq c) r) (list_any (names_any (nat_eq c)) rows) e)),
)

-- they pass the test by which they are chosen
pub filter_passes : {X : Type 0} (test : X → Bool) (xs : List X) → AllByRecursion (λ x. test x ≡ true) (filter test xs)
filter_passes {X} test [] = tt
filter_passes {X} test (x ∷ xs) = by_test (test x) refl (filter_passes test xs)
  where
    by_test : (b : Bool) → test x ≡ b → AllByRecursion (λ (x : X). test x ≡ true) (filter test xs) → AllByRecursion (λ (x : X). test x ≡ true) (if b then x ∷ filter test xs else filter test xs)
    by_test true e h = (e, h)
    by_test false e h = h

-- what holds of all holds of those that are chosen
pub all_filtered : {X : Type 0} (P : X → Type 0) (test : X → Bool) (xs : List X) → AllByRecursion P xs → AllByRecursion P (filter test xs)
all_filtered {X} P test [] h = tt
all_filtered {X} P test (x ∷ xs) h = by_test (test x) (all_filtered P test xs h.1)
  where
    by_test : (b : Bool) → AllByRecursion P (filter test xs) → AllByRecursion P (if b then x ∷ filter test xs else filter test xs)
    by_test true k = (h.0, k)
    by_test false k = k

-- what holds of those that are chosen holds of each that passes
pub filtered_each : {X : Type 0} (P : X → Type 0) (test : X → Bool) (xs : List X) → AllByRecursion P (filter test xs) → AllByRecursion (λ x. test x ≡ true → P x) xs
filtered_each {X} P test [] h = tt
filtered_each {X} P test (x ∷ xs) h = by_test (test x) refl h (λ k. filtered_each P test xs k)
  where
    by_test : (b : Bool) → test x ≡ b → AllByRecursion P (if b then x ∷ filter test xs else filter test xs) → (AllByRecursion P (filter test xs) → AllByRecursion (λ (x : X). test x ≡ true → P x) xs) →
        (test x ≡ true → P x) × AllByRecursion (λ (x : X). test x ≡ true → P x) xs
    by_test true e k f = (λ u. k.0, f k.1)
    by_test false e k f = (λ u. absurd (both_ways (test x) e u), f k)

-- of both
pub all_both : {X : Type 0} (P Q : X → Type 0) (xs : List X) → AllByRecursion P xs → AllByRecursion Q xs → AllByRecursion (λ x. P x × Q x) xs
all_both P Q [] h k = tt
all_both P Q (x ∷ xs) h k = ((h.0, k.0), all_both P Q xs h.1 k.1)

pub all_from : {X : Type 0} (P Q : X → Type 0) (xs : List X) → ((x : X) → P x → Q x) → AllByRecursion P xs → AllByRecursion Q xs
all_from P Q [] f h = tt
all_from P Q (x ∷ xs) f h = (f x h.0, all_from P Q xs f h.1)

false_of_not : (b : Bool) → not b ≡ true → b ≡ false
false_of_not true h = absurd (false≢true h)
false_of_not false h = refl

-- rows that name no product name columns alone that stay
pub plain_stay : (s : ProductSpan) (rows : List LinearRow) → AllByRecursion (λ (r : LinearRow). AllByRecursion (λ (t : ℕ × ℤ). is_left_out s rows t.0 ≡ false) r.terms) (plain_rows s rows)
plain_stay s rows =
    all_from (λ (r : LinearRow). AllByRecursion (λ (t : ℕ × ℤ). is_product_column s t.0 ≡ false) r.terms × AllByRecursion (λ (t : ℕ × ℤ). list_any (names_any (nat_eq t.0)) kept ≡ true) r.terms)
    (λ (r : LinearRow). AllByRecursion (λ (t : ℕ × ℤ). is_left_out s rows t.0 ≡ false) r.terms) kept
    (λ r h. all_from (λ (t : ℕ × ℤ). (is_product_column s t.0 ≡ false) × (list_any (names_any (nat_eq t.0)) kept ≡ true)) (λ (t : ℕ × ℤ). is_left_out s rows t.0 ≡ false) r.terms
    (λ t k. or_from (is_product_column s t.0) (is_some (product_of s rows t.0) && not (list_any (names_any (nat_eq t.0)) kept)) k.0
    (and_right (is_some (product_of s rows t.0)) (not (list_any (names_any (nat_eq t.0)) kept)) (not_from_true (list_any (names_any (nat_eq t.0)) kept) k.1)))
    (all_both (λ (t : ℕ × ℤ). is_product_column s t.0 ≡ false) (λ (t : ℕ × ℤ). list_any (names_any (nat_eq t.0)) kept ≡ true) r.terms h.0 h.1))
    (all_both (λ (r : LinearRow). AllByRecursion (λ (t : ℕ × ℤ). is_product_column s t.0 ≡ false) r.terms) (λ (r : LinearRow). AllByRecursion (λ (t : ℕ × ℤ). list_any (names_any (nat_eq t.0)) kept ≡ true) r.terms) kept
    (all_from (λ (r : LinearRow). not (names_any (is_product_column s) r) ≡ true) (λ (r : LinearRow). AllByRecursion (λ (t : ℕ × ℤ). is_product_column s t.0 ≡ false) r.terms) kept
    (λ r h. none_named (is_product_column s) r.terms (false_of_not (names_any (is_product_column s) r) h)) (filter_passes (λ (r : LinearRow). not (names_any (is_product_column s) r)) rows))
    (own_named kept (λ c. list_any (names_any (nat_eq c)) kept ≡ true) (λ c e. e)))
  where
    kept : List LinearRow
    kept = plain_rows s rows
