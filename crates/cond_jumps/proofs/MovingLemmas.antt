-- Rows, sums and conjunctions whose helpers are moved.
use Rattle.std.proofs.Common.{◌≡◌, ℕ, ◌+◌, ◌<◌, ◌≤◌, Bool, true, false, ℤ, pos, ◌+ℤ◌, ◌-ℤ◌, ◌*ℤ◌, neg_ℤ, List, [], ◌∷◌, ◌++◌, map, nat_eq, nat_lt, if◌then◌else◌, refl, sym, ◌∙◌, ap, subst, arith}
use Rattle.std.specs.Prelude.{unsigned_abs}
use Rattle.std.specs.List.{AllByRecursion}
use Rattle.std.proofs.lemmas.Bool.Decides.{nat_tests}
use Rattle.math_facts.specs.Fits.{Fits}
use Rattle.math_facts.specs.Terms.{scaled, opposite}
use Rattle.lin_rows.specs.declared.types.RowKind.{RowKind}
use Rattle.lin_rows.specs.declared.types.RowKind.TheVariants.{Le}
use Rattle.lin_rows.specs.Rows.{LinearRow, AscendsFrom, IsCoefficient, IsRow}
use Rattle.lin_rows.proofs.RowLemmas.{summed_of_terms}
use Rattle.lin_rows.specs.Sums.{is_zero, led_by, added_at, summed, row_of, SumsFit}
use Rattle.cond_jumps.specs.Forms.{Linear, Linears, linear_number, column, linear_negated, after, linear_over, linear_plus, linear_minus, linear_times, quotient_rows, over_quotient, linear_divided, remaining}
use Rattle.cond_jumps.specs.Moving.{moved_column, moved_terms, moved_row, moved_sum, IsEvenSum}
use Rattle.cond_jumps.specs.Ties.Totals.{AreTotals}
use Rattle.cond_jumps.proofs.TotalLemmas.{totals_sums_fit}

-- ---- columns

same_test : (w k c d : ℕ) → nat_eq (moved_column w k c) (moved_column w k d) ≡ nat_eq c d
same_test w k c d = grind (arith, nat_tests)

less_test : (w k c d : ℕ) → nat_lt (moved_column w k c) (moved_column w k d) ≡ nat_lt c d
less_test w k c d = grind (arith, nat_tests)

pub moved_before : (w k c : ℕ) → c < w → moved_column w k c ≡ c
moved_before w k c l = grind (arith, nat_tests)

pub moved_from : (w k c : ℕ) → w ≤ c → moved_column w k c ≡ c + k
moved_from w k c l = grind (arith, nat_tests)

-- ---- lists

pub map_append : {A B : Type 0} (f : A → B) (xs ys : List A) → map f (xs ++ ys) ≡ map f xs ++ map f ys
map_append f [] ys = refl
map_append f (x ∷ xs) ys = ap (λ l. f x ∷ l) (map_append f xs ys)

pub opposite-moved : (w k : ℕ) (ts : List (ℕ × ℤ)) → opposite (moved_terms w k ts) ≡ moved_terms w k (opposite ts)
opposite-moved w k [] = refl
opposite-moved w k (t ∷ ts) = ap (λ l. (moved_column w k t.0, neg_ℤ t.1) ∷ l) (opposite-moved w k ts)

pub scaled-moved : (w k : ℕ) (m : ℤ) (ts : List (ℕ × ℤ)) → scaled m (moved_terms w k ts) ≡ moved_terms w k (scaled m ts)
scaled-moved w k m [] = refl
scaled-moved w k m (t ∷ ts) = ap (λ l. (moved_column w k t.0, m *ℤ t.1) ∷ l) (scaled-moved w k m ts)

-- ---- rows

led_by-moved : (w k c : ℕ) (a : ℤ) (ts : List (ℕ × ℤ)) → led_by (moved_column w k c) a (moved_terms w k ts) ≡ moved_terms w k (led_by c a ts)
led_by-moved w k c a ts = by_test (is_zero a)
  where
    by_test : (b : Bool) → (if b then moved_terms w k ts else (moved_column w k c, a) ∷ moved_terms w k ts) ≡ moved_terms w k (if b then ts else (c, a) ∷ ts)
    by_test true = refl
    by_test false = refl

added_at-moved : (w k c : ℕ) (a : ℤ) (ts : List (ℕ × ℤ)) → added_at (moved_column w k c) a (moved_terms w k ts) ≡ moved_terms w k (added_at c a ts)
added_at-moved w k c a [] = led_by-moved w k c a []
added_at-moved w k c a (t ∷ ts) =
    rw (less_test w k c t.0, same_test w k c t.0) (by_tests (nat_lt c t.0) (nat_eq c t.0) (added_at-moved w k c a ts))
  where
    by_tests : (x y : Bool) → added_at (moved_column w k c) a (moved_terms w k ts) ≡ moved_terms w k (added_at c a ts) →
        (if x then led_by (moved_column w k c) a (moved_terms w k (t ∷ ts))
        else (if y then led_by (moved_column w k c) (t.1 +ℤ a) (moved_terms w k ts) else (moved_column w k t.0, t.1) ∷ added_at (moved_column w k c) a (moved_terms w k ts)))
        ≡ moved_terms w k (if x then led_by c a (t ∷ ts) else (if y then led_by c (t.1 +ℤ a) ts else t ∷ added_at c a ts))
    by_tests true y h = led_by-moved w k c a (t ∷ ts)
    by_tests false true h = led_by-moved w k c (t.1 +ℤ a) ts
    by_tests false false h = ap (λ l. (moved_column w k t.0, t.1) ∷ l) h

pub summed-moved : (w k : ℕ) (ts : List (ℕ × ℤ)) → summed (moved_terms w k ts) ≡ moved_terms w k (summed ts)
summed-moved w k [] = refl
summed-moved w k (t ∷ ts) =
    ap (λ (l : List (ℕ × ℤ)). added_at (moved_column w k t.0) t.1 l) (summed-moved w k ts) ∙ added_at-moved w k t.0 t.1 (summed ts)

-- the row of moved terms
pub row_of-moved : (w k : ℕ) (ts us : List (ℕ × ℤ)) (kind : RowKind) (bound : ℤ) → us ≡ moved_terms w k ts → row_of us kind bound ≡ moved_row w k (row_of ts kind bound)
row_of-moved w k ts us kind bound e =
    let f : summed us ≡ moved_terms w k (summed ts) = ap summed e ∙ summed-moved w k ts in
    λ i. record { terms = f i; kind = kind; bound = bound }

-- ---- sums

pub same_linear : (x y : Linear) → x.terms ≡ y.terms → x.constant ≡ y.constant → x.rows ≡ y.rows → x.helpers ≡ y.helpers → x ≡ y
same_linear x y t c r h = λ i. record { terms = t i; constant = c i; rows = r i; helpers = h i }

pub number_even : (w : ℕ) (z : ℤ) → IsEvenSum w (linear_number z)
number_even w z n k l = refl

pub column_even : (w c : ℕ) → c < w → IsEvenSum w (column c)
column_even w c inside n k l =
    let e : c ≡ moved_column w k c = sym (moved_before w k c inside) in
    same_linear (column c (n + k)) (moved_sum w k (column c n)) (ap (λ (d : ℕ). (d, pos 1) ∷ []) e) refl refl refl

pub negated_even : (w : ℕ) (a : Linears) → IsEvenSum w a → IsEvenSum w (linear_negated a)
negated_even w a h n k l =
    let F : Linear → Linear = λ x. record x { terms = opposite x.terms; constant = neg_ℤ x.constant } in
    ap F (h n k l) ∙ same_linear (F (moved_sum w k (a n))) (moved_sum w k (F (a n))) (opposite-moved w k (a n).terms) refl refl refl

pub after_even : (w : ℕ) (a b : Linears) → IsEvenSum w a → IsEvenSum w b → IsEvenSum w (after a b)
after_even w a b h i n k l =
    let e : (a (n + k)).helpers ≡ (a n).helpers = ap (λ (x : Linear). x.helpers) (h n k l) in
    let f : n + k + (a (n + k)).helpers ≡ n + (a n).helpers + k = omega arith in
    ap b f ∙ i (n + (a n).helpers) k (omega arith)

-- a sum over two
over_even : (w : ℕ) (a b : Linears) (terms : Linear → Linear → List (ℕ × ℤ)) (constant : Linear → Linear → ℤ) → IsEvenSum w a → IsEvenSum w b →
    ((k : ℕ) (x y : Linear) → terms (moved_sum w k x) (moved_sum w k y) ≡ moved_terms w k (terms x y)) →
    ((k : ℕ) (x y : Linear) → constant (moved_sum w k x) (moved_sum w k y) ≡ constant x y) →
    IsEvenSum w (λ n. linear_over (a n) (after a b n) (terms (a n) (after a b n)) (constant (a n) (after a b n)))
over_even w a b terms constant h i t c n k l =
    let F : Linear → Linear → Linear = λ x y. linear_over x y (terms x y) (constant x y) in
    let e : a (n + k) ≡ moved_sum w k (a n) = h n k l in
    let f : after a b (n + k) ≡ moved_sum w k (after a b n) = after_even w a b h i n k l in
    let x : Linear = a n in
    let y : Linear = after a b n in
    let j : F (a (n + k)) (after a b (n + k)) ≡ F (moved_sum w k x) (moved_sum w k y) = (λ d. F (e d) (f d)) in
    j ∙ same_linear (F (moved_sum w k x) (moved_sum w k y)) (moved_sum w k (F x y)) (t k x y) (c k x y) (sym (map_append (moved_row w k) x.rows y.rows)) refl

pub plus_even : (w : ℕ) (a b : Linears) → IsEvenSum w a → IsEvenSum w b → IsEvenSum w (linear_plus a b)
plus_even w a b h i =
    over_even w a b (λ x y. x.terms ++ y.terms) (λ x y. x.constant +ℤ y.constant) h i
    (λ k x y. sym (map_append (λ (t : ℕ × ℤ). (moved_column w k t.0, t.1)) x.terms y.terms)) (λ k x y. refl)

-- the terms of a difference
pub difference-moved : (w k : ℕ) (x y : Linear) → moved_terms w k x.terms ++ opposite (moved_terms w k y.terms) ≡ moved_terms w k (x.terms ++ opposite y.terms)
difference-moved w k x y =
    ap (λ (l : List (ℕ × ℤ)). moved_terms w k x.terms ++ l) (opposite-moved w k y.terms)
    ∙ sym (map_append (λ (t : ℕ × ℤ). (moved_column w k t.0, t.1)) x.terms (opposite y.terms))

pub minus_even : (w : ℕ) (a b : Linears) → IsEvenSum w a → IsEvenSum w b → IsEvenSum w (linear_minus a b)
minus_even w a b h i =
    over_even w a b (λ x y. x.terms ++ opposite y.terms) (λ x y. x.constant -ℤ y.constant) h i (λ k x y. difference-moved w k x y) (λ k x y. refl)

pub times_even : (w : ℕ) (m l : ℤ) (a b : Linears) → IsEvenSum w a → IsEvenSum w b → IsEvenSum w (linear_times m l a b)
times_even w m l a b h i =
    over_even w a b (λ x y. scaled m y.terms ++ scaled l x.terms) (λ x y. ((m *ℤ y.constant) +ℤ (l *ℤ x.constant)) -ℤ (m *ℤ l)) h i
    (λ k x y.
    (λ d. scaled-moved w k m y.terms d ++ scaled-moved w k l x.terms d)
    ∙ sym (map_append (λ (t : ℕ × ℤ). (moved_column w k t.0, t.1)) (scaled m y.terms) (scaled l x.terms)))
    (λ k x y. refl)

-- ---- quotients

rest-moved : (w k : ℕ) (z : ℤ) (ts : List (ℕ × ℤ)) (q r : ℕ) → r ≡ moved_column w k q →
    moved_terms w k ts ++ (r, z) ∷ [] ≡ moved_terms w k (ts ++ (q, z) ∷ [])
rest-moved w k z ts q r e =
    ap (λ (c : ℕ). moved_terms w k ts ++ (c, z) ∷ []) e ∙ sym (map_append (λ (t : ℕ × ℤ). (moved_column w k t.0, t.1)) ts ((q, z) ∷ []))

quotient_rows-moved : (w k : ℕ) (m : ℤ) (x : Linear) (q r : ℕ) → r ≡ moved_column w k q →
    quotient_rows m (moved_sum w k x) r ≡ map (moved_row w k) (quotient_rows m x q)
quotient_rows-moved w k m x q r e =
    let first = row_of-moved w k ((q, m) ∷ opposite x.terms) ((r, m) ∷ opposite (moved_terms w k x.terms)) Le x.constant
    (ap (λ (c : ℕ). (c, m) ∷ opposite (moved_terms w k x.terms)) e ∙ ap (λ (l : List (ℕ × ℤ)). (moved_column w k q, m) ∷ l) (opposite-moved w k x.terms)) in
    let second = row_of-moved w k (x.terms ++ (q, neg_ℤ m) ∷ []) (moved_terms w k x.terms ++ (r, neg_ℤ m) ∷ []) Le ((pos (unsigned_abs m) -ℤ pos 1) -ℤ x.constant)
    (rest-moved w k (neg_ℤ m) x.terms q r e) in
    λ i. first i ∷ second i ∷ []

-- a sum over a quotient
over_quotient_even : (w : ℕ) (m : ℤ) (a : Linears) (terms : Linear → ℕ → List (ℕ × ℤ)) (constant : Linear → ℤ) → IsEvenSum w a →
    ((k q r : ℕ) (x : Linear) → r ≡ moved_column w k q → terms (moved_sum w k x) r ≡ moved_terms w k (terms x q)) →
    ((k : ℕ) (x : Linear) → constant (moved_sum w k x) ≡ constant x) →
    IsEvenSum w (λ n. over_quotient m (a n) (n + (a n).helpers) (terms (a n) (n + (a n).helpers)) (constant (a n)))
over_quotient_even w m a terms constant h t c n k l =
    let F : Linear → ℕ → Linear = λ x q. over_quotient m x q (terms x q) (constant x) in
    let x : Linear = a n in
    let e : a (n + k) ≡ moved_sum w k x = h n k l in
    let q : ℕ = n + x.helpers in
    let r : ℕ = n + k + (a (n + k)).helpers in
    let f : (a (n + k)).helpers ≡ x.helpers = ap (λ (y : Linear). y.helpers) e in
    let g : r ≡ moved_column w k q = (let u : moved_column w k q ≡ q + k = moved_from w k q (omega arith) in omega arith) in
    ap (λ (y : Linear). F y r) e
    ∙ same_linear (F (moved_sum w k x) r) (moved_sum w k (F x q)) (t k q r x g) (c k x)
    (ap (λ (rows : List LinearRow). map (moved_row w k) x.rows ++ rows) (quotient_rows-moved w k m x q r g)
    ∙ sym (map_append (moved_row w k) x.rows (quotient_rows m x q)))
    refl

pub divided_even : (w : ℕ) (m : ℤ) (a : Linears) → IsEvenSum w a → IsEvenSum w (linear_divided m a)
divided_even w m a h =
    over_quotient_even w m a (λ x q. (q, pos 1) ∷ []) (λ x. pos 0) h (λ k q r x e. ap (λ (c : ℕ). (c, pos 1) ∷ []) e) (λ k x. refl)

pub remaining_even : (w : ℕ) (m : ℤ) (a : Linears) → IsEvenSum w a → IsEvenSum w (remaining m a)
remaining_even w m a h =
    over_quotient_even w m a (λ x q. x.terms ++ (q, neg_ℤ m) ∷ []) (λ x. x.constant) h (λ k q r x e. rest-moved w k (neg_ℤ m) x.terms q r e) (λ k x. refl)

-- a row made from the moved terms of a row
pub moved_made : (w k : ℕ) (r made : LinearRow) (us ts gs : List (ℕ × ℤ)) (kind : RowKind) (bound : ℤ) → IsRow r → made ≡ row_of us kind bound → us ≡ ts →
    ts ≡ moved_terms w k gs → gs ≡ r.terms → kind ≡ r.kind → bound ≡ r.bound → made ≡ moved_row w k r
moved_made w k r made us ts gs kind bound v m e f g h i =
    let a : us ≡ moved_terms w k r.terms = e ∙ f ∙ ap (moved_terms w k) g in
    let b : summed us ≡ moved_terms w k r.terms = ap summed a ∙ summed-moved w k r.terms ∙ ap (moved_terms w k) (summed_of_terms r v) in
    let n : row_of us kind bound ≡ moved_row w k r = (λ j. record { terms = b j; kind = h j; bound = i j }) in
    m ∙ n

-- ---- moved terms make a row

-- columns stay in order
moved_column_more : (w k a b : ℕ) → a ≤ b → moved_column w k a ≤ moved_column w k b
moved_column_more w k a b l = grind (arith, nat_tests)

moved_column_next : (w k a : ℕ) → moved_column w k a + 1 ≤ moved_column w k (a + 1)
moved_column_next w k a = grind (arith, nat_tests)

ascends_moved : (w k c d : ℕ) (ts : List (ℕ × ℤ)) → d ≤ moved_column w k c → AscendsFrom c ts → AscendsFrom d (moved_terms w k ts)
ascends_moved w k c d [] l a = tt
ascends_moved w k c d (t ∷ ts) l a =
    let m : moved_column w k c ≤ moved_column w k t.0 = moved_column_more w k c t.0 a.0 in
    (omega arith, ascends_moved w k (t.0 + 1) (moved_column w k t.0 + 1) ts (moved_column_next w k t.0) a.1)

moved_fit : (w k : ℕ) (ts : List (ℕ × ℤ)) → AllByRecursion IsCoefficient ts → AllByRecursion (λ t. Fits t.1) (moved_terms w k ts)
moved_fit w k [] h = tt
moved_fit w k (t ∷ ts) h = (h.0.fits, moved_fit w k ts h.1)

-- the sums of moved terms of a row fit
pub moved_sums_fit : (w k : ℕ) (r : LinearRow) (us ts gs : List (ℕ × ℤ)) (bound : ℤ) → IsRow r → us ≡ ts → ts ≡ moved_terms w k gs → gs ≡ r.terms → bound ≡ r.bound → SumsFit us bound
moved_sums_fit w k r us ts gs bound v e f g b =
    let ms : List (ℕ × ℤ) = moved_terms w k r.terms in
    let h : AreTotals ms ms = record { ascends = ascends_moved w k 0 0 r.terms (omega arith) v.ascends; fit = moved_fit w k r.terms v.coefficients; same = λ c. refl } in
    let i : us ≡ ms = e ∙ f ∙ ap (moved_terms w k) g in
    let P : List (ℕ × ℤ) → Type 0 = λ l. SumsFit l bound in
    subst P (sym i) (totals_sums_fit ms ms bound h (subst Fits (sym b) v.bound_fits))
