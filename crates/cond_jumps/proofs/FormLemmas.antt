-- Sums with helpers: what they are worth when they are added, multiplied and divided.
use Rattle.std.proofs.Common.{◌≡◌, ◌⊎◌, inl, inr, ℕ, ◌+◌, ◌<◌, ◌≤◌, ℤ, ◌+ℤ◌, ◌-ℤ◌, ◌*ℤ◌, neg_ℤ, Bool, true, false, List, [], ◌∷◌, ◌++◌, nat_eq, nat_lt, if◌then◌else◌, refl, sym, ◌∙◌, ap, subst, arith}
use Rattle.std.proofs.lemmas.Int.{ints}
use Rattle.math_facts.specs.Terms.{dot, scaled, opposite, IsBelow}
use Rattle.math_facts.proofs.Whole.{distrib_left, product_comm}
use Rattle.math_facts.proofs.TermLaws.{dot-append, dot-scaled, dot-opposite, IsBelow_more, IsBelow-append, IsBelow-scaled, IsBelow-opposite}
use Rattle.lin_rows.specs.declared.types.RowKind.{RowKind}
use Rattle.lin_rows.specs.Rows.{LinearRow, Stands, Holds, RowsBelow}
use Rattle.lin_rows.specs.Sums.{is_zero as sum_is_zero, led_by, added_at, row_of, summed}
use Rattle.lin_rows.proofs.SummedLaws.{dot-summed}
use Rattle.cond_jumps.specs.Forms.{Linear, Linears, amount, linear_number, column, linear_negated, after, linear_over, linear_plus, linear_minus, linear_times}
use Rattle.cond_jumps.specs.Meaning.{Agrees, AllHold, Sole}
use Rattle.cond_jumps.specs.Worth.{IsWorth, IsNarrow, IsSum}
use Rattle.cond_jumps.proofs.MeaningLemmas.{agrees_refl, agrees_on, all_hold_same, all_below_more, hold_append, hold_left, hold_right, below_append, sole_append}

-- ---- rows of given terms

-- which columns a row of given terms names
below-led_by : (n c : ℕ) (a : ℤ) (ts : List (ℕ × ℤ)) → c < n → IsBelow n ts → IsBelow n (led_by c a ts)
below-led_by n c a ts l h = by_test (sum_is_zero a)
  where
    by_test : (b : Bool) → IsBelow n (if b then ts else (c, a) ∷ ts)
    by_test true = h
    by_test false = (l, h)

below-added_at : (n c : ℕ) (a : ℤ) (ts : List (ℕ × ℤ)) → c < n → IsBelow n ts → IsBelow n (added_at c a ts)
below-added_at n c a [] l h = below-led_by n c a [] l h
below-added_at n c a (t ∷ ts) l h = by_tests (nat_lt c t.0) (nat_eq c t.0) (below-added_at n c a ts l h.1)
  where
    by_tests : (x y : Bool) → IsBelow n (added_at c a ts) → IsBelow n (if x then led_by c a (t ∷ ts) else (if y then led_by c (t.1 +ℤ a) ts else t ∷ added_at c a ts))
    by_tests true y k = below-led_by n c a (t ∷ ts) l h
    by_tests false true k = below-led_by n c (t.1 +ℤ a) ts l h.1
    by_tests false false k = (h.0, k)

pub below-summed : (n : ℕ) (ts : List (ℕ × ℤ)) → IsBelow n ts → IsBelow n (summed ts)
below-summed n [] h = tt
below-summed n (t ∷ ts) h = below-added_at n t.0 t.1 (summed ts) h.0 (below-summed n ts h.1)

-- the row of given terms holds where their value meets the bound
pub row_holds : (p : ℕ → ℤ) (ts : List (ℕ × ℤ)) (kind : RowKind) (bound : ℤ) → Stands kind (dot p ts) bound → Holds p (row_of ts kind bound)
row_holds p ts kind bound h = let P : ℤ → Type 0 = λ z. Stands kind z bound in subst P (sym (dot-summed p ts)) h

pub row_held : (p : ℕ → ℤ) (ts : List (ℕ × ℤ)) (kind : RowKind) (bound : ℤ) → Holds p (row_of ts kind bound) → Stands kind (dot p ts) bound
row_held p ts kind bound h = let P : ℤ → Type 0 = λ z. Stands kind z bound in subst P (dot-summed p ts) h

-- ---- simple sums

worth_of_plain : (n : ℕ) (q : ℕ → ℤ) (x : Linear) (v : ℤ) → x.rows ≡ [] → x.helpers ≡ 0 →
    ((r : ℕ → ℤ) → Agrees n q r → amount r x ≡ v) → IsWorth n q x v
worth_of_plain n q x v e f h =
    let P : List LinearRow → Type 0 = λ rows. AllHold q rows in
    record {
      some = (q, agrees_refl n q, subst P (sym e) tt, h q (agrees_refl n q));
      each = λ r a i. h r a;
      sole = λ r t a b i j.
          record {
            same = λ c l.
                let k : c < n = omega (arith, f) in
                b.same c k ∙ sym (a.same c k);
          };
    }

pub number_sum : (w : ℕ) (p : ℕ → ℤ) (k : ℤ) → IsSum w p (linear_number k) k
number_sum w p k =
    record {
      narrow = λ n l. record { terms = tt; rows = tt };
      worth = λ n q l a. worth_of_plain n q (linear_number k n) k refl refl (λ r b. omega (arith, ints));
    }

pub column_sum : (w : ℕ) (p : ℕ → ℤ) (c : ℕ) → c < w → IsSum w p (column c) (p c)
column_sum w p c inside =
    record {
      narrow = λ n l. record { terms = (omega arith, tt); rows = tt };
      worth = λ n q l a. worth_of_plain n q (column c n) (p c) refl refl
          (λ r b.
          let e : r c ≡ p c = b.same c (omega arith) ∙ a.same c inside in
          omega (arith, ints));
    }

pub negated_sum : (w : ℕ) (p : ℕ → ℤ) (a : Linears) (v : ℤ) → IsSum w p a v → IsSum w p (linear_negated a) (neg_ℤ v)
negated_sum w p a v h =
    record {
      narrow = λ n l. let x = h.narrow n l in record { terms = IsBelow-opposite (n + (a n).helpers) (a n).terms x.terms; rows = x.rows };
      worth = λ n q l s.
          let x = h.worth n q l s in
          record {
            some = let r = x.some in (r.0, r.1, r.2, turned (r.0) (a n) v r.3);
            each = λ r t i. turned r (a n) v (x.each r t i);
            sole = x.sole;
          };
    }
  where
    turned : (r : ℕ → ℤ) (x : Linear) (v : ℤ) → amount r x ≡ v → dot r (opposite x.terms) +ℤ neg_ℤ x.constant ≡ neg_ℤ v
    turned r x v e = let d : dot r (opposite x.terms) ≡ neg_ℤ (dot r x.terms) = dot-opposite r x.terms in omega (arith, ints)

-- ---- two sums, the helpers of the second after those of the first

-- at points that are q below n, helpers exist with which both have their values; they have them with whatever helpers
-- meet the rows, and these are unique
pub record ArePair (n : ℕ) (q : ℕ → ℤ) (x y : Linear) (u v : ℤ) : Type 0 where
  pub some : (r : ℕ → ℤ) × Agrees n q r × AllHold r (x.rows ++ y.rows) × (amount r x ≡ u) × (amount r y ≡ v)
  pub each : (r : ℕ → ℤ) → Agrees n q r → AllHold r (x.rows ++ y.rows) → (amount r x ≡ u) × (amount r y ≡ v)
  pub sole : Sole n (n + (x.helpers + y.helpers)) q (x.rows ++ y.rows)

-- the second sum from the first one's helpers on
pub later_worth : (w : ℕ) (p : ℕ → ℤ) (a b : Linears) (v : ℤ) → IsSum w p b v → (n : ℕ) (q r : ℕ → ℤ) → w ≤ n → Agrees w p q → Agrees n q r →
    IsWorth (n + (a n).helpers) r (after a b n) v
later_worth w p a b v h n q r l s t = h.worth (n + (a n).helpers) r (omega arith) (agrees_on w n p q r l s t)

pub pair : (w : ℕ) (p : ℕ → ℤ) (a b : Linears) (u v : ℤ) → IsSum w p a u → IsSum w p b v →
    (n : ℕ) (q : ℕ → ℤ) → w ≤ n → Agrees w p q → ArePair n q (a n) (after a b n) u v
pair w p a b u v h k n q l s =
    let x : Linear = a n in
    let y : Linear = after a b n in
    let m : ℕ = n + x.helpers in
    let i : IsWorth n q x u = h.worth n q l s in
    record {
      some =
          let r = i.some in
          let j : IsWorth m r.0 y v = later_worth w p a b v k n q r.0 l s r.1 in
          let t = j.some in
          let g : AllHold t.0 x.rows = all_hold_same m r.0 t.0 x.rows t.1 (h.narrow n l).rows r.2 in
          let f : Agrees n q t.0 = agrees_on n m q r.0 t.0 (omega arith) r.1 t.1 in
          (t.0, f, hold_append t.0 x.rows y.rows g t.2, i.each t.0 f g, t.3);
      each = λ r t g. (
        i.each r t (hold_left r x.rows y.rows g),
        (later_worth w p a b v k n q r l s t).each r (agrees_refl m r) (hold_right r x.rows y.rows g),
      );
      sole =
          let e : m + y.helpers ≡ n + (x.helpers + y.helpers) = omega arith in
          let P : ℕ → Type 0 = λ z. Sole n z q (x.rows ++ y.rows) in
          subst P e (sole_append n m (m + y.helpers) q x.rows y.rows i.sole (λ r t g. (later_worth w p a b v k n q r l s t).sole));
    }

-- the columns that both name
pub record AreNarrow (m : ℕ) (x y : Linear) : Type 0 where
  pub first : IsBelow m x.terms
  pub second : IsBelow m y.terms
  pub rows : RowsBelow m (x.rows ++ y.rows)

pub narrow_pair : (w : ℕ) (p : ℕ → ℤ) (a b : Linears) (u v : ℤ) → IsSum w p a u → IsSum w p b v → (n : ℕ) → w ≤ n →
    AreNarrow (n + ((a n).helpers + (after a b n).helpers)) (a n) (after a b n)
narrow_pair w p a b u v h k n l =
    let x : Linear = a n in
    let y : Linear = after a b n in
    let m : ℕ = n + x.helpers in
    let i : IsNarrow n x = h.narrow n l in
    let j : IsNarrow m y = k.narrow m (omega arith) in
    let e : m + y.helpers ≡ n + (x.helpers + y.helpers) = omega arith in
    let P : ℕ → Type 0 = λ z. IsBelow z y.terms in
    let R : ℕ → Type 0 = λ z. RowsBelow z y.rows in
    record {
      first = IsBelow_more m (n + (x.helpers + y.helpers)) x.terms (omega arith) i.terms;
      second = subst P e j.terms;
      rows = below_append (n + (x.helpers + y.helpers)) x.rows y.rows
          (all_below_more m (n + (x.helpers + y.helpers)) x.rows (omega arith) i.rows) (subst R e j.rows);
    }

-- a sum over both, from what it is worth where they have their values
pub over_sum : (w : ℕ) (p : ℕ → ℤ) (a b : Linears) (u v z : ℤ) (terms : ℕ → List (ℕ × ℤ)) (constant : ℕ → ℤ) → IsSum w p a u → IsSum w p b v →
    ((n m : ℕ) → w ≤ n → AreNarrow m (a n) (after a b n) → IsBelow m (terms n)) →
    ((n : ℕ) (r : ℕ → ℤ) → amount r (a n) ≡ u → amount r (after a b n) ≡ v → dot r (terms n) +ℤ constant n ≡ z) →
    IsSum w p (λ n. linear_over (a n) (after a b n) (terms n) (constant n)) z
over_sum w p a b u v z terms constant h k narrow worth =
    record {
      narrow = λ n l.
          let m : AreNarrow (n + ((a n).helpers + (after a b n).helpers)) (a n) (after a b n) = narrow_pair w p a b u v h k n l in
          record { terms = narrow n (n + ((a n).helpers + (after a b n).helpers)) l m; rows = m.rows };
      worth = λ n q l s.
          let x : ArePair n q (a n) (after a b n) u v = pair w p a b u v h k n q l s in
          record {
            some = let r = x.some in (r.0, r.1, r.2, worth n r.0 r.3 r.4);
            each = λ r t g. let e = x.each r t g in worth n r e.0 e.1;
            sole = x.sole;
          };
    }

pub plus_sum : (w : ℕ) (p : ℕ → ℤ) (a b : Linears) (u v : ℤ) → IsSum w p a u → IsSum w p b v → IsSum w p (linear_plus a b) (u +ℤ v)
plus_sum w p a b u v h k =
    over_sum w p a b u v (u +ℤ v) (λ n. (a n).terms ++ (after a b n).terms) (λ n. (a n).constant +ℤ (after a b n).constant) h k
    (λ n m l i. IsBelow-append m (a n).terms (after a b n).terms i.first i.second)
    (λ n r e f. let d = dot-append r (a n).terms (after a b n).terms in omega (arith, ints, d))

pub minus_sum : (w : ℕ) (p : ℕ → ℤ) (a b : Linears) (u v : ℤ) → IsSum w p a u → IsSum w p b v → IsSum w p (linear_minus a b) (u -ℤ v)
minus_sum w p a b u v h k =
    over_sum w p a b u v (u -ℤ v) (λ n. (a n).terms ++ opposite (after a b n).terms) (λ n. (a n).constant -ℤ (after a b n).constant) h k
    (λ n m l i. IsBelow-append m (a n).terms (opposite (after a b n).terms) i.first (IsBelow-opposite m (after a b n).terms i.second))
    (λ n r e f.
    let d = dot-append r (a n).terms (opposite (after a b n).terms) in
    let g = dot-opposite r (after a b n).terms in
    omega (arith, ints, d, g))

-- k times an amount
scaled_amount : (r : ℕ → ℤ) (k : ℤ) (x : Linear) (v : ℤ) → amount r x ≡ v → dot r (scaled k x.terms) +ℤ (k *ℤ x.constant) ≡ k *ℤ v
scaled_amount r k x v e =
    let d : dot r (scaled k x.terms) ≡ k *ℤ dot r x.terms = dot-scaled r k x.terms in
    let f : k *ℤ (dot r x.terms +ℤ x.constant) ≡ (k *ℤ dot r x.terms) +ℤ (k *ℤ x.constant) = distrib_left k (dot r x.terms) x.constant in
    let g : k *ℤ (dot r x.terms +ℤ x.constant) ≡ k *ℤ v = ap (λ (z : ℤ). k *ℤ z) e in
    omega (arith, ints)

-- the value of a product, where one factor is its constant
pub times_sum : (w : ℕ) (p : ℕ → ℤ) (k l : ℤ) (a b : Linears) (u v : ℤ) → (u ≡ k) ⊎ (v ≡ l) → IsSum w p a u → IsSum w p b v → IsSum w p (linear_times k l a b) (u *ℤ v)
times_sum w p k l a b u v c h i =
    over_sum w p a b u v (u *ℤ v) (λ n. scaled k (after a b n).terms ++ scaled l (a n).terms) (λ n. ((k *ℤ (after a b n).constant) +ℤ (l *ℤ (a n).constant)) -ℤ (k *ℤ l)) h i
    (λ n m z j. IsBelow-append m (scaled k (after a b n).terms) (scaled l (a n).terms) (IsBelow-scaled m k (after a b n).terms j.second) (IsBelow-scaled m l (a n).terms j.first))
    (λ n r e f.
    let d = dot-append r (scaled k (after a b n).terms) (scaled l (a n).terms) in
    let x = scaled_amount r k (after a b n) v f in
    let y = scaled_amount r l (a n) u e in
    let z : ((k *ℤ v) +ℤ (l *ℤ u)) -ℤ (k *ℤ l) ≡ u *ℤ v = one_constant c in
    omega (arith, ints, d, x, y, z))
  where
    one_constant : (u ≡ k) ⊎ (v ≡ l) → ((k *ℤ v) +ℤ (l *ℤ u)) -ℤ (k *ℤ l) ≡ u *ℤ v
    one_constant (inl e) =
        let x : k *ℤ v ≡ u *ℤ v = ap (λ (z : ℤ). z *ℤ v) (sym e) in
        let y : l *ℤ u ≡ k *ℤ l = ap (λ (z : ℤ). l *ℤ z) e ∙ product_comm l k in
        omega (arith, ints)
    one_constant (inr e) =
        let x : k *ℤ v ≡ k *ℤ l = ap (λ (z : ℤ). k *ℤ z) e in
        let y : l *ℤ u ≡ u *ℤ v = ap (λ (z : ℤ). z *ℤ u) (sym e) ∙ product_comm v u in
        omega (arith, ints)
