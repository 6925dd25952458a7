-- Quotients and remainders as sums with a helper.
use Rattle.std.proofs.Common.{◌≡◌, ⊎_elim, ℕ, ◌+◌, ◌<◌, ◌≤◌, ℤ, pos, ◌+ℤ◌, ◌-ℤ◌, ◌*ℤ◌, neg_ℤ, ◌≤ℤ◌, false, List, [], ◌∷◌, ◌++◌, sym, ◌∙◌, ap, subst, arith}
use Rattle.std.specs.Prelude.{unsigned_abs}
use Rattle.std.proofs.lemmas.Int.{ints}
use Rattle.std.proofs.lemmas.Bool.{cases_lt}
use Rattle.math_facts.specs.Terms.{dot, opposite, IsBelow, with_value}
use Rattle.math_facts.proofs.Whole.{product_neg_left}
use Rattle.math_facts.proofs.TermLaws.{dot-append, dot-opposite, dot-with_value, IsBelow_more, IsBelow-append, IsBelow-opposite, with_value_here, with_value_other}
use Rattle.lin_rows.specs.declared.types.RowKind.TheVariants.{Le}
use Rattle.lin_rows.specs.Rows.{RowsBelow}
use Rattle.typed_tree.specs.Values.{value_is_zero, div_of, mod_of}
use Rattle.typed_tree.proofs.Euclidean.{euclidean}
use Rattle.cond_jumps.specs.Forms.{Linear, Linears, amount, quotient_rows, over_quotient, linear_divided, remaining}
use Rattle.cond_jumps.specs.Meaning.{Agrees, AllHold, Sole}
use Rattle.cond_jumps.specs.Worth.{IsWorth, IsNarrow, IsSum}
use Rattle.cond_jumps.proofs.MeaningLemmas.{agrees_on, all_hold_same, all_below_more, hold_append, hold_left, hold_right, below_append}
use Rattle.cond_jumps.proofs.QuotientLemmas.{IsBetween, quotient_between, between_once}
use Rattle.cond_jumps.proofs.FormLemmas.{below-summed, row_holds, row_held}

dot-rest : (r : ℕ → ℤ) (k : ℤ) (x : Linear) (q : ℕ) → dot r (x.terms ++ (q, neg_ℤ k) ∷ []) ≡ dot r x.terms -ℤ (k *ℤ r q)
dot-rest r k x q =
    let d = dot-append r x.terms ((q, neg_ℤ k) ∷ []) in
    let e : neg_ℤ k *ℤ r q ≡ neg_ℤ (k *ℤ r q) = product_neg_left k (r q) in
    omega (arith, ints, d)

-- the two rows hold where the helper is between
quotient_hold : (r : ℕ → ℤ) (k : ℤ) (x : Linear) (q : ℕ) (v : ℤ) → amount r x ≡ v → IsBetween k v (r q) → AllHold r (quotient_rows k x q)
quotient_hold r k x q v e b =
    let d = dot-opposite r x.terms in
    let f = dot-rest r k x q in
    let l : (k *ℤ r q) ≤ℤ v = b.low in
    let h : (v -ℤ (k *ℤ r q)) ≤ℤ (pos (unsigned_abs k) -ℤ pos 1) = b.high in (
      row_holds r ((q, k) ∷ opposite x.terms) Le x.constant (omega (arith, ints, d)),
      (row_holds r (x.terms ++ (q, neg_ℤ k) ∷ []) Le ((pos (unsigned_abs k) -ℤ pos 1) -ℤ x.constant) (omega (arith, ints, f)), tt),
    )

quotient_held : (r : ℕ → ℤ) (k : ℤ) (x : Linear) (q : ℕ) (v : ℤ) → amount r x ≡ v → AllHold r (quotient_rows k x q) → IsBetween k v (r q)
quotient_held r k x q v e h =
    let d = dot-opposite r x.terms in
    let f = dot-rest r k x q in
    let i = row_held r ((q, k) ∷ opposite x.terms) Le x.constant h.0 in
    let j = row_held r (x.terms ++ (q, neg_ℤ k) ∷ []) Le ((pos (unsigned_abs k) -ℤ pos 1) -ℤ x.constant) h.1.0 in
    record { low = omega (arith, ints, d, i); high = omega (arith, ints, f, j) }

quotient_below : (m : ℕ) (k : ℤ) (x : Linear) (q : ℕ) → q < m → IsBelow m x.terms → RowsBelow m (quotient_rows k x q)
quotient_below m k x q l b = (
  below-summed m ((q, k) ∷ opposite x.terms) (l, IsBelow-opposite m x.terms b),
  (below-summed m (x.terms ++ (q, neg_ℤ k) ∷ []) (IsBelow-append m x.terms ((q, neg_ℤ k) ∷ []) b (l, tt)), tt),
)

-- at points that are q below n: the helpers of a sum and its quotient exist, are unique, and the quotient is the one of the sum's value
pub record IsDivision (n : ℕ) (q : ℕ → ℤ) (k : ℤ) (x : Linear) (v : ℤ) : Type 0 where
  pub some : (r : ℕ → ℤ) × Agrees n q r × AllHold r (x.rows ++ quotient_rows k x (n + x.helpers))
  pub each : (r : ℕ → ℤ) → Agrees n q r → AllHold r (x.rows ++ quotient_rows k x (n + x.helpers)) →
      (amount r x ≡ v) × (r (n + x.helpers) ≡ div_of v k)
  pub sole : Sole n (n + (x.helpers + 1)) q (x.rows ++ quotient_rows k x (n + x.helpers))

with_quotient : (n : ℕ) (r : ℕ → ℤ) (d : ℤ) → Agrees n r (with_value r n d)
with_quotient n r d = record { same = λ c l. with_value_other r n d c (λ (u : n ≡ c). omega arith) }

amount_same : (r : ℕ → ℤ) (x : Linear) (c : ℕ) (d : ℤ) → IsBelow c x.terms → amount (with_value r c d) x ≡ amount r x
amount_same r x c d b = ap (λ (z : ℤ). z +ℤ x.constant) (dot-with_value r c d x.terms b)

agrees_one_more : (n : ℕ) (p q : ℕ → ℤ) → Agrees n p q → q n ≡ p n → Agrees (n + 1) p q
agrees_one_more n p q a e =
    record { same = λ c l. ⊎_elim (λ (k : c < n). a.same c k) (λ (k : n ≤ c). at_end n p q e c (omega arith)) (cases_lt c n) }
  where
    at_end : (n : ℕ) (p q : ℕ → ℤ) → q n ≡ p n → (c : ℕ) → c ≡ n → q c ≡ p c
    at_end n p q e c f = let P : ℕ → Type 0 = λ m. q m ≡ p m in subst P (sym f) e

pub division : (w : ℕ) (p : ℕ → ℤ) (k : ℤ) (a : Linears) (v : ℤ) → value_is_zero k ≡ false → IsSum w p a v →
    (n : ℕ) (q : ℕ → ℤ) → w ≤ n → Agrees w p q → IsDivision n q k (a n) v
division w p k a v z h n q l s =
    let x : Linear = a n in
    let c : ℕ = n + x.helpers in
    let i : IsWorth n q x v = h.worth n q l s in
    let narrow : IsNarrow n x = h.narrow n l in
    let each : (r : ℕ → ℤ) → Agrees n q r → AllHold r (x.rows ++ quotient_rows k x c) → (amount r x ≡ v) × (r c ≡ div_of v k) =
    λ r t g.
    let e : amount r x ≡ v = i.each r t (hold_left r x.rows (quotient_rows k x c) g) in
    let b : IsBetween k v (r c) = quotient_held r k x c v e (hold_right r x.rows (quotient_rows k x c) g) in
    (e, between_once k v (r c) (div_of v k) z b (quotient_between v k z)) in
    record {
      some =
          let r = i.some in
          let t : ℕ → ℤ = with_value r.0 c (div_of v k) in
          let g : Agrees c r.0 t = with_quotient c r.0 (div_of v k) in
          let e : amount t x ≡ v = amount_same r.0 x c (div_of v k) narrow.terms ∙ r.3 in
          let b : IsBetween k v (t c) =
          (let P : ℤ → Type 0 = λ d. IsBetween k v d in subst P (sym (with_value_here r.0 c (div_of v k))) (quotient_between v k z)) in (
            t,
            agrees_on n c q r.0 t (omega arith) r.1 g,
            hold_append t x.rows (quotient_rows k x c) (all_hold_same c r.0 t x.rows g narrow.rows r.2) (quotient_hold t k x c v e b),
          );
      each = each;
      sole = λ r t f g d j.
          let u : Agrees c r t = i.sole r t f g (hold_left r x.rows (quotient_rows k x c) d) (hold_left t x.rows (quotient_rows k x c) j) in
          let e : t c ≡ r c = (each t g j).1 ∙ sym ((each r f d).1) in
          let m : c + 1 ≡ n + (x.helpers + 1) = omega arith in
          let P : ℕ → Type 0 = λ b. Agrees b r t in
          subst P m (agrees_one_more c r t u e);
    }

-- a sum over a quotient, from what it is worth
over_quotient_sum : (w : ℕ) (p : ℕ → ℤ) (k : ℤ) (a : Linears) (u v : ℤ) (terms : ℕ → List (ℕ × ℤ)) (constant : ℕ → ℤ) → value_is_zero k ≡ false → IsSum w p a u →
    ((n m : ℕ) → IsBelow m (a n).terms → n + (a n).helpers < m → IsBelow m (terms n)) →
    ((n : ℕ) (r : ℕ → ℤ) → amount r (a n) ≡ u → r (n + (a n).helpers) ≡ div_of u k → dot r (terms n) +ℤ constant n ≡ v) →
    IsSum w p (λ n. over_quotient k (a n) (n + (a n).helpers) (terms n) (constant n)) v
over_quotient_sum w p k a u v terms constant z h narrow worth =
    record {
      narrow = λ n l.
          let x : Linear = a n in
          let i : IsNarrow n x = h.narrow n l in
          let m : ℕ = n + (x.helpers + 1) in
          let b : IsBelow m x.terms = IsBelow_more (n + x.helpers) m x.terms (omega arith) i.terms in
          record {
            terms = narrow n m b (omega arith);
            rows = below_append m x.rows (quotient_rows k x (n + x.helpers)) (all_below_more (n + x.helpers) m x.rows (omega arith) i.rows)
                (quotient_below m k x (n + x.helpers) (omega arith) b);
          };
      worth = λ n q l s.
          let d : IsDivision n q k (a n) u = division w p k a u z h n q l s in
          record {
            some = let r = d.some in let e = d.each r.0 r.1 r.2 in (r.0, r.1, r.2, worth n r.0 e.0 e.1);
            each = λ r t g. let e = d.each r t g in worth n r e.0 e.1;
            sole = d.sole;
          };
    }

pub divided_sum : (w : ℕ) (p : ℕ → ℤ) (k : ℤ) (a : Linears) (u : ℤ) → value_is_zero k ≡ false → IsSum w p a u → IsSum w p (linear_divided k a) (div_of u k)
divided_sum w p k a u z h =
    over_quotient_sum w p k a u (div_of u k) (λ n. (n + (a n).helpers, pos 1) ∷ []) (λ n. pos 0) z h
    (λ n m b l. (l, tt))
    (λ n r e f. omega (arith, ints))

pub remaining_sum : (w : ℕ) (p : ℕ → ℤ) (k : ℤ) (a : Linears) (u : ℤ) → value_is_zero k ≡ false → IsSum w p a u → IsSum w p (remaining k a) (mod_of u k)
remaining_sum w p k a u z h =
    over_quotient_sum w p k a u (mod_of u k) (λ n. (a n).terms ++ (n + (a n).helpers, neg_ℤ k) ∷ []) (λ n. (a n).constant) z h
    (λ n m b l. IsBelow-append m (a n).terms ((n + (a n).helpers, neg_ℤ k) ∷ []) b (l, tt))
    (λ n r e f.
    let d = dot-rest r k (a n) (n + (a n).helpers) in
    let g : k *ℤ r (n + (a n).helpers) ≡ k *ℤ div_of u k = ap (λ (y : ℤ). k *ℤ y) f in
    let j : u ≡ (k *ℤ div_of u k) +ℤ mod_of u k = (euclidean u k z).0 in
    omega (arith, ints, d))
