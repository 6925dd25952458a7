-- Comparisons of sums, literals and names: when they are met.
use Rattle.std.proofs.Common.{◌≡◌, inl, inr, ℕ, ◌+◌, ◌<◌, ◌≤◌, ℤ, pos, ◌+ℤ◌, ◌-ℤ◌, ◌≤ℤ◌, Bool, List, [], ◌∷◌, ◌++◌, sym, ◌∙◌, arith}
use Rattle.std.proofs.lemmas.Int.{ints}
use Rattle.math_facts.specs.Terms.{dot, opposite, IsBelow}
use Rattle.math_facts.proofs.TermLaws.{dot-append, dot-opposite, IsBelow-append, IsBelow-opposite}
use Rattle.lin_rows.specs.declared.types.RowKind.TheVariants.{Le, Eq}
use Rattle.lin_rows.specs.Rows.{LinearRow, Holds}
use Rattle.lin_rows.specs.Sums.{row_of, summed}
use Rattle.typed_tree.specs.Values.{truth}
use Rattle.cond_jumps.specs.Forms.{Linear, Linears, amount, after}
use Rattle.cond_jumps.specs.Comparisons.{below_row, above_row, equal, compared, no_jumps, always, truth_of_column}
use Rattle.cond_jumps.specs.Meaning.{Agrees, Meets, Sole, IsPath}
use Rattle.cond_jumps.specs.Worth.{IsSum}
use Rattle.cond_jumps.proofs.MeaningLemmas.{agrees_refl, hold_append, hold_left, hold_right, below_append}
use Rattle.cond_jumps.proofs.FormLemmas.{below-summed, row_holds, row_held, ArePair, pair, AreNarrow, narrow_pair}

pub never_path : (w : ℕ) (p : ℕ → ℤ) → IsPath w p no_jumps ⊥
never_path w p =
    record { narrow = λ n l. tt; so = λ n q l s m. m; back = λ n q l s x. x; single = λ n q l s. tt }

-- rows without helpers
no_helpers : (n : ℕ) (p : ℕ → ℤ) (rows : List LinearRow) → Sole n (n + 0) p rows
no_helpers n p rows q r a b h i = record { same = λ c l. let k : c < n = omega arith in b.same c k ∙ sym (a.same c k) }

pub always_path : (w : ℕ) (p : ℕ → ℤ) → IsPath w p always (Unit {0})
always_path w p =
    record {
      narrow = λ n l. (tt, tt);
      so = λ n q l s m. tt;
      back = λ n q l s x. inl (q, agrees_refl n q, tt);
      single = λ n q l s. (no_helpers n q [], (λ e m. m), tt);
    }

-- a column has a truth value
pub named_path : (w : ℕ) (p : ℕ → ℤ) (c : ℕ) (want : Bool) (v : ℤ) → c < w → p c ≡ v → IsPath w p (truth_of_column c want) (v ≡ truth want)
named_path w p c want v inside e =
    record {
      narrow = λ n l. (((omega arith, tt), tt), tt);
      so = λ n q l s m. from_row n q l s m;
      back = λ n q l s x.
          let f : q c ≡ p c = s.same c inside in
          inl (q, agrees_refl n q, (row_holds q ((c, pos 1) ∷ []) Eq (truth want) (omega (arith, ints)), tt));
      single = λ n q l s. (no_helpers n q (row_of ((c, pos 1) ∷ []) Eq (truth want) ∷ []), (λ e m. m), tt);
    }
  where
    from_row : (n : ℕ) (q : ℕ → ℤ) → w ≤ n → Agrees w p q → Meets n q (truth_of_column c want n) → v ≡ truth want
    from_row n q l s (inr h) = absurd h
    from_row n q l s (inl m) =
        let f : m.0 c ≡ q c = m.1.same c (omega arith) in
        let g : q c ≡ p c = s.same c inside in
        let h = row_held m.0 ((c, pos 1) ∷ []) Eq (truth want) m.2.0 in
        omega (arith, ints, h)

-- a comparison of two sums, from what its row says of their values
pub compared_path : (w : ℕ) (p : ℕ → ℤ) (row : Linear → Linear → LinearRow) (a b : Linears) (u v : ℤ) (P : Type 0) → IsSum w p a u → IsSum w p b v →
    ((m : ℕ) (x y : Linear) → IsBelow m x.terms → IsBelow m y.terms → IsBelow m (row x y).terms) →
    ((r : ℕ → ℤ) (x y : Linear) → amount r x ≡ u → amount r y ≡ v → Holds r (row x y) → P) →
    ((r : ℕ → ℤ) (x y : Linear) → amount r x ≡ u → amount r y ≡ v → P → Holds r (row x y)) →
    IsPath w p (compared row a b) P
compared_path w p row a b u v P h k narrow so back =
    record {
      narrow = λ n l.
          let x : Linear = a n in
          let y : Linear = after a b n in
          let m : ℕ = n + (x.helpers + y.helpers) in
          let i : AreNarrow m x y = narrow_pair w p a b u v h k n l in
          (below_append m (x.rows ++ y.rows) (row x y ∷ []) i.rows (narrow m x y i.first i.second, tt), tt);
      so = λ n q l s m. from_rows n q l s m;
      back = λ n q l s f.
          let x : Linear = a n in
          let y : Linear = after a b n in
          let i : ArePair n q x y u v = pair w p a b u v h k n q l s in
          let r = i.some in
          inl (r.0, r.1, hold_append r.0 (x.rows ++ y.rows) (row x y ∷ []) r.2 (back r.0 x y r.3 r.4 f, tt));
      single = λ n q l s.
          let x : Linear = a n in
          let y : Linear = after a b n in
          let i : ArePair n q x y u v = pair w p a b u v h k n q l s in (
            (λ r t d e f g. i.sole r t d e (hold_left r (x.rows ++ y.rows) (row x y ∷ []) f) (hold_left t (x.rows ++ y.rows) (row x y ∷ []) g)),
            (λ e m. m),
            tt,
          );
    }
  where
    from_rows : (n : ℕ) (q : ℕ → ℤ) → w ≤ n → Agrees w p q → Meets n q (compared row a b n) → P
    from_rows n q l s (inr m) = absurd m
    from_rows n q l s (inl m) =
        let x : Linear = a n in
        let y : Linear = after a b n in
        let i : ArePair n q x y u v = pair w p a b u v h k n q l s in
        let e = i.each m.0 m.1 (hold_left m.0 (x.rows ++ y.rows) (row x y ∷ []) m.2) in
        so m.0 x y e.0 e.1 (hold_right m.0 (x.rows ++ y.rows) (row x y ∷ []) m.2).0

-- the terms of x - y
below-difference : (m : ℕ) (x y : Linear) → IsBelow m x.terms → IsBelow m y.terms → IsBelow m (summed (x.terms ++ opposite y.terms))
below-difference m x y h k =
    below-summed m (x.terms ++ opposite y.terms) (IsBelow-append m x.terms (opposite y.terms) h (IsBelow-opposite m y.terms k))

dot-difference : (r : ℕ → ℤ) (x y : Linear) → dot r (x.terms ++ opposite y.terms) ≡ dot r x.terms -ℤ dot r y.terms
dot-difference r x y =
    let d = dot-append r x.terms (opposite y.terms) in
    let e = dot-opposite r y.terms in
    omega (arith, ints, d, e)

below_so : (k : ℤ) (r : ℕ → ℤ) (x y : Linear) (u v : ℤ) → amount r x ≡ u → amount r y ≡ v → Holds r (below_row k x y) → (u -ℤ v) ≤ℤ k
below_so k r x y u v e f h =
    let d = dot-difference r x y in
    let i = row_held r (x.terms ++ opposite y.terms) Le ((k -ℤ x.constant) +ℤ y.constant) h in
    omega (arith, ints, d, i)

below_back : (k : ℤ) (r : ℕ → ℤ) (x y : Linear) (u v : ℤ) → amount r x ≡ u → amount r y ≡ v → (u -ℤ v) ≤ℤ k → Holds r (below_row k x y)
below_back k r x y u v e f h =
    let d = dot-difference r x y in
    row_holds r (x.terms ++ opposite y.terms) Le ((k -ℤ x.constant) +ℤ y.constant) (omega (arith, ints, d))

-- `x - y <= k`
pub below_path : (w : ℕ) (p : ℕ → ℤ) (k : ℤ) (a b : Linears) (u v : ℤ) → IsSum w p a u → IsSum w p b v → IsPath w p (compared (below_row k) a b) ((u -ℤ v) ≤ℤ k)
below_path w p k a b u v h i =
    compared_path w p (below_row k) a b u v ((u -ℤ v) ≤ℤ k) h i
    (λ m x y f g. below-difference m x y f g)
    (λ r x y e f g. below_so k r x y u v e f g)
    (λ r x y e f g. below_back k r x y u v e f g)

-- `y - x <= k`
pub above_path : (w : ℕ) (p : ℕ → ℤ) (k : ℤ) (a b : Linears) (u v : ℤ) → IsSum w p a u → IsSum w p b v → IsPath w p (compared (above_row k) a b) ((v -ℤ u) ≤ℤ k)
above_path w p k a b u v h i =
    compared_path w p (above_row k) a b u v ((v -ℤ u) ≤ℤ k) h i
    (λ m x y f g. below-difference m y x g f)
    (λ r x y e f g. below_so k r y x v u f e g)
    (λ r x y e f g. below_back k r y x v u f e g)

-- `x - y = 0`
pub equal_path : (w : ℕ) (p : ℕ → ℤ) (a b : Linears) (u v : ℤ) → IsSum w p a u → IsSum w p b v → IsPath w p (compared equal a b) (u ≡ v)
equal_path w p a b u v h i =
    compared_path w p equal a b u v (u ≡ v) h i
    (λ m x y f g. below-difference m x y f g)
    (λ r x y e f g.
    let d = dot-difference r x y in
    let j = row_held r (x.terms ++ opposite y.terms) Eq ((pos 0 -ℤ x.constant) +ℤ y.constant) g in
    omega (arith, ints, d, j))
    (λ r x y e f g.
    let d = dot-difference r x y in
    row_holds r (x.terms ++ opposite y.terms) Eq ((pos 0 -ℤ x.constant) +ℤ y.constant) (omega (arith, ints, d)))
