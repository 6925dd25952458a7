-- The test of one leaf, part by part: each step keeps what the parts that are left have to do.
use Rattle.std.proofs.Common.{◌≡◌, ◌↔◌, ◌∙◌, ℕ, zero, suc, ◌+◌, ◌<◌, ◌≤◌, ℤ, pos, ◌+ℤ◌, ◌<ℤ◌, List, [], ◌∷◌, length, drop, map, get_or, ap, sym, refl, subst, arith}
use Rattle.std.specs.List.{AllByRecursion}
use Rattle.std.proofs.lemmas.Int.{ints}
use Rattle.std.proofs.lemmas.List.{drop_more, drop_all, length-map}
use Rattle.math_facts.specs.Fits.{Fits}
use Rattle.math_facts.specs.Terms.{coefficient}
use Rattle.lin_rows.specs.declared.types.RowKind.{RowKind}
use Rattle.lin_rows.specs.Rows.{LinearRow, AscendsFrom}
use Rattle.lin_rows.specs.Tightening.{tightened}
use Rattle.lin_rows.specs.Combinations.{row_at, Multiplies, IsPart, combined, RunFits, Contradicts}
use Rattle.farkas_check.specs.Ties.Leaves.{PartSum, columns_of, MayFollow, RowFits, AddsRow, CanAdd, AddsPart, IsContradiction}

-- The sum so far with these parts says `0 <= c` with `c < 0`, and each multiplier and each number on the way fits. The parts ascend by row, from
-- the number next on.
pub record ContradictsFrom (rows : List LinearRow) (next : ℕ) (sum : PartSum) (parts : List (ℕ × ℤ)) : Type 0 where
  pub ascends : AscendsFrom next parts
  pub each : AllByRecursion (IsPart rows) parts
  pub multipliers_fit : AllByRecursion (λ t. Fits t.1) parts
  pub columns_fit : (c : ℕ) → RunFits (λ r. coefficient c r.terms) rows (columns_of sum c) parts
  pub bound_fits : RunFits (λ r. r.bound) rows sum.bound parts
  pub columns_vanish : (c : ℕ) → columns_of sum c +ℤ combined (λ r. coefficient c r.terms) rows parts ≡ pos 0
  pub bound_negative : (sum.bound +ℤ combined (λ r. r.bound) rows parts) <ℤ pos 0

-- the row that was read at a number
pub row_at_read : (rows : List LinearRow) (k : ℕ) (x : LinearRow) → k < length rows → x ≡ get_or rows k x → x ≡ row_at rows k
row_at_read [] k x l e = absurd (omega arith)
row_at_read (r ∷ rs) zero x l e = e
row_at_read (r ∷ rs) (suc k) x l e = row_at_read rs k x (omega arith) e

-- ---- one part

-- a part that passes each test may follow
pub MayFollow-read : (rows : List LinearRow) (next n : ℕ) (m : ℤ) (row : LinearRow) (kind : RowKind) →
    next ≤ n → n < length rows → row ≡ get_or rows n row → kind ≡ row.kind → Multiplies m kind → Fits m → MayFollow rows next (n, m)
MayFollow-read rows next n m row kind a l r k f b = record {
  ascends = a;
  is_part = record { exists = l; multiplies = subst (λ (v : LinearRow). Multiplies m v.kind) (row_at_read rows n row l r) (subst (Multiplies m) k f) };
  fits = b;
}

-- and one that may follow passes the test of its multiplier
pub MayFollow-multiplies : (rows : List LinearRow) (next n : ℕ) (m : ℤ) (row : LinearRow) (kind : RowKind) →
    row ≡ get_or rows n row → kind ≡ row.kind → MayFollow rows next (n, m) → Multiplies m kind
MayFollow-multiplies rows next n m row kind r k f =
    subst (Multiplies m) (sym k) (subst (λ (v : LinearRow). Multiplies m v.kind) (sym (row_at_read rows n row f.is_part.exists r)) f.is_part.multiplies)

-- its row added to the sum, that part is added
pub AddsPart-read : (rows : List LinearRow) (next : ℕ) (sum : PartSum) (n : ℕ) (m : ℤ) (row : LinearRow) (new : PartSum) →
    row ≡ get_or rows n row → MayFollow rows next (n, m) → AddsRow sum m row new → AddsPart rows next sum (n, m) (n + 1) new
AddsPart-read rows next sum n m row new r f a = record {
  follows = f;
  adds = subst (λ (v : LinearRow). AddsRow sum m v new) (row_at_read rows n row f.is_part.exists r) a;
  after_is = refl;
}

-- a row that cannot be added to the sum
pub CanAdd_not : (rows : List LinearRow) (next : ℕ) (sum : PartSum) (n : ℕ) (m : ℤ) (row : LinearRow) →
    row ≡ get_or rows n row → (RowFits sum m row → ⊥) → CanAdd rows next sum (n, m) → ⊥
CanAdd_not rows next sum n m row r none a =
    none (subst (λ (v : LinearRow). RowFits sum m v) (sym (row_at_read rows n row a.follows.is_part.exists r)) a.fits)

-- ---- the parts that are left

-- after a part that was added, the rest contradicts exactly where it did with the part
ContradictsFrom_more : (rows : List LinearRow) (next : ℕ) (sum : PartSum) (t : ℕ × ℤ) (after : ℕ) (new : PartSum) (rest : List (ℕ × ℤ)) →
    AddsPart rows next sum t after new → ContradictsFrom rows after new rest ↔ ContradictsFrom rows next sum (t ∷ rest)
ContradictsFrom_more rows next sum t after new rest a = (to, from)
  where
    to : ContradictsFrom rows after new rest → ContradictsFrom rows next sum (t ∷ rest)
    to b = record {
      ascends = (a.follows.ascends, subst (λ (n : ℕ). AscendsFrom n rest) a.after_is b.ascends);
      each = (a.follows.is_part, b.each);
      multipliers_fit = (a.follows.fits, b.multipliers_fit);
      columns_fit = λ c. (
        a.adds.fits.terms.products c,
        a.adds.fits.terms.sums c,
        subst (λ (z : ℤ). RunFits (λ r. coefficient c r.terms) rows z rest) (a.adds.columns c) (b.columns_fit c),
      );
      bound_fits = (
        a.adds.fits.bound_product,
        a.adds.fits.bound_sum,
        subst (λ (z : ℤ). RunFits (λ r. r.bound) rows z rest) a.adds.bound b.bound_fits,
      );
      columns_vanish = λ c.
          let e = a.adds.columns c in
          let f = b.columns_vanish c in
          omega (arith, ints);
      bound_negative = let e = a.adds.bound in let f = b.bound_negative in omega (arith, ints);
    }

    from : ContradictsFrom rows next sum (t ∷ rest) → ContradictsFrom rows after new rest
    from b = record {
      ascends = subst (λ (n : ℕ). AscendsFrom n rest) (sym a.after_is) b.ascends.1;
      each = b.each.1;
      multipliers_fit = b.multipliers_fit.1;
      columns_fit = λ c. subst (λ (z : ℤ). RunFits (λ r. coefficient c r.terms) rows z rest) (sym (a.adds.columns c)) (b.columns_fit c).2;
      bound_fits = subst (λ (z : ℤ). RunFits (λ r. r.bound) rows z rest) (sym a.adds.bound) b.bound_fits.2;
      columns_vanish = λ c.
          let e = a.adds.columns c in
          let f = b.columns_vanish c in
          omega (arith, ints);
      bound_negative = let e = a.adds.bound in let f = b.bound_negative in omega (arith, ints);
    }

-- a part that cannot be added is part of no contradiction
ContradictsFrom_none : (rows : List LinearRow) (next : ℕ) (sum : PartSum) (t : ℕ × ℤ) (rest : List (ℕ × ℤ)) →
    (CanAdd rows next sum t → ⊥) → ContradictsFrom rows next sum (t ∷ rest) → ⊥
ContradictsFrom_none rows next sum t rest none b = none (record {
  follows = record { ascends = b.ascends.0; is_part = b.each.0; fits = b.multipliers_fit.0 };
  fits = record {
    terms = record { products = λ c. (b.columns_fit c).0; sums = λ c. (b.columns_fit c).1 };
    bound_product = b.bound_fits.0;
    bound_sum = b.bound_fits.1;
  };
})

-- before the first part, all parts are left
pub ContradictsFrom_start : (rows : List LinearRow) (parts : List (ℕ × ℤ)) (sum : PartSum) → ((c : ℕ) → columns_of sum c ≡ pos 0) → sum.bound ≡ pos 0 →
    ContradictsFrom rows 0 sum parts ↔ Contradicts rows parts
ContradictsFrom_start rows parts sum none nought = (
  λ b. record {
    ascends = b.ascends;
    each = b.each;
    multipliers_fit = b.multipliers_fit;
    columns_fit = λ c. subst (λ (z : ℤ). RunFits (λ r. coefficient c r.terms) rows z parts) (none c) (b.columns_fit c);
    bound_fits = subst (λ (z : ℤ). RunFits (λ r. r.bound) rows z parts) nought b.bound_fits;
    columns_vanish = λ c. let e = b.columns_vanish c in let f = none c in omega (arith, ints);
    bound_negative = let e = b.bound_negative in omega (arith, ints);
  },
  λ b. record {
    ascends = b.ascends;
    each = b.each;
    multipliers_fit = b.multipliers_fit;
    columns_fit = λ c. subst (λ (z : ℤ). RunFits (λ r. coefficient c r.terms) rows z parts) (sym (none c)) (b.columns_fit c);
    bound_fits = subst (λ (z : ℤ). RunFits (λ r. r.bound) rows z parts) (sym nought) b.bound_fits;
    columns_vanish = λ c. let e = b.columns_vanish c in let f = none c in omega (arith, ints);
    bound_negative = let e = b.bound_negative in omega (arith, ints);
  },
)

-- after the last part, the sum itself has to be a contradiction
ContradictsFrom_end : (rows : List LinearRow) (next : ℕ) (sum : PartSum) → ContradictsFrom rows next sum [] ↔ IsContradiction sum
ContradictsFrom_end rows next sum = (
  λ b. record {
    columns_vanish = λ c. let f = b.columns_vanish c in omega (arith, ints);
    bound_negative = let f = b.bound_negative in omega (arith, ints);
  },
  λ n. record {
    ascends = tt;
    each = tt;
    multipliers_fit = tt;
    columns_fit = λ c. tt;
    bound_fits = tt;
    columns_vanish = λ c. let f = n.columns_vanish c in omega (arith, ints);
    bound_negative = let f = n.bound_negative in omega (arith, ints);
  },
)

-- ---- the parts from a place on

-- the same three, of the parts from the place i on
pub ContradictsFrom-drop_more : (rows : List LinearRow) (next : ℕ) (sum : PartSum) (parts : List (ℕ × ℤ)) (i : ℕ) (d : ℕ × ℤ) (after : ℕ) (new : PartSum) →
    i < length parts → AddsPart rows next sum (get_or parts i d) after new →
    ContradictsFrom rows after new (drop (i + 1) parts) ↔ ContradictsFrom rows next sum (drop i parts)
ContradictsFrom-drop_more rows next sum parts i d after new l a =
    subst (λ (rest : List (ℕ × ℤ)). ContradictsFrom rows after new (drop (i + 1) parts) ↔ ContradictsFrom rows next sum rest) (sym (drop_more parts i d l))
    (ContradictsFrom_more rows next sum (get_or parts i d) after new (drop (i + 1) parts) a)

pub ContradictsFrom-drop_none : (rows : List LinearRow) (next : ℕ) (sum : PartSum) (parts : List (ℕ × ℤ)) (i : ℕ) (d : ℕ × ℤ) →
    i < length parts → (CanAdd rows next sum (get_or parts i d) → ⊥) → ContradictsFrom rows next sum (drop i parts) → ⊥
ContradictsFrom-drop_none rows next sum parts i d l none w =
    ContradictsFrom_none rows next sum (get_or parts i d) (drop (i + 1) parts) none (subst (ContradictsFrom rows next sum) (drop_more parts i d l) w)

pub ContradictsFrom-drop_all : (rows : List LinearRow) (next : ℕ) (sum : PartSum) (parts : List (ℕ × ℤ)) (i : ℕ) →
    length parts ≤ i → ContradictsFrom rows next sum (drop i parts) ↔ IsContradiction sum
ContradictsFrom-drop_all rows next sum parts i l =
    subst (λ (rest : List (ℕ × ℤ)). ContradictsFrom rows next sum rest ↔ IsContradiction sum) (sym (drop_all i parts l)) (ContradictsFrom_end rows next sum)

-- ---- rows that are still to be tightened

-- the tight form of the row that was read at a number
pub tightened_read : (rows : List LinearRow) (n : ℕ) (row tight : LinearRow) → n < length rows → row ≡ get_or rows n row → tight ≡ tightened row →
    tight ≡ get_or (map tightened rows) n tight
tightened_read [] n row tight l e f = absurd (omega arith)
tightened_read (r ∷ rs) zero row tight l e f = f ∙ ap tightened e
tightened_read (r ∷ rs) (suc n) row tight l e f = tightened_read rs n row tight (omega arith) e f

-- a part whose row is tightened and added to the sum
pub AddsPart_tightened : (rows : List LinearRow) (next : ℕ) (sum : PartSum) (n : ℕ) (m : ℤ) (row tight : LinearRow) (new : PartSum) →
    next ≤ n → n < length rows → row ≡ get_or rows n row → tight ≡ tightened row → Fits m × Multiplies m tight.kind × AddsRow sum m tight new →
    AddsPart (map tightened rows) next sum (n, m) (n + 1) new
AddsPart_tightened rows next sum n m row tight new a l e f b =
    let read : tight ≡ get_or (map tightened rows) n tight = tightened_read rows n row tight l e f in
    let exists : n < length (map tightened rows) = rw (length-map rows tightened) l in
    AddsPart-read (map tightened rows) next sum n m tight new read (MayFollow-read (map tightened rows) next n m tight tight.kind a exists read refl b.1 b.0) b.2

-- and one that cannot be added
pub CanAdd_not_tightened : (rows : List LinearRow) (next : ℕ) (sum : PartSum) (n : ℕ) (m : ℤ) (row tight : LinearRow) →
    n < length rows → row ≡ get_or rows n row → tight ≡ tightened row → (Fits m → Multiplies m tight.kind → RowFits sum m tight → ⊥) →
    CanAdd (map tightened rows) next sum (n, m) → ⊥
CanAdd_not_tightened rows next sum n m row tight l e f none a =
    let read : tight ≡ get_or (map tightened rows) n tight = tightened_read rows n row tight l e f in
    CanAdd_not (map tightened rows) next sum n m tight read (none a.follows.fits (MayFollow-multiplies (map tightened rows) next n m tight tight.kind read refl a.follows)) a
