-- Tightened rows at rational points: they are stronger, and of a ranking system they still have one where the rows had one.
use Rattle.std.proofs.Common.{◌≡◌, ◌∙◌, ℕ, zero, suc, ◌%◌, ◌<◌, Bool, true, false, ℤ, pos, negsuc, ◌*ℤ◌, ◌≤ℤ◌, ◌<ℤ◌, List, [], ◌∷◌, ◌++◌, map, length, nat_eq, if◌then◌else◌, refl, sym, ap, subst, arith}
use Rattle.std.specs.Prelude.{unsigned_abs}
use Rattle.std.specs.Int.{int_div_euclid}
use Rattle.std.specs.List.{AllByRecursion}
use Rattle.std.proofs.lemmas.Int.{ints}
use Rattle.std.proofs.lemmas.Bool.{eqb-true, eq-eqb}
use Rattle.math_facts.specs.Terms.{dot}
use Rattle.math_facts.proofs.Whole.{product_assoc, product_comm, product_monotone, times_monotone, product_zero_left, product_zero_right, product_one_left, cancel_order, positive_cancel}
use Rattle.math_facts.proofs.Division.{floor_below, floor_at_most, exact, multiple_rest, multiple_floor}
use Rattle.lin_rows.specs.declared.types.RowKind.{RowKind}
use Rattle.lin_rows.specs.declared.types.RowKind.TheVariants.{Le, Eq}
use Rattle.lin_rows.specs.Rows.{LinearRow, Stands}
use Rattle.lin_rows.specs.Tightening.{all_divisible, content, divided, never, divided_row, tightened_by, tightened}
use Rattle.lin_rows.proofs.TighteningLaw.{content_divides, dot-divided}
use Rattle.fm_elim.specs.Worth.{HoldsAt, IsSolvable}
use Rattle.fm_elim.proofs.Lists.{all_append, all_parts}
use Rattle.letter_acts.specs.FrameRows.Rows.{columns_from}
use Rattle.rank_lasso.specs.LassoTurns.Turns.{Turn}
use Rattle.rank_lasso.specs.RankingSystem.RankingSystem.{falls_at, bounded_at, falls_by_one, signs_of, signs, ranking_rows, taken_by}
use Rattle.rank_lasso.proofs.RankingSystem.DenominatorLaws.{dot-times}

-- ---- stronger

divided_stronger : (d : ℤ) (p : ℕ → ℤ) (kind : RowKind) (g : ℕ) (ts : List (ℕ × ℤ)) (b : ℤ) → 0 < g → all_divisible g ts ≡ true → pos 0 <ℤ d →
    HoldsAt d p (divided_row kind g ts b) → Stands kind (dot p ts) (b *ℤ d)
divided_stronger d p Le g ts b l v x h =
    let q : ℤ = int_div_euclid b (pos g) in
    let e : pos g *ℤ dot p (divided g ts) ≡ dot p ts = dot-divided p g ts l v in
    let a : (pos g *ℤ dot p (divided g ts)) ≤ℤ (pos g *ℤ (q *ℤ d)) = times_monotone g (dot p (divided g ts)) (q *ℤ d) h in
    let f : (pos g *ℤ q) *ℤ d ≡ pos g *ℤ (q *ℤ d) = product_assoc (pos g) q d in
    let m : (d *ℤ (pos g *ℤ q)) ≤ℤ (d *ℤ b) = product_monotone d (pos g *ℤ q) b (omega (arith, ints)) (floor_below g b l) in
    let i : d *ℤ (pos g *ℤ q) ≡ (pos g *ℤ q) *ℤ d = product_comm d (pos g *ℤ q) in
    let j : d *ℤ b ≡ b *ℤ d = product_comm d b in
    omega (arith, ints)
divided_stronger d p Eq g ts b l v x h = by_test (nat_eq (unsigned_abs b % g) 0) refl h
  where
    by_test : (c : Bool) → nat_eq (unsigned_abs b % g) 0 ≡ c →
        HoldsAt d p (if c then (record { terms = divided g ts; kind = Eq; bound = int_div_euclid b (pos g) }) else never) → dot p ts ≡ b *ℤ d
    by_test true t k =
        sym (dot-divided p g ts l v) ∙ ap (λ (z : ℤ). pos g *ℤ z) k ∙ sym (product_assoc (pos g) (int_div_euclid b (pos g)) d) ∙
        ap (λ (z : ℤ). z *ℤ d) (exact g b l (eqb-true (unsigned_abs b % g) 0 t))
    by_test false t k = absurd (omega (arith, ints))

stronger_by : (d : ℤ) (p : ℕ → ℤ) (r : LinearRow) (g : ℕ) → content r.terms ≡ g → pos 0 <ℤ d → HoldsAt d p (tightened_by g r) → HoldsAt d p r
stronger_by d p r zero e x h = h
stronger_by d p r (suc g) e x h =
    divided_stronger d p r.kind (suc g) r.terms r.bound (omega arith)
    (subst (λ (n : ℕ). all_divisible n r.terms ≡ true) e (content_divides r.terms (omega arith))) x h

pub tightened_rows_are_stronger : (d : ℤ) (p : ℕ → ℤ) (r : LinearRow) → pos 0 <ℤ d → HoldsAt d p (tightened r) → HoldsAt d p r
tightened_rows_are_stronger d p r x h = stronger_by d p r (content r.terms) refl x h

pub all_stronger : (d : ℤ) (p : ℕ → ℤ) (rows : List LinearRow) → pos 0 <ℤ d → AllByRecursion (HoldsAt d p) (map tightened rows) → AllByRecursion (HoldsAt d p) rows
all_stronger d p [] x h = tt
all_stronger d p (r ∷ rows) x h = (tightened_rows_are_stronger d p r x h.0, all_stronger d p rows x h.1)

-- so what is solved tightened is solved
pub tightened_solves : (rows : List LinearRow) → IsSolvable (map tightened rows) → IsSolvable rows
tightened_solves rows s = record { d = s.d; p = s.p; positive = s.positive; holds = all_stronger s.d s.p rows s.positive s.holds }

-- ---- rows with the bound 0

times_zero : (kind : RowKind) (m x : ℤ) → pos 0 <ℤ m → Stands kind x (pos 0) → Stands kind (m *ℤ x) (pos 0)
times_zero Le m x l h =
    let a : (m *ℤ x) ≤ℤ (m *ℤ pos 0) = product_monotone m x (pos 0) (omega (arith, ints)) h in
    let z : m *ℤ pos 0 ≡ pos 0 = product_zero_right m in
    omega (arith, ints)
times_zero Eq m x l h = ap (λ (z : ℤ). m *ℤ z) h ∙ product_zero_right m

-- a positive factor of what stands at 0 may be taken away
cancel_zero : (kind : RowKind) (m x : ℤ) → pos 0 <ℤ m → Stands kind (m *ℤ x) (pos 0) → Stands kind x (pos 0)
cancel_zero Le m x l h = let z : m *ℤ pos 0 ≡ pos 0 = product_zero_right m in cancel_order m x (pos 0) l (omega (arith, ints))
cancel_zero Eq m x l h = positive_cancel m x (pos 0) l (h ∙ sym (product_zero_right m))

zero_floor : (g : ℕ) → 0 < g → int_div_euclid (pos 0) (pos g) ≡ pos 0
zero_floor g l = multiple_floor g (pos 0) (pos 0) l (product_zero_right (pos g))

zero_divided : (d m : ℤ) (p : ℕ → ℤ) (kind : RowKind) (g : ℕ) (ts : List (ℕ × ℤ)) → 0 < g → all_divisible g ts ≡ true → pos 0 <ℤ m →
    Stands kind (dot p ts) (pos 0) → HoldsAt d (λ c. m *ℤ p c) (divided_row kind g ts (pos 0))
zero_divided d m p kind g ts l v x h = by_kind kind inner
  where
    one : Stands kind (dot p (divided g ts)) (pos 0)
    one = cancel_zero kind (pos g) (dot p (divided g ts)) (omega (arith, ints)) (subst (λ (z : ℤ). Stands kind z (pos 0)) (sym (dot-divided p g ts l v)) h)

    inner : Stands kind (dot (λ c. m *ℤ p c) (divided g ts)) (int_div_euclid (pos 0) (pos g) *ℤ d)
    inner =
        subst (λ (z : ℤ). Stands kind (dot (λ c. m *ℤ p c) (divided g ts)) z) (sym (ap (λ (z : ℤ). z *ℤ d) (zero_floor g l) ∙ product_zero_left d))
        (subst (λ (z : ℤ). Stands kind z (pos 0)) (sym (dot-times m p (divided g ts))) (times_zero kind m (dot p (divided g ts)) x one))

    by_kind : (k : RowKind) → Stands k (dot (λ c. m *ℤ p c) (divided g ts)) (int_div_euclid (pos 0) (pos g) *ℤ d) →
        HoldsAt d (λ c. m *ℤ p c) (divided_row k g ts (pos 0))
    by_kind Le i = i
    by_kind Eq i = by_test (nat_eq (unsigned_abs (pos 0) % g) 0) (eq-eqb (unsigned_abs (pos 0) % g) 0 (multiple_rest g (pos 0) (pos 0) (product_zero_right (pos g))))
      where
        by_test : (c : Bool) → c ≡ true →
            HoldsAt d (λ c. m *ℤ p c) (if c then (record { terms = divided g ts; kind = Eq; bound = int_div_euclid (pos 0) (pos g) }) else never)
        by_test true e = i
        by_test false e = absurd (cc)

-- such a row, tightened, holds at a multiple of a point at which it holds
zero_kept : (d m : ℤ) (p : ℕ → ℤ) (r : LinearRow) (g : ℕ) → content r.terms ≡ g → r.bound ≡ pos 0 → pos 0 <ℤ m → HoldsAt d p r →
    HoldsAt d (λ c. m *ℤ p c) (tightened_by g r)
zero_kept d m p r g e z x h =
    let at_zero : r.bound *ℤ d ≡ pos 0 = ap (λ (b : ℤ). b *ℤ d) z ∙ product_zero_left d in
    by_content g e (subst (λ (b : ℤ). Stands r.kind (dot p r.terms) b) at_zero h)
  where
    by_content : (g : ℕ) → content r.terms ≡ g → Stands r.kind (dot p r.terms) (pos 0) → HoldsAt d (λ c. m *ℤ p c) (tightened_by g r)
    by_content zero e k =
        subst (λ (b : ℤ). Stands r.kind (dot (λ c. m *ℤ p c) r.terms) b) (sym (ap (λ (b : ℤ). b *ℤ d) z ∙ product_zero_left d))
        (subst (λ (y : ℤ). Stands r.kind y (pos 0)) (sym (dot-times m p r.terms)) (times_zero r.kind m (dot p r.terms) x k))
    by_content (suc g) e k =
        subst (λ (b : ℤ). HoldsAt d (λ c. m *ℤ p c) (divided_row r.kind (suc g) r.terms b)) (sym z)
        (zero_divided d m p r.kind (suc g) r.terms (omega arith)
        (subst (λ (n : ℕ). all_divisible n r.terms ≡ true) e (content_divides r.terms (omega arith))) x k)

HasZeroBound : LinearRow → Type 0
HasZeroBound r = r.bound ≡ pos 0

zeros_kept : (d m : ℤ) (p : ℕ → ℤ) (rows : List LinearRow) → AllByRecursion HasZeroBound rows → pos 0 <ℤ m → AllByRecursion (HoldsAt d p) rows →
    AllByRecursion (HoldsAt d (λ c. m *ℤ p c)) (map tightened rows)
unfolding HasZeroBound
zeros_kept d m p [] z x h = tt
zeros_kept d m p (r ∷ rows) z x h = (zero_kept d m p r (content r.terms) refl z.0 x h.0, zeros_kept d m p rows z.1 x h.1)

-- ---- the row with the bound -1

last_floor : (g : ℕ) → 0 < g → int_div_euclid (negsuc 0) (pos g) ≡ negsuc 0
last_floor g l =
    let a : negsuc 0 ≤ℤ int_div_euclid (negsuc 0) (pos g) = (floor_at_most g (negsuc 0) (negsuc 0) l).0 (omega (arith, ints)) in
    let b : (pos g *ℤ int_div_euclid (negsuc 0) (pos g)) ≤ℤ negsuc 0 = floor_below g (negsuc 0) l in
    let c : int_div_euclid (negsuc 0) (pos g) ≤ℤ negsuc 0 = below g (int_div_euclid (negsuc 0) (pos g)) l b in
    omega (arith, ints)
  where
    below : (g : ℕ) (z : ℤ) → 0 < g → (pos g *ℤ z) ≤ℤ negsuc 0 → z ≤ℤ negsuc 0
    below g (pos n) l h = absurd (omega (arith, ints))
    below g (negsuc n) l h = omega (arith, ints)

falls_kept : (d : ℤ) (p : ℕ → ℤ) (ts : List (ℕ × ℤ)) (g : ℕ) → content ts ≡ g → dot p ts ≤ℤ (negsuc 0 *ℤ d) →
    HoldsAt d (λ c. pos (taken_by g) *ℤ p c) (tightened_by g (record { terms = ts; kind = Le; bound = negsuc 0 }))
falls_kept d p ts zero e h =
    let a : dot (λ c. pos 1 *ℤ p c) ts ≡ pos 1 *ℤ dot p ts = dot-times (pos 1) p ts in
    let b : pos 1 *ℤ dot p ts ≡ dot p ts = product_one_left (dot p ts) in
    subst (λ (z : ℤ). z ≤ℤ (negsuc 0 *ℤ d)) (sym (a ∙ b)) h
falls_kept d p ts (suc g) e h =
    let v : all_divisible (suc g) ts ≡ true = subst (λ (n : ℕ). all_divisible n ts ≡ true) e (content_divides ts (omega arith)) in
    let a : dot (λ c. pos (suc g) *ℤ p c) (divided (suc g) ts) ≡ pos (suc g) *ℤ dot p (divided (suc g) ts) = dot-times (pos (suc g)) p (divided (suc g) ts) in
    let b : pos (suc g) *ℤ dot p (divided (suc g) ts) ≡ dot p ts = dot-divided p (suc g) ts (omega arith) v in
    let f : int_div_euclid (negsuc 0) (pos (suc g)) *ℤ d ≡ negsuc 0 *ℤ d = ap (λ (z : ℤ). z *ℤ d) (last_floor (suc g) (omega arith)) in
    subst (λ (z : ℤ). z ≤ℤ (int_div_euclid (negsuc 0) (pos (suc g)) *ℤ d)) (sym (a ∙ b)) (subst (λ (z : ℤ). dot p ts ≤ℤ z) (sym f) h)

-- ---- the ranking system

all_joined : (Q : LinearRow → Type 0) (xs ys : List LinearRow) → AllByRecursion Q (map tightened xs) → AllByRecursion Q (map tightened ys) → AllByRecursion Q (map tightened (xs ++ ys))
all_joined Q [] ys h k = k
all_joined Q (x ∷ xs) ys h k = (h.0, all_joined Q xs ys h.1 k)

falls_zero : (t : Turn) (rows : List LinearRow) (cs : List ℕ) → AllByRecursion HasZeroBound (map (falls_at t rows) cs)
unfolding HasZeroBound
falls_zero t rows [] = tt
falls_zero t rows (c ∷ cs) = (refl, falls_zero t rows cs)

bounded_zero : (t : Turn) (rows : List LinearRow) (cs : List ℕ) → AllByRecursion HasZeroBound (map (bounded_at t rows) cs)
unfolding HasZeroBound
bounded_zero t rows [] = tt
bounded_zero t rows (c ∷ cs) = (refl, bounded_zero t rows cs)

kinds_zero : (kind : RowKind) (i j : ℕ) → AllByRecursion HasZeroBound (signs_of kind i j)
unfolding HasZeroBound
kinds_zero Le i j = (refl, (refl, tt))
kinds_zero Eq i j = tt

signs_zero : (i j : ℕ) (rows : List LinearRow) → AllByRecursion HasZeroBound (signs i j rows)
signs_zero i j [] = tt
signs_zero i j (r ∷ rows) = all_append HasZeroBound (signs_of r.kind i j) (signs (suc i) (suc j) rows) (kinds_zero r.kind i j) (signs_zero (suc i) (suc j) rows)

-- the ranking system has a rational point, tightened, where it has one
pub tightening_keeps_ranks : (t : Turn) (rows : List LinearRow) → IsSolvable (ranking_rows t rows) → IsSolvable (map tightened (ranking_rows t rows))
tightening_keeps_ranks t rows s =
    let g : ℕ = content (falls_by_one rows).terms in
    let m : ℤ = pos (taken_by g) in
    let falls : List LinearRow = map (falls_at t rows) (columns_from 0 t.columns) in
    let bounded : List LinearRow = map (bounded_at t rows) (columns_from 0 t.columns) in
    let ends : List LinearRow = signs 0 (length rows) rows in
    let one = all_parts (HoldsAt s.d s.p) falls (bounded ++ (falls_by_one rows ∷ ends)) s.holds in
    let two = all_parts (HoldsAt s.d s.p) bounded (falls_by_one rows ∷ ends) one.1 in
    let Q : LinearRow → Type 0 = HoldsAt s.d (λ c. m *ℤ s.p c) in
    let l : pos 0 <ℤ m = taken g in
    record {
      d = s.d;
      p = λ c. m *ℤ s.p c;
      positive = s.positive;
      holds =
          all_joined Q falls (bounded ++ (falls_by_one rows ∷ ends)) (zeros_kept s.d m s.p falls (falls_zero t rows (columns_from 0 t.columns)) l one.0)
          (all_joined Q bounded (falls_by_one rows ∷ ends) (zeros_kept s.d m s.p bounded (bounded_zero t rows (columns_from 0 t.columns)) l two.0)
          (falls_kept s.d s.p (falls_by_one rows).terms g refl two.1.0, zeros_kept s.d m s.p ends (signs_zero 0 (length rows) rows) l two.1.1));
    }
  where
    taken : (g : ℕ) → pos 0 <ℤ pos (taken_by g)
    taken zero = omega (arith, ints)
    taken (suc g) = omega (arith, ints)
