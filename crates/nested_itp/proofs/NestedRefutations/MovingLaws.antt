-- The rows of a letter's system and those of the word: each is the other over other columns.
use Rattle.std.proofs.Common.{◌≡◌, ◌∙◌, ◌⊎◌, inl, inr, ℕ, zero, suc, ◌+◌, ◌<◌, ◌≤◌, ℤ, pos, negsuc, List, [], ◌∷◌, ◌++◌, length, map, refl, sym, ap, arith, Option, None, Some}
use Rattle.std.specs.Prelude.{slice_index}
use Rattle.std.specs.List.{AllByRecursion}
use Rattle.std.proofs.lemmas.Int.{ints}
use Rattle.std.proofs.lemmas.Bool.{ne_eqb}
use Rattle.std.proofs.lemmas.List.{map-append}
use Rattle.math_facts.specs.Terms.{coefficient, IsBelow}
use Rattle.boogie_tree.specs.declared.tree.Ty.{Ty}
use Rattle.boogie_tree.specs.declared.tree.Ty.TheVariants as types
use Rattle.lin_rows.specs.declared.types.RowKind.TheVariants.{Le}
use Rattle.lin_rows.specs.Rows.{LinearRow, IsCoefficient, IsRow}
use Rattle.lin_rows.specs.Sums.{row_of}
use Rattle.lin_rows.specs.Tightening.{tightened}
use Rattle.lin_rows.proofs.Ascending.{HasNoZero}
use Rattle.triple_rows.specs.Systems.{PlainSystem, plain_system, PlainFits, both_systems}
use Rattle.letter_acts.specs.FrameRows.Rows.{renamed, bounds_of, bounds}
use Rattle.nested_itp.specs.NestedRefutations.Refutations.{rows_in}
use Rattle.nested_itp.proofs.NestedRefutations.RowsLaws.{AllPairs}
use Rattle.nested_itp.proofs.NestedRefutations.ContentLaws.{DiffersBelow, IsMoved, tightened_moved, tightened_off}

-- ---- the rows of a system

pub both_rows : (s t : PlainSystem) → rows_in (both_systems s t) ≡ rows_in s ++ rows_in t
both_rows (plain_system rows groups) (plain_system more_rows more_groups) = refl

pub rows_fit : (s : PlainSystem) → PlainFits s → AllByRecursion IsRow (rows_in s)
rows_fit (plain_system rows groups) h = h.0

pub all_parted : {X : Type 0} (P : X → Type 0) (xs ys : List X) → AllByRecursion P (xs ++ ys) → AllByRecursion P xs × AllByRecursion P ys
all_parted P [] ys h = (tt, h)
all_parted P (x ∷ xs) ys h = let r = all_parted P xs ys h.1 in ((h.0, r.0), r.1)

-- ---- rows

pub below_or : (x n : ℕ) → (x < n) ⊎ (n ≤ x)
below_or x zero = inr (omega arith)
below_or zero (suc n) = inl (omega arith)
below_or (suc x) (suc n) = by_rest (below_or x n)
  where
    by_rest : (x < n) ⊎ (n ≤ x) → (suc x < suc n) ⊎ (suc n ≤ suc x)
    by_rest (inl l) = inl (omega (arith, l))
    by_rest (inr l) = inr (omega (arith, l))

pub no_zero : (ts : List (ℕ × ℤ)) → AllByRecursion IsCoefficient ts → HasNoZero ts
no_zero [] h = tt
no_zero (t ∷ ts) h = (h.0.is_not_zero, no_zero ts h.1)

pub coefficient_above : (n x : ℕ) (ts : List (ℕ × ℤ)) → IsBelow n ts → n ≤ x → coefficient x ts ≡ pos 0
coefficient_above n x [] h l = refl
coefficient_above n x (t ∷ ts) h l =
    let b : t.0 < n = h.0 in
    let r : coefficient x ts ≡ pos 0 = coefficient_above n x ts h.1 l in
    rw (ne_eqb t.0 x (λ (e : t.0 ≡ x). omega (arith, b, l, e))) (omega (arith, ints, r))

moved_row : (names : List ℕ) → DiffersBelow (length names) (slice_index names) → (r : LinearRow) → IsRow r → IsBelow (length names) r.terms →
    IsMoved (length names) (slice_index names) (tightened r) (tightened (renamed (slice_index names) r))
moved_row names differ r h below = tightened_moved (length names) (slice_index names) differ r below h.ascends (no_zero r.terms h.coefficients)

-- each row has the same coefficients in the system and in the word
pub rows_moved : (names : List ℕ) → DiffersBelow (length names) (slice_index names) → (x : ℕ) → x < length names → (rows : List LinearRow) →
    AllByRecursion IsRow rows → AllByRecursion (λ r. IsBelow (length names) r.terms) rows →
    AllPairs (λ r s. coefficient x r.terms ≡ coefficient (slice_index names x) s.terms) (map tightened rows) (map tightened (map (renamed (slice_index names)) rows))
rows_moved names differ x l [] h k = tt
rows_moved names differ x l (r ∷ rows) h k = (sym ((moved_row names differ r h.0 k.0).at x l), rows_moved names differ x l rows h.1 k.1)

-- and none at a column that has no name
pub rows_unnamed : (names : List ℕ) (x : ℕ) → length names ≤ x → (rows : List LinearRow) → AllByRecursion (λ r. IsBelow (length names) r.terms) rows →
    AllPairs (λ r s. coefficient x r.terms ≡ pos 0) (map tightened rows) (map tightened (map (renamed (slice_index names)) rows))
rows_unnamed names x l [] k = tt
rows_unnamed names x l (r ∷ rows) k = (tightened_off x r (coefficient_above (length names) x r.terms k.0 l), rows_unnamed names x l rows k.1)

pub bounds_moved : (names : List ℕ) → DiffersBelow (length names) (slice_index names) → (rows : List LinearRow) →
    AllByRecursion IsRow rows → AllByRecursion (λ r. IsBelow (length names) r.terms) rows →
    AllPairs (λ r s. r.bound ≡ s.bound) (map tightened rows) (map tightened (map (renamed (slice_index names)) rows))
bounds_moved names differ [] h k = tt
bounds_moved names differ (r ∷ rows) h k = (sym (moved_row names differ r h.0 k.0).bound, bounds_moved names differ rows h.1 k.1)

pub kinds_moved : (names : List ℕ) → DiffersBelow (length names) (slice_index names) → (rows : List LinearRow) →
    AllByRecursion IsRow rows → AllByRecursion (λ r. IsBelow (length names) r.terms) rows →
    AllPairs (λ r s. r.kind ≡ s.kind) (map tightened rows) (map tightened (map (renamed (slice_index names)) rows))
kinds_moved names differ [] h k = tt
kinds_moved names differ (r ∷ rows) h k = (sym (moved_row names differ r h.0 k.0).kind, kinds_moved names differ rows h.1 k.1)

-- ---- bounds

-- the bounds of columns that stand in a row are those of their versions, which stand in a row
pub bounds_renamed : (f : ℕ → ℕ) (n made : ℕ) (ts : List (Option Ty)) → ((i : ℕ) → i < length ts → f (n + i) ≡ made + i) → map (renamed f) (bounds n ts) ≡ bounds made ts
bounds_renamed f n made [] h = refl
bounds_renamed f n made (t ∷ ts) h =
    map-append (renamed f) (bounds_of n t) (bounds (suc n) ts) ∙
    ap (λ (l : List LinearRow). l ++ map (renamed f) (bounds (suc n) ts)) (one t) ∙
    ap (λ (l : List LinearRow). bounds_of made t ++ l)
    (bounds_renamed f (suc n) (suc made) ts
    (λ i l. ap f (let e : suc n + i ≡ n + suc i = omega arith in e) ∙ h (suc i) (omega (arith, l)) ∙ (let e : made + suc i ≡ suc made + i = omega arith in e)))
  where
    first : f n ≡ made
    first = ap f (let e : n ≡ n + 0 = omega arith in e) ∙ h 0 (omega arith) ∙ (let e : made + 0 ≡ made = omega arith in e)

    one : (t : Option Ty) → map (renamed f) (bounds_of n t) ≡ bounds_of made t
    one None = refl
    one (Some types.Int) = refl
    one (Some types.Bool) = ap (λ (c : ℕ). row_of ((c, negsuc 0) ∷ []) Le (pos 0) ∷ row_of ((c, pos 1) ∷ []) Le (pos 1) ∷ []) first

pub bounds_below : (m n : ℕ) (ts : List (Option Ty)) → n + length ts ≤ m → AllByRecursion (λ r. IsBelow m r.terms) (bounds n ts)
bounds_below m n [] l = tt
bounds_below m n (None ∷ ts) l = bounds_below m (suc n) ts (omega (arith, l))
bounds_below m n (Some types.Int ∷ ts) l = bounds_below m (suc n) ts (omega (arith, l))
bounds_below m n (Some types.Bool ∷ ts) l = ((omega (arith, l), tt), ((omega (arith, l), tt), bounds_below m (suc n) ts (omega (arith, l))))

pub bounds_counted : (n made : ℕ) (ts : List (Option Ty)) → length (bounds n ts) ≡ length (bounds made ts)
bounds_counted n made [] = refl
bounds_counted n made (None ∷ ts) = bounds_counted (suc n) (suc made) ts
bounds_counted n made (Some types.Int ∷ ts) = bounds_counted (suc n) (suc made) ts
bounds_counted n made (Some types.Bool ∷ ts) = ap (λ (k : ℕ). suc (suc k)) (bounds_counted (suc n) (suc made) ts)
