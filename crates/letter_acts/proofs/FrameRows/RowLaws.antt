-- Where rows over the columns of frames hold: rows with renamed columns, columns that are equal, and bounds.
use Rattle.std.proofs.Common.{◌≡◌, ◌↔◌, ◌⊎◌, ℕ, zero, suc, ℤ, pos, negsuc, ◌+ℤ◌, ◌*ℤ◌, ◌≤ℤ◌, List, [], ◌∷◌, Option, None, Some, refl, ap, subst, inl, inr, arith}
use Rattle.std.specs.Prelude.{map}
use Rattle.std.specs.List.{AllByRecursion}
use Rattle.std.proofs.lemmas.Int.{ints}
use Rattle.boogie_tree.specs.declared.tree.Ty.{Ty}
use Rattle.boogie_tree.specs.declared.tree.Ty.TheVariants as types
use Rattle.math_facts.specs.Terms.{dot}
use Rattle.lin_rows.specs.declared.types.RowKind.TheVariants.{Le, Eq}
use Rattle.lin_rows.specs.Rows.{LinearRow, Stands, Holds}
use Rattle.lin_rows.proofs.HoldsLaws.{holds-row_of}
use Rattle.letter_acts.specs.Frames.{IsValue}
use Rattle.letter_acts.specs.FrameRows.Rows.{renamed, equal_row, bounds_of}

-- ---- renamed columns

dot-renamed : (point : ℕ → ℤ) (to : ℕ → ℕ) (ts : List (ℕ × ℤ)) → dot point (map (λ t. (to t.0, t.1)) ts) ≡ dot (λ c. point (to c)) ts
dot-renamed point to [] = refl
dot-renamed point to (t ∷ ts) = ap (λ z. (t.1 *ℤ point (to t.0)) +ℤ z) (dot-renamed point to ts)

pub renamed_holds : (point : ℕ → ℤ) (to : ℕ → ℕ) (r : LinearRow) → Holds point (renamed to r) ↔ Holds (λ c. point (to c)) r
renamed_holds point to r =
    subst (λ (z : ℤ). Holds point (renamed to r) ↔ Stands r.kind z r.bound) (dot-renamed point to r.terms)
    (holds-row_of point (map (λ t. (to t.0, t.1)) r.terms) r.kind r.bound)

-- ---- equal columns

equal_sum : (x y : ℤ) → ((pos 1 *ℤ x) +ℤ ((negsuc 0 *ℤ y) +ℤ pos 0) ≡ pos 0) ↔ (x ≡ y)
equal_sum x y = (λ h. omega (arith, ints), λ h. omega (arith, ints))

pub equal_holds : (point : ℕ → ℤ) (a b : ℕ) → Holds point (equal_row a b) ↔ (point a ≡ point b)
equal_holds point a b =
    let r = holds-row_of point ((a, pos 1) ∷ (b, negsuc 0) ∷ []) Eq (pos 0) in
    let e = equal_sum (point a) (point b) in
    (λ h. e.0 (r.0 h), λ h. r.1 (e.1 h))

-- ---- bounds

-- a value of a type, if there is one
abbrev pub IsValueOf : Option Ty → ℤ → Type 0
IsValueOf None v = Unit {0}
IsValueOf (Some t) v = IsValue t v

zero_or_one : (z : ℤ) → ((negsuc 0 *ℤ z) +ℤ pos 0) ≤ℤ pos 0 → ((pos 1 *ℤ z) +ℤ pos 0) ≤ℤ pos 1 → (z ≡ pos 0) ⊎ (z ≡ pos 1)
zero_or_one (pos zero) l h = inl refl
zero_or_one (pos (suc zero)) l h = inr refl
zero_or_one (pos (suc (suc n))) l h = absurd (omega (arith, ints))
zero_or_one (negsuc n) l h = absurd (omega (arith, ints))

not_negative : (z : ℤ) → (z ≡ pos 0) ⊎ (z ≡ pos 1) → ((negsuc 0 *ℤ z) +ℤ pos 0) ≤ℤ pos 0
not_negative z (inl e) = omega (arith, ints)
not_negative z (inr e) = omega (arith, ints)

one_at_most : (z : ℤ) → (z ≡ pos 0) ⊎ (z ≡ pos 1) → ((pos 1 *ℤ z) +ℤ pos 0) ≤ℤ pos 1
one_at_most z (inl e) = omega (arith, ints)
one_at_most z (inr e) = omega (arith, ints)

pub bound_holds : (point : ℕ → ℤ) (c : ℕ) (t : Option Ty) → AllByRecursion (Holds point) (bounds_of c t) ↔ IsValueOf t (point c)
bound_holds point c None = (λ h. tt, λ h. tt)
bound_holds point c (Some types.Int) = (λ h. tt, λ h. tt)
bound_holds point c (Some types.Bool) =
    let l = holds-row_of point ((c, negsuc 0) ∷ []) Le (pos 0) in
    let u = holds-row_of point ((c, pos 1) ∷ []) Le (pos 1) in
    (λ h. zero_or_one (point c) (l.0 h.0) (u.0 h.1.0), λ h. (l.1 (not_negative (point c) h), (u.1 (one_at_most (point c) h), tt)))
