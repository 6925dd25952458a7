-- Difference rows.
use Rattle.std.specs.Prelude.{◌≡◌, ◌⊎◌, ℕ, ℤ, pos, negsuc, List, [], ◌∷◌}
use Rattle.lin_rows.specs.Rows.{LinearRow}

-- no term; one with the coefficient 1 or -1; or two, one with 1 and one with -1
abbrev pub AreOfDifference : List (ℕ × ℤ) → Type 0
AreOfDifference [] = Unit {0}
AreOfDifference (t ∷ []) = (t.1 ≡ pos 1) ⊎ (t.1 ≡ negsuc 0)
AreOfDifference (t ∷ u ∷ []) = ((t.1 ≡ pos 1) × (u.1 ≡ negsuc 0)) ⊎ ((t.1 ≡ negsuc 0) × (u.1 ≡ pos 1))
AreOfDifference (t ∷ u ∷ v ∷ ts) = ⊥

abbrev pub IsDifference : LinearRow → Type 0
IsDifference r = AreOfDifference r.terms
