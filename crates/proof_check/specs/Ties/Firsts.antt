-- The first member of a list that lacks a property.
use Rattle.std.specs.Prelude.{◌≡◌, ℕ, ◌<◌, List, Option, None, Some, slice_get}

-- the member at this place, if there is one, has the property
abbrev pub HasAt : {X : Type 0} → (ℕ → X → Type 0) → List X → ℕ → Type 0
HasAt {X} P xs k = (x : X) → slice_get xs k ≡ Some x → P k x

-- none where all members have the property, else the first that lacks it
abbrev pub IsFirstOf : {X : Type 0} → (ℕ → X → Type 0) → List X → Option ℕ → Type 0
IsFirstOf P xs None = (k : ℕ) → HasAt P xs k
IsFirstOf P xs (Some k) = ((j : ℕ) → j < k → HasAt P xs j) × (HasAt P xs k → ⊥)
