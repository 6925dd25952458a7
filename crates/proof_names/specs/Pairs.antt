-- Two lists whose members are related in pairs, by their place.
use Rattle.std.specs.Prelude.{◌≡◌, ℕ, ◌+◌, ◌<◌, List, length, Some, slice_get}

-- the lists are as long, and the members at each place are related
pub record ArePaired {X Y : Type 0} (R : ℕ → X → Y → Type 0) (xs : List X) (ys : List Y) : Type 0 where
  pub count : length ys ≡ length xs
  pub related : (k : ℕ) (x : X) (y : Y) → slice_get xs k ≡ Some x → slice_get ys k ≡ Some y → R k x y

-- the member at this place is the first to which nothing is related
pub record IsFirstWithout {X Y : Type 0} (R : ℕ → X → Y → Type 0) (xs : List X) (k : ℕ) : Type 0 where
  pub member : X
  pub stands : slice_get xs k ≡ Some member
  pub none : (y : Y) → R k member y → ⊥
  pub before : (j : ℕ) (x : X) → j < k → slice_get xs j ≡ Some x → (y : Y) × R j x y

-- the same place, counted from a first one on
pub record IsAt {X Y : Type 0} (R : ℕ → X → Y → Type 0) (xs : List X) (first item : ℕ) : Type 0 where
  pub place : ℕ
  pub counted : item ≡ first + place
  pub is_first : IsFirstWithout R xs place
