-- Counts of columns in 32 bits.
use Rattle.std.specs.Prelude.{◌≡◌, ℕ, ◌≤◌, ◌^◌, Option, None, Some}

-- so many, or none where that is 2^32 or more
abbrev pub IsCount : ℕ → Option ℕ → Type 0
IsCount n None = 2 ^ 32 ≤ n
IsCount n (Some m) = m ≡ n
