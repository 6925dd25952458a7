-- How an object of the outside counts the faults that it had.
use Rattle.std.specs.Prelude.{◌≡◌, ℕ, ◌+◌, ◌-◌, ◌^◌, ◌<◌, ◌⊎◌, min}

-- A call raised the count from old to new. A count that has reached the end of its type stands still there.
abbrev pub Rose : ℕ → ℕ → Type 0
Rose old new = (old < new) ⊎ (new ≡ 2 ^ 64 - 1)

-- a count after one more, which stands still at the end of its type
abbrev pub next_count : ℕ → ℕ
next_count count = min (count + 1) (2 ^ 64 - 1)
