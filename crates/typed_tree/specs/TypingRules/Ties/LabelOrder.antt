-- Labels that count up, one list after the other.
use Rattle.std.specs.Prelude.{ℕ, ◌+◌, nat_eq, List, [], ◌∷◌, Option, None, Some, if◌then◌else◌}

-- the number after the last where the numbers count up by one from n
abbrev pub counted_to : ℕ → List ℕ → Option ℕ
counted_to n [] = Some n
counted_to n (m ∷ ms) = if nat_eq n m then counted_to (n + 1) ms else None
