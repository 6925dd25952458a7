-- A line and what follows it, as they are found in a text.
use Rattle.std.specs.Prelude.{ℕ, List, Option, None, Some}
use Rattle.std.specs.Borrow.{Bor}

abbrev pub seen_line : Option (Bor (List ℕ) × Bor (List ℕ)) → Option (List ℕ × List ℕ)
seen_line None = None
seen_line (Some x) = Some (x.0.now, x.1.now)
