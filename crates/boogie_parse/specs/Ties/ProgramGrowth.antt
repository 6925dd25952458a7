-- What more room changes.
use Rattle.std.specs.Prelude.{◌≡◌, ℕ, Result, Ok, Err}
use Rattle.boogie_parse.specs.declared.fault.Fault.{Fault}
use Rattle.boogie_parse.specs.declared.fault.Fault.TheVariants as faults
use Rattle.boogie_parse.specs.declared.fault.Which.{Which}
use Rattle.boogie_parse.specs.declared.fault.Which.TheVariants as limits

-- What is read or refused is so in the other outcome too. What is past a limit is so where the room of that kind is the same.
abbrev pub Keeps : (Which → Type 0) → {X : Type 0} → Result X Fault → Result X Fault → Type 0
Keeps IsSame (Ok x) y = y ≡ Ok x
Keeps IsSame (Err (faults.Limit which line col)) y = IsSame which → y ≡ Err (faults.Limit which line col)
Keeps IsSame (Err f) y = y ≡ Err f

-- The room of that kind is the same: a depth of 200 and d, p and q parentheses, b and c blocks, v and w variables, n and m procedures. A literal is read
-- before there is any room.
abbrev pub IsSameRoom : ℕ → ℕ → ℕ → ℕ → ℕ → ℕ → ℕ → ℕ → ℕ → Which → Type 0
IsSameRoom d p q b c v w n m limits.Literal = Unit {0}
IsSameRoom d p q b c v w n m limits.Nesting = (d ≡ 200) × (p ≡ q) × (b ≡ c)
IsSameRoom d p q b c v w n m limits.Procedures = n ≡ m
IsSameRoom d p q b c v w n m limits.Variables = v ≡ w
