-- When a number fits.
use Rattle.std.specs.Prelude.{◌^◌, ◌<◌, ℤ, unsigned_abs}

-- its magnitude is at most 2^127 - 1
abbrev pub Fits : ℤ → Type 0
Fits z = unsigned_abs z < 2 ^ 127
