-- A number that may be missing.
use Rattle.std.specs.Prelude.{ℤ, pos, Option, None, Some}

-- the number, 0 where there is none
abbrev pub or_zero : Option ℤ → ℤ
or_zero None = pos 0
or_zero (Some z) = z
