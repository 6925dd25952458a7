-- What the reading of values may answer.
use Rattle.std.specs.Prelude.{◌≡◌, ℤ, Result, Ok, Err}
use Rattle.math_facts.specs.Fits.{Fits}
use Rattle.boogie_run.specs.declared.types.RunFault.{RunFault}
use Rattle.boogie_run.specs.declared.types.RunFault.TheVariants.{Number, Memory, NeedsChoice, BadChoice}

-- the value, where the values of its parts fit, and Number where they do not
abbrev pub IsValue : ℤ → Type 0 → Result ℤ RunFault → Type 0
IsValue z fit (Ok n) = (n ≡ z) × Fits z × fit
IsValue z fit (Err e) = (e ≡ Number) × (fit → ⊥)

-- Number comes only where something does not fit, and otherwise the memory is out.
abbrev pub IsCause : Type 0 → RunFault → Type 0
IsCause fit Number = fit → ⊥
IsCause fit Memory = Unit {0}
IsCause fit NeedsChoice = ⊥
IsCause fit BadChoice = ⊥
