-- Whether Decide without cuts refutes a system.
use Rattle.std.specs.Prelude.{ℕ}
use Rattle.lin_rows.specs.declared.systems.System.{System}
use Rattle.lin_rows.specs.Points.{point_of}
use Rattle.lin_rows.specs.Systems.{Meets}
use Rattle.int_decide.specs.declared.types.Uncut.{Uncut}
use Rattle.int_decide.specs.declared.types.Uncut.TheVariants.{Refuted, Met, Unrefuted}
use Rattle.int_decide.specs.Answers.{RefutesWithin}
use Rattle.int_decide.specs.Decide.{decide}
use Rattle.int_decide.specs.Numbers.{DecideFits}
use Rattle.int_decide.specs.Worth.{IsRefuted}

-- Decide without cuts does not refute the system over n columns within the numbers that fit
abbrev pub IsNotRefuted : ℕ → System → Type 0
IsNotRefuted n s = IsRefuted (decide n 0 s) → DecideFits n 0 s → ⊥

-- what is found out is true of the system over n columns: a refutation refutes it without cuts; else Decide does not, and a whole
-- point meets it
abbrev pub IsUncutOf : ℕ → System → Uncut → Type 0
IsUncutOf n s (Refuted nodes) = RefutesWithin 0 s nodes
IsUncutOf n s (Met values) = Meets (point_of values.items) s × IsNotRefuted n s
IsUncutOf n s Unrefuted = IsNotRefuted n s
