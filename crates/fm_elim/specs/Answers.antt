-- The answers of the elimination as contracts see them.
use Rattle.std.specs.Prelude.{◌≡◌, Option, Result, IfSome}
use Rattle.std.specs.Result.{MatchResult}
use Rattle.frac.specs.Fractions.{Fraction, IsFraction}
use Rattle.lin_rows.specs.declared.types.RowFault.{RowFault}
use Rattle.lin_rows.specs.declared.types.RowFault.TheVariants as row_fault
use Rattle.fm_elim.specs.declared.types.Elim.{Elim}
use Rattle.fm_elim.specs.declared.types.Elim.TheVariants.{Refuted, Point}
use Rattle.fm_elim.specs.declared.types.ElimFault.{ElimFault}
use Rattle.fm_elim.specs.declared.types.ElimFault.TheVariants.{Past, Memory}
use Rattle.fm_elim.specs.declared.types.Aside.{Aside}
use Rattle.fm_elim.specs.declared.types.Aside.TheVariants.{Forced, Bounded}
use Rattle.fm_elim.specs.declared.types.Eliminated as eliminated
use Rattle.fm_elim.specs.Columns.{SetAside, forced, bounded, Eliminated}
use Rattle.fm_elim.specs.Elimination.{EliminationOutcome, refuted, point}

-- a fault of rows as a fault of the elimination
abbrev pub fault_of : RowFault → ElimFault
fault_of row_fault.Past = Past
fault_of row_fault.Memory = Memory

-- what an answer says
abbrev pub outcome_of : Elim → EliminationOutcome
outcome_of (Refuted parts) = refuted parts.items
outcome_of (Point values) = point values.items

-- what is set aside
abbrev pub aside_of : Aside → SetAside
aside_of (Forced e) = forced e
aside_of (Bounded lowers uppers) = bounded lowers.items uppers.items

-- what eliminating a column leaves
abbrev pub eliminated_of : eliminated.Eliminated → Eliminated
eliminated_of e = record { rows = e.rows.items; aside = aside_of e.aside }

-- the fault is want of memory, or not all numbers fit
abbrev pub PastOnly : ElimFault → Type 0 → Type 0
PastOnly Past NumbersFit = NumbersFit → ⊥
PastOnly Memory NumbersFit = Unit {0}

-- the answer is the value, and all its numbers fit; Past comes only where one does not
abbrev pub Exactly : {X : Type 0} → Result X ElimFault → (X → Type 0) → Type 0 → Type 0
Exactly result IsValue NumbersFit = MatchResult result (λ x. NumbersFit × IsValue x) (λ e. PastOnly e NumbersFit)

-- the fraction is that value, and both its parts fit
abbrev pub Gives : Fraction → Fraction → Type 0
Gives value f = IsFraction f × (f ≡ value)

-- the end is that one, or there is none, and both its parts fit
abbrev pub GivesEnd : Option Fraction → Option Fraction → Type 0
GivesEnd value end = IfSome end IsFraction × (end ≡ value)
