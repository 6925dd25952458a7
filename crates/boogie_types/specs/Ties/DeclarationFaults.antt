-- The faults of implementations, of procedures in a list, and of all declarations.
use Rattle.std.specs.Prelude.{◌≡◌, false, List, None, Some, Contains}
use Rattle.std.specs.Option.{is_none}
use Rattle.boogie_tree.specs.Tree.{Procedure, Declaration}
use Rattle.typed_tree.specs.declared.fault.TypeFault.{TypeFault}
use Rattle.typed_tree.specs.declared.fault.TypeFault.TheVariants as fault
use Rattle.boogie_types.specs.Sorted.{first_named}
use Rattle.boogie_types.specs.Resolved.{repeats}
use Rattle.boogie_types.specs.BrokenNames.{IsRuleBroken}
use Rattle.boogie_types.specs.Ties.NamingFaults.{OrMemory}
use Rattle.boogie_types.specs.Ties.ProcedureFaults.{IsProcedureBroken}

-- a rule on one implementation of these procedures is broken
pub data IsImplementationBroken (ps : List Procedure) (i : Procedure) : TypeFault → Type 0 where
  no_procedure : first_named i.name.text ps ≡ None → IsImplementationBroken ps i (fault.Unknown i.name.span)
  other_body : (p : Procedure) → first_named i.name.text ps ≡ Some p → is_none p.body ≡ false → IsImplementationBroken ps i (fault.Twice i.name.span)
  other_variables : (p : Procedure) → first_named i.name.text ps ≡ Some p → repeats i p ≡ false → IsImplementationBroken ps i (fault.Mismatch i.name.span)

-- that of one of these
abbrev pub AreImplementationsBroken : List Procedure → List Procedure → TypeFault → Type 0
AreImplementationsBroken ps is f = (i : Procedure) × Contains is i × IsImplementationBroken ps i f

-- a rule on the names of one of these procedures is broken, or memory ran out
abbrev pub AreProceduresRefused : List Declaration → List Procedure → TypeFault → Type 0
AreProceduresRefused ds ps f = OrMemory f ((p : Procedure) × Contains ps p × IsProcedureBroken ds p f)

-- a rule but that on the entry is broken, or memory ran out
abbrev pub IsRefused : List Declaration → TypeFault → Type 0
IsRefused ds fault.NoEntry = ⊥
IsRefused ds fault.Memory = Unit {0}
IsRefused ds f = IsRuleBroken ds f
