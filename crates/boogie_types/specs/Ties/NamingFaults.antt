-- The faults of names: a broken rule, or want of memory.
use Rattle.std.specs.Prelude.{◌≡◌, ℕ, List, Option, None, Some, Contains}
use Rattle.boogie_tree.specs.declared.tree.Name.{Name}
use Rattle.boogie_tree.specs.Tree.{Expression, Guard, Invariant, Statement, Block, Procedure, Declaration}
use Rattle.typed_tree.specs.declared.fault.TypeFault.{TypeFault}
use Rattle.typed_tree.specs.declared.fault.TypeFault.TheVariants as fault
use Rattle.typed_tree.specs.Scope.{Scope}
use Rattle.std.specs.List.{position_from}
use Rattle.boogie_types.specs.Naming.{NamingPlace, is_before_loop, procedure_number}
use Rattle.boogie_types.specs.BrokenNames.{IsUnknownIn, AreUnknownIn, IsTargetWrong, IsGuardUnknown, IsMisnamed, IsMisnamedIn, IsProcedureMisnamed}

-- the fault is want of memory, or the rule is broken
abbrev pub OrMemory : TypeFault → Type 0 → Type 0
OrMemory fault.Memory broken = Unit {0}
OrMemory f broken = broken

abbrev pub IsExpressionFault : Scope → Expression → TypeFault → Type 0
IsExpressionFault s e f = OrMemory f (IsUnknownIn s e f)

abbrev pub AreExpressionsFault : Scope → List Expression → TypeFault → Type 0
AreExpressionsFault s es f = OrMemory f (AreUnknownIn s es f)

abbrev pub IsTargetsFault : Scope → List Name → TypeFault → Type 0
IsTargetsFault s xs f = OrMemory f (IsTargetWrong s xs f)

abbrev pub IsGuardFault : Scope → Guard → TypeFault → Type 0
IsGuardFault s g f = OrMemory f (IsGuardUnknown s g f)

-- a condition of these has a name that means nothing there
abbrev pub IsInvariantUnknown : Scope → List Invariant → TypeFault → Type 0
IsInvariantUnknown s is f = (i : Invariant) × Contains is i × IsUnknownIn s i.cond f

abbrev pub IsInvariantsFault : Scope → List Invariant → TypeFault → Type 0
IsInvariantsFault s is f = OrMemory f (IsInvariantUnknown s is f)

abbrev pub IsStatementFault : NamingPlace → Option (List ℕ) → Statement → TypeFault → Type 0
IsStatementFault p before s f = OrMemory f (IsMisnamed p before s f)

abbrev pub IsBlockFault : NamingPlace → Option (List ℕ) → Block → TypeFault → Type 0
IsBlockFault p before b f = OrMemory f (IsMisnamedIn p before b f)

abbrev pub IsProcedureFault : List Declaration → Procedure → TypeFault → Type 0
IsProcedureFault ds p f = OrMemory f (IsProcedureMisnamed ds p f)

-- a break to a label that stands directly before none of these loops
abbrev pub IsLeavingFault : List (Option (List ℕ)) → Option Name → TypeFault → Type 0
IsLeavingFault loops None f = OrMemory f ⊥
IsLeavingFault loops (Some x) f = OrMemory f ((position_from (is_before_loop x.text) 0 loops ≡ None) × (f ≡ fault.BadGoto x.span))

-- a name of a call that means nothing there: the procedure, a target, or one of an argument
pub data IsCallUnknown (p : NamingPlace) (xs : List Name) (g : Name) (es : List Expression) : TypeFault → Type 0 where
  callee : procedure_number p g ≡ None → IsCallUnknown p xs g es (fault.Unknown g.span)
  target : (f : TypeFault) → IsTargetWrong p.scope xs f → IsCallUnknown p xs g es f
  argument : (f : TypeFault) → AreUnknownIn p.scope es f → IsCallUnknown p xs g es f

abbrev pub IsCallFault : NamingPlace → List Name → Name → List Expression → TypeFault → Type 0
IsCallFault p xs g es f = OrMemory f (IsCallUnknown p xs g es f)
