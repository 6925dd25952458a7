-- Targets, of which no two have one name.
use Rattle.std.proofs.Common.{◌≡◌, ◌<◌, Bool, true, List, [], ◌∷◌, length, None, Some, ap, refl, ◌∙◌, sym, subst, arith, if◌then◌else◌}
use Rattle.boogie_tree.specs.declared.tree.Name.{Name}
use Rattle.boogie_tree.specs.declared.tree.Column.{Column}
use Rattle.typed_tree.specs.Scope.{Scope}
use Rattle.typed_tree.specs.declared.fault.TypeFault.{TypeFault}
use Rattle.typed_tree.specs.declared.fault.TypeFault.TheVariants as fault
use Rattle.boogie_types.specs.Naming.{columns_of, targets_of}
use Rattle.boogie_types.specs.Resolved.{is_set}
use Rattle.boogie_types.specs.Ties.Numbers.{IsTwiceFault}
use Rattle.boogie_types.specs.BrokenNames.{IsTargetWrong, second_target}
use Rattle.boogie_types.specs.Ties.NamingFaults.{IsTargetsFault}

-- one name, or none, is a set
pub few_are_set : (xs : List Name) → length xs < 2 → is_set xs ≡ true
few_are_set [] few = refl
few_are_set (x ∷ []) few = refl
few_are_set (x ∷ y ∷ xs) few = absurd (omega arith)

-- the columns of a set of targets
pub targets_are : (s : Scope) (xs : List Name) (cs : List Column) → is_set xs ≡ true → columns_of s xs ≡ Some cs → targets_of s xs ≡ Some cs
targets_are s xs cs set_ is = ap (λ (b : Bool). if b then columns_of s xs else None) set_ ∙ is

-- a name that stands twice
pub fault_of_second : (s : Scope) (xs : List Name) (f : TypeFault) → IsTwiceFault xs f → IsTargetsFault s xs f
fault_of_second s xs fault.Memory b = tt
fault_of_second s xs (fault.Twice at) (x, h, is) = subst (λ t. IsTargetWrong s xs (fault.Twice t)) (sym is) (second_target xs x h)
fault_of_second s xs (fault.Unknown at) b = absurd b
fault_of_second s xs (fault.Mismatch at) b = absurd b
fault_of_second s xs (fault.NotAssignable at) b = absurd b
fault_of_second s xs (fault.NotModified at) b = absurd b
fault_of_second s xs fault.NoEntry b = absurd b
fault_of_second s xs (fault.ZeroDivisor at) b = absurd b
fault_of_second s xs (fault.NonLinear at) b = absurd b
fault_of_second s xs (fault.BadGoto at) b = absurd b
fault_of_second s xs (fault.TooBig at) b = absurd b
