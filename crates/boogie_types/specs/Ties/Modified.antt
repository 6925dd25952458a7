-- The faults of modifies lists.
use Rattle.std.specs.Prelude.{◌≡◌, ℕ, List, Option, None, Some, Contains}
use Rattle.boogie_tree.specs.declared.tree.Name.{Name}
use Rattle.boogie_tree.specs.declared.tree.VarInfo.{VarInfo}
use Rattle.typed_tree.specs.declared.fault.TypeFault.{TypeFault}
use Rattle.typed_tree.specs.declared.fault.TypeFault.TheVariants as fault
use Rattle.boogie_types.specs.Meanings.{number_from}
use Rattle.boogie_types.specs.Naming.{each}
use Rattle.boogie_types.specs.Ties.NamingFaults.{OrMemory}
use Rattle.boogie_types.specs.Resolved.{modified_number}

-- the numbers of the globals with these names, where none is a constant
abbrev pub modified_numbers : List VarInfo → List Name → Option (List ℕ)
modified_numbers globals xs = each (λ x. modified_number globals x.text) xs

-- one of the names means nothing, or a constant
pub data AreModifiedWrong (globals : List VarInfo) (xs : List Name) : TypeFault → Type 0 where
  unknown_name : (x : Name) → Contains xs x → number_from 0 x.text globals ≡ None → AreModifiedWrong globals xs (fault.Unknown x.span)
  constant_name : (x : Name) (n : ℕ) → Contains xs x → number_from 0 x.text globals ≡ Some n → modified_number globals x.text ≡ None → AreModifiedWrong globals xs (fault.NotAssignable x.span)

abbrev pub AreModifiedFault : List VarInfo → List Name → TypeFault → Type 0
AreModifiedFault globals xs f = OrMemory f (AreModifiedWrong globals xs f)
