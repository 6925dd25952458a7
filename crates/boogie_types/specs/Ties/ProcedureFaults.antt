-- The faults of one procedure: a variable or a label that stands twice, or a name that means nothing.
use Rattle.std.specs.Prelude.{List}
use Rattle.boogie_tree.specs.declared.tree.Name.{Name}
use Rattle.boogie_tree.specs.Tree.{Procedure, Declaration}
use Rattle.typed_tree.specs.declared.fault.TypeFault.{TypeFault}
use Rattle.typed_tree.specs.declared.fault.TypeFault.TheVariants as fault
use Rattle.boogie_types.specs.Sorted.{body_of, variable_names, labels_if_any}
use Rattle.boogie_types.specs.BrokenNames.{IsSecond, IsProcedureMisnamed}
use Rattle.boogie_types.specs.Ties.NamingFaults.{OrMemory}

-- a rule on the names of one procedure is broken
pub data IsProcedureBroken (ds : List Declaration) (p : Procedure) : TypeFault → Type 0 where
  second_variable : (x : Name) → IsSecond (variable_names p (body_of ds p)) x → IsProcedureBroken ds p (fault.Twice x.span)
  second_label : (x : Name) → IsSecond (labels_if_any (body_of ds p)) x → IsProcedureBroken ds p (fault.Twice x.span)
  misnamed : (f : TypeFault) → IsProcedureMisnamed ds p f → IsProcedureBroken ds p f

abbrev pub IsProcedureRefused : List Declaration → Procedure → TypeFault → Type 0
IsProcedureRefused ds p f = OrMemory f (IsProcedureBroken ds p f)
