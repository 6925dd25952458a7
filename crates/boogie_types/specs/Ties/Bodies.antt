-- The body of a procedure at a place, if there is one.
use Rattle.std.specs.Prelude.{◌≡◌, ℕ, List, [], length, Option, None, Some}
use Rattle.std.specs.Option.{option_map}
use Rattle.std.specs.Borrow.{Bor}
use Rattle.boogie_tree.specs.declared.tree.Body.{Body}
use Rattle.boogie_tree.specs.declared.tree.VarInfo.{VarInfo}
use Rattle.boogie_tree.specs.Tree.{Declaration, Procedure, ProcedureBody}
use Rattle.boogie_tree.specs.View as view
use Rattle.typed_tree.specs.declared.fault.TypeFault.{TypeFault}
use Rattle.typed_tree.specs.TypedTree.{TypedBlock}
use Rattle.typed_tree.specs.Scope.{body_scope}
use Rattle.boogie_types.specs.Sorted.{declared_globals, procedures_of, declared_locals, labels_if_any}
use Rattle.boogie_types.specs.Ties.Numbers.{texts}
use Rattle.boogie_types.specs.Naming.{NamingPlace, named_block, hidden_in_block}
use Rattle.boogie_types.specs.BrokenNames.{IsMisnamedIn}
use Rattle.boogie_types.specs.Ties.NamingFaults.{OrMemory}

-- the body behind a reference
abbrev pub body_by : Option (Bor Body) → Option ProcedureBody
body_by b = option_map (λ x. view.body x.now) b

-- a body at that place with its names replaced
abbrev pub body_at : NamingPlace → Option ProcedureBody → Option (Option TypedBlock)
body_at p None = Some None
body_at p (Some b) = option_map Some (named_block p None 0 b.stmts)

-- how many hidden locals it needs
abbrev pub hidden_at : NamingPlace → Option ProcedureBody → ℕ
hidden_at p None = 0
hidden_at p (Some b) = hidden_in_block p b.stmts

-- a name of it means nothing there
abbrev pub IsBodyMisnamed : NamingPlace → Option ProcedureBody → TypeFault → Type 0
IsBodyMisnamed p b f = (x : ProcedureBody) × (b ≡ Some x) × IsMisnamedIn p None x.stmts f

abbrev pub IsBodyFault : NamingPlace → Option ProcedureBody → TypeFault → Type 0
IsBodyFault p b f = OrMemory f (IsBodyMisnamed p b f)

-- the place at which the statements of a body begin, with these globals, procedures, locals and labels
abbrev pub place_among : List VarInfo → List Procedure → List VarInfo → List (List ℕ) → NamingPlace
place_among globals procs locals labels =
    record { scope = body_scope globals locals; procs = procs; declared = length locals; labels = labels; loops = [] }

-- the place at which the statements of that body begin, if there is one
abbrev pub first_place : List Declaration → Procedure → Option ProcedureBody → NamingPlace
first_place ds p b = place_among (declared_globals ds) (procedures_of ds) (declared_locals p b) (texts (labels_if_any b))
