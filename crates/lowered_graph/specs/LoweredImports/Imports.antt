-- A call of a procedure without body: what typing gives at it, and what all its steps together make of a configuration.
use Rattle.std.specs.Prelude.{◌≡◌, ℕ, zero, suc, ◌+◌, ◌≤◌, ℤ, pos, negsuc, true, false, List, [], ◌∷◌, ◌++◌, map, length, take, Option, None, Some, slice_get}
use Rattle.std.specs.List.{AllByRecursion}
use Rattle.boogie_tree.specs.declared.tree.Ty.{Ty}
use Rattle.boogie_tree.specs.declared.tree.Ty.TheVariants as types
use Rattle.boogie_tree.specs.declared.tree.VarInfo.{VarInfo}
use Rattle.typed_tree.specs.TypedTree.{TypedExpression, TypedInvariant, TypedProcedure, TypedProgram}
use Rattle.typed_tree.specs.Values.{value}
use Rattle.lin_rows.specs.Points.{point_of}
use Rattle.letter_acts.specs.Frames.{Columns, IsValue}
use Rattle.letter_acts.specs.Invariant.{AreDistinct}
use Rattle.cond_jumps.specs.Environments.{Environment}
use Rattle.cond_jumps.specs.Frames.{frame_environment}
use Rattle.cond_jumps.specs.Passing.{imported, standing_environment}
use Rattle.cond_jumps.specs.FreeProducts.FrameLaws.{IsDividedCondition}
use Rattle.boogie_run.specs.BoogiePoints.Points.{Point, settled, past_first}
use Rattle.boogie_run.specs.BoogiePoints.Actions.{plain_conditions, ensured_conditions, called_action, action_at}
use Rattle.boogie_run.specs.BoogiePoints.Starts.{targets_at}
use Rattle.boogie_run.specs.Configurations.{Config}
use Rattle.boogie_run.specs.Steps.{granted_state, finished, moved_to, is_true}
use Rattle.lowered_graph.specs.LoweredSteps.ProgramFrames.{frame_at}
use Rattle.lowered_graph.specs.LoweredSteps.Edges.{those_in, found_from, import_written, left_at, results_at, numbers_in}
use Rattle.lowered_graph.specs.LoweredSteps.Moves.{HasTypes, AreArguments, AreTargets}
use Rattle.typed_tree.specs.TypingRules.Rules.{results_of}

-- ---- what typing gives

-- the global varies
pub record IsModified (t : TypedProgram) (g : ℕ) : Type 0 where
  pub info : VarInfo
  pub is : slice_get t.globals g ≡ Some info
  pub varies : info.constant ≡ false

-- What stands for the columns in the ensures of procedure q, called with these arguments and targets from a frame, as typing reads them: the
-- arguments, the written columns behind the frame, and no products.
abbrev pub ensures_environment : Columns → List VarInfo → TypedProcedure → List TypedExpression → List ℕ → Environment
ensures_environment frame globals q args targets =
    standing_environment (frame_environment frame)
    (imported (left_at globals (length frame) q.modifies targets) args (results_at (length frame) (import_written q.modifies targets) targets (results_of q)))

-- such an ensures: typed where these stand for the columns, and its divisors are literals other than 0
abbrev pub IsEnsured : Columns → List VarInfo → TypedProcedure → List TypedExpression → List ℕ → TypedExpression → Type 0
IsEnsured frame globals q args targets e = IsDividedCondition (ensures_environment frame globals q args targets) e

-- the point with so many further parts done
abbrev pub later : Point → ℕ → Point
later p k = record p { part = p.part + k }

-- Point p of procedure n stands, behind the requires, at a call of procedure f, which has no body: what it modifies varies and differs; arguments
-- and targets are those of the procedure, the targets differ; each ensures is a condition.
pub record IsKnownImport (t : TypedProgram) (n : ℕ) (p : Point) (f : ℕ) (args : List TypedExpression) : Type 0 where
  pub procedure : TypedProcedure
  pub is : slice_get t.procs f ≡ Some procedure
  pub unseen : procedure.body ≡ None
  pub first : p.part ≡ length (plain_conditions procedure.specs)
  pub acts : (k : ℕ) → action_at t n (later p k) ≡ called_action f procedure None (targets_at p.todo) args k (later p k) (settled (past_first t.procs p.todo))
  pub enough : procedure.params + procedure.results ≤ length procedure.locals
  pub modified : AllByRecursion (IsModified t) procedure.modifies
  pub modified_differ : AreDistinct procedure.modifies
  pub arguments : AreArguments (frame_at t n) (take procedure.params procedure.locals) args
  pub targets : AreTargets t n (results_of procedure) (targets_at p.todo)
  pub targets_differ : AreDistinct (targets_at p.todo)
  pub ensured : AllByRecursion (λ i. IsEnsured (frame_at t n) t.globals procedure args (numbers_in (frame_at t n) (targets_at p.todo)) i.cond) (ensured_conditions procedure.specs)

-- ---- the whole call

-- a value of the type of the global with that number
abbrev pub IsGlobalValue : List VarInfo → ℕ → ℤ → Type 0
IsGlobalValue globals g z = (v : VarInfo) × (slice_get globals g ≡ Some v) × IsValue v.ty z

-- one for each of these globals
abbrev pub AreGlobalValues : List VarInfo → List ℕ → List ℤ → Type 0
AreGlobalValues globals [] [] = Unit {0}
AreGlobalValues globals [] (z ∷ zs) = ⊥
AreGlobalValues globals (g ∷ gs) [] = ⊥
AreGlobalValues globals (g ∷ gs) (z ∷ zs) = IsGlobalValue globals g z × AreGlobalValues globals gs zs

-- the configuration with these values kept
abbrev pub keeping : Config → List ℤ → Config
keeping c zs = record c { top = record c.top { kept = zs } }

-- All steps of a call without body: a value is chosen for each modified global and for each result, of its type, each ensures is true with these,
-- and they are written.
pub record IsImport (t : TypedProgram) (c d : Config) : Type 0 where
  pub callee : ℕ
  pub args : List TypedExpression
  pub known : IsKnownImport t c.top.proc c.top.point callee args
  pub held : List ℤ
  pub held_typed : AreGlobalValues t.globals known.procedure.modifies held
  pub results : List ℤ
  pub results_typed : HasTypes (results_of known.procedure) results
  pub granted : AllByRecursion (λ i. is_true (value (granted_state t (keeping c (held ++ results)) callee args) i.cond) ≡ true) (ensured_conditions known.procedure.specs)
  pub done : d ≡ moved_to (finished t (keeping c (held ++ results)) callee (targets_at c.top.point.todo)) (settled (past_first t.procs c.top.point.todo))

-- ---- its choices

-- nothing is chosen at an ensures
abbrev pub none_for : List TypedInvariant → List (Option ℤ)
none_for [] = []
none_for (i ∷ is) = None ∷ none_for is

-- the choices of its steps, one a step: each value, nothing at an ensures, and nothing where they are written
abbrev pub import_choices : List ℤ → List TypedInvariant → List (Option ℤ)
import_choices news is = map Some news ++ (none_for is ++ None ∷ [])

-- ---- what a step of the machine tells of it

-- A helper that stands for a truth value may have any number where no row names it; then 0 is chosen.
abbrev pub as_truth : ℤ → ℤ
as_truth (pos zero) = pos 0
as_truth (pos (suc zero)) = pos 1
as_truth (pos (suc (suc n))) = pos 0
as_truth (negsuc n) = pos 0

abbrev pub as_value : Ty → ℤ → ℤ
as_value types.Int z = z
as_value types.Bool z = as_truth z

abbrev pub value_of_variable : Option VarInfo → ℤ → ℤ
value_of_variable None z = z
value_of_variable (Some v) z = as_value v.ty z

-- the value that was chosen for a modified global: its value behind the call, or that of its helper where it is a target, too
abbrev pub told_global : List VarInfo → List ℤ → List ℤ → Option ℕ → ℕ → ℤ
told_global globals helpers after None g = point_of after g
told_global globals helpers after (Some k) g = value_of_variable (slice_get globals g) (point_of helpers k)

abbrev pub told_globals : List VarInfo → List ℕ → List ℕ → List ℤ → List ℤ → List ℤ
told_globals globals modified targets helpers after =
    map (λ g. told_global globals helpers after (found_from 0 (those_in targets modified) g) g) modified
