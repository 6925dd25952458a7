-- The points of a typed program, and its calls of procedures without body.
use Rattle.std.specs.Prelude.{◌≡◌, ◌⊎◌, ℕ, List, Some, slice_get, IsTrue}
use Rattle.typed_tree.specs.TypedTree.{TypedExpression, TypedBlock, TypedProcedure, TypedProgram}
use Rattle.typed_tree.specs.TypingRules.ValidProgram.{is_valid}
use Rattle.boogie_run.specs.BoogiePoints.Points.{Point}
use Rattle.boogie_run.specs.BoogiePoints.Actions.{action_at}
use Rattle.boogie_run.specs.BoogiePlaces.Places.{points_of_body, start_points, IsOneOf}
use Rattle.lowered_graph.specs.LoweredSteps.Moves.{IsNoImport, KnowsPoints}
use Rattle.lowered_graph.specs.LoweredImports.Imports.{IsKnownImport}

-- a point of procedure n: one of its body, or one of the start where it is the entry
pub record IsPointOf (t : TypedProgram) (n : ℕ) (p : Point) : Type 0 where
  pub procedure : TypedProcedure
  pub body : TypedBlock
  pub is : slice_get t.procs n ≡ Some procedure
  pub has : procedure.body ≡ Some body
  pub among : IsOneOf (points_of_body t n procedure body) p ⊎ ((n ≡ t.entry) × IsOneOf (start_points t procedure) p)

-- the call at which a point stands
pub record StandsAtImport (t : TypedProgram) (n : ℕ) (p : Point) : Type 0 where
  pub callee : ℕ
  pub args : List TypedExpression
  pub known : IsKnownImport t n p callee args

-- The points of a typed program are typed and lead to points.
abbrev pub PointsAreKnown : Type 0
PointsAreKnown = (t : TypedProgram) → IsTrue (is_valid t) → KnowsPoints t (IsPointOf t)

-- Where a point chooses, assumes or writes something of a call without body, it stands at such a call, behind its requires.
abbrev pub ImportsAreKnown : Type 0
ImportsAreKnown = (t : TypedProgram) (n : ℕ) (p : Point) → IsTrue (is_valid t) → IsPointOf t n p → (IsNoImport (action_at t n p) → ⊥) → StandsAtImport t n p
