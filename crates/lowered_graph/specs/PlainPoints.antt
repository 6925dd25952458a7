-- Programs that read no free product: no condition, value or argument of a point has one, nor does an ensures of a procedure without body that it calls.
use Rattle.std.specs.Prelude.{◌≡◌, ℕ, false, [], Option, None, Some, slice_get}
use Rattle.std.specs.List.{AllByRecursion}
use Rattle.typed_tree.specs.TypedTree.{TypedExpression, TypedProcedure, TypedProgram}
use Rattle.letter_acts.specs.Frames.{Columns}
use Rattle.cond_jumps.specs.Frames.{fixed_in}
use Rattle.cond_jumps.specs.FreeProducts.FreeProducts.{free_products}
use Rattle.boogie_run.specs.BoogiePoints.Points.{Point}
use Rattle.boogie_run.specs.BoogiePoints.Actions as actions
use Rattle.boogie_run.specs.BoogiePoints.Actions.{Action, action_at, ensured_conditions}
use Rattle.lowered_graph.specs.LoweredSteps.ProgramFrames.{frame_at}
use Rattle.lowered_graph.specs.LoweredImports.KnownPoints.{IsPointOf}

-- the expression has no free product
abbrev pub HasNone : Columns → TypedExpression → Type 0
HasNone frame e = free_products (fixed_in frame) false e ≡ []

-- the ensures of a procedure have none
abbrev pub EnsuresHaveNone : Columns → Option TypedProcedure → Type 0
EnsuresHaveNone frame None = Unit {0}
EnsuresHaveNone frame (Some q) = AllByRecursion (λ i. HasNone frame i.cond) (ensured_conditions q.specs)

-- what the action reads has none
abbrev pub IsPlainAction : TypedProgram → ℕ → Action → Type 0
IsPlainAction t n (actions.Check id at e next) = HasNone (frame_at t n) e
IsPlainAction t n (actions.Suppose e next) = HasNone (frame_at t n) e
IsPlainAction t n (actions.Demand id at e args next) = HasNone (frame_at t n) e × AllByRecursion (HasNone (frame_at t n)) args
IsPlainAction t n (actions.Write cs es next) = AllByRecursion (HasNone (frame_at t n)) es
IsPlainAction t n (actions.Guess c next) = Unit {0}
IsPlainAction t n (actions.Test e hit miss) = HasNone (frame_at t n) e
IsPlainAction t n (actions.Pick ways) = Unit {0}
IsPlainAction t n (actions.Jump next) = Unit {0}
IsPlainAction t n (actions.Enter f args) = AllByRecursion (HasNone (frame_at t n)) args
IsPlainAction t n (actions.Keep f args c next) = AllByRecursion (HasNone (frame_at t n)) args × EnsuresHaveNone (frame_at t n) (slice_get t.procs f)
IsPlainAction t n (actions.Grant f args e next) = AllByRecursion (HasNone (frame_at t n)) args × EnsuresHaveNone (frame_at t n) (slice_get t.procs f)
IsPlainAction t n (actions.Finish f args targets next) = AllByRecursion (HasNone (frame_at t n)) args × EnsuresHaveNone (frame_at t n) (slice_get t.procs f)
IsPlainAction t n actions.Leave = Unit {0}

-- every point reads no free product
abbrev pub PointsArePlain : TypedProgram → Type 0
PointsArePlain t = (n : ℕ) (p : Point) → IsPointOf t n p → IsPlainAction t n (action_at t n p)
