-- What an action tells without the points that it leads to, and the points by the numbers of the ways.
use Rattle.std.specs.Prelude.{ℕ, List, [], ◌∷◌, length}
use Rattle.boogie_tree.specs.declared.span.Span.{Span}
use Rattle.boogie_tree.specs.declared.tree.Column.{Column}
use Rattle.typed_tree.specs.TypedTree.{TypedExpression}
use Rattle.boogie_run.specs.BoogiePoints.Points.{Point}
use Rattle.boogie_run.specs.BoogiePoints.Actions as actions

-- an action without its points; a choice of ways has their number
pub data Told : Type 0 where
  Check : ℕ → Span → TypedExpression → Told
  Suppose : TypedExpression → Told
  Demand : ℕ → Span → TypedExpression → List TypedExpression → Told
  Write : List Column → List TypedExpression → Told
  Guess : Column → Told
  Test : TypedExpression → Told
  Pick : ℕ → Told
  Jump : Told
  Enter : ℕ → List TypedExpression → Told
  Keep : ℕ → List TypedExpression → Column → Told
  Grant : ℕ → List TypedExpression → TypedExpression → Told
  Finish : ℕ → List TypedExpression → List Column → Told
  Leave : Told

abbrev pub told : actions.Action → Told
told (actions.Check id at e next) = Check id at e
told (actions.Suppose e next) = Suppose e
told (actions.Demand id at e args next) = Demand id at e args
told (actions.Write cs es next) = Write cs es
told (actions.Guess c next) = Guess c
told (actions.Test e hit miss) = Test e
told (actions.Pick ways) = Pick (length ways)
told (actions.Jump next) = Jump
told (actions.Enter f args) = Enter f args
told (actions.Keep f args c next) = Keep f args c
told (actions.Grant f args e next) = Grant f args e
told (actions.Finish f args targets next) = Finish f args targets
told actions.Leave = Leave

-- the points that an action leads to in its own frame, by number: of a test first where it is true, then where it is false
abbrev pub ways_of : actions.Action → List Point
ways_of (actions.Check id at e next) = next ∷ []
ways_of (actions.Suppose e next) = next ∷ []
ways_of (actions.Demand id at e args next) = next ∷ []
ways_of (actions.Write cs es next) = next ∷ []
ways_of (actions.Guess c next) = next ∷ []
ways_of (actions.Test e hit miss) = hit ∷ miss ∷ []
ways_of (actions.Pick ways) = ways
ways_of (actions.Jump next) = next ∷ []
ways_of (actions.Enter f args) = []
ways_of (actions.Keep f args c next) = next ∷ []
ways_of (actions.Grant f args e next) = next ∷ []
ways_of (actions.Finish f args targets next) = next ∷ []
ways_of actions.Leave = []
