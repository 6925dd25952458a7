-- What the places of a program choose: by the actions there.
use Rattle.std.specs.Prelude.{ℕ, List, map, length}
use Rattle.typed_tree.specs.TypedTree.{TypedProgram}
use Rattle.boogie_run.specs.BoogiePoints.Points.{Point}
use Rattle.boogie_run.specs.BoogiePoints.Actions as actions
use Rattle.boogie_run.specs.BoogiePoints.Actions.{Action, action_at}
use Rattle.boogie_run.specs.BoogiePoints.Starts.{targets_at}
use Rattle.boogie_run.specs.BoogiePlaces.Places.{Place, program_places}
use Rattle.lowered_graph.specs.LoweredSteps.ProgramFrames.{frame_at, column_number}
use Rattle.lowered_graph.specs.LoweredSteps.Edges.{numbers_in}

pub data PlainKind : Type 0 where
  -- nothing
  Silent : PlainKind
  -- a value for the column of this number
  Guesses : ℕ → PlainKind
  -- one of several ways
  Picks : PlainKind
  -- after an entry with so many arguments, the results and locals of the callee
  Enters : ℕ → PlainKind
  -- all that a call of this procedure, which has no body, chooses, with the numbers of its targets
  Imports : ℕ → List ℕ → PlainKind

abbrev pub kind_of : TypedProgram → ℕ → Point → Action → PlainKind
kind_of t n p (actions.Guess c next) = Guesses (column_number (frame_at t n) c)
kind_of t n p (actions.Pick ways) = Picks
kind_of t n p (actions.Enter f args) = Enters (length args)
kind_of t n p (actions.Keep f args c next) = Imports f (numbers_in (frame_at t n) (targets_at p.todo))
kind_of t n p (actions.Grant f args e next) = Imports f (numbers_in (frame_at t n) (targets_at p.todo))
kind_of t n p (actions.Finish f args targets next) = Imports f (numbers_in (frame_at t n) (targets_at p.todo))
kind_of t n p a = Silent

abbrev pub kind_at : TypedProgram → Place → PlainKind
kind_at t place = kind_of t place.proc place.point (action_at t place.proc place.point)

-- those of all places, in the order of their numbers, which count from 1
abbrev pub place_kinds : TypedProgram → List PlainKind
place_kinds t = map (kind_at t) (program_places t)
