-- The configurations of runs of which nodes speak, and what is seen of them.
use Rattle.std.specs.Prelude.{◌≡◌, ℕ, ℤ, List, length, take, Option, None, Some, slice_get}
use Rattle.typed_tree.specs.TypedTree.{TypedProcedure, TypedProgram}
use Rattle.typed_tree.specs.Values.{State}
use Rattle.letter_acts.specs.Meaning.{Situation}
use Rattle.boogie_run.specs.BoogiePlaces.Places.{number_of, program_places, IsPlaceIn}
use Rattle.boogie_run.specs.Configurations.{Config, state_of}
use Rattle.boogie_run.specs.Needs.{locals_at}
use Rattle.boogie_run.specs.Steps.{Went, start}
use Rattle.boogie_run.specs.Runs.{run}
use Rattle.lowered_graph.specs.LoweredSteps.ProgramFrames.{shown}
use Rattle.lowered_graph.specs.LoweredSteps.Moves.{HasTypes}

-- All constants, globals and locals of the frame that runs are chosen, and it stands at a place of the program: no call without body is under way.
pub record IsWhole (t : TypedProgram) (c : Config) : Type 0 where
  pub globals : length c.globals ≡ length t.globals
  pub locals : length c.top.locals ≡ length (locals_at t c.top.proc)
  pub at : IsPlaceIn (program_places t) (record { proc = c.top.proc; point = c.top.point })

-- some run comes to the configuration, and it is whole
pub record IsReached (t : TypedProgram) (c : Config) : Type 0 where
  pub choices : List (Option ℤ)
  pub goes : run t (start t) choices ≡ Went c
  pub whole : IsWhole t c

-- a state of a frame of procedure n
abbrev pub situation : TypedProgram → ℕ → State → Situation
situation t n s = record { proc = n; values = shown t s }

-- where the frame that runs stands, and its state
abbrev pub seen : TypedProgram → Config → ℕ × Situation
seen t c = (number_of t (record { proc = c.top.proc; point = c.top.point }), situation t c.top.proc (state_of c))

abbrev pub params_of : Option TypedProcedure → ℕ
params_of None = 0
params_of (Some q) = q.params

-- The frame that runs may have been entered with these locals: each is of its type, and the parameters are those that it has.
pub record MayEnter (t : TypedProgram) (c : Config) (locals : List ℤ) : Type 0 where
  pub typed : HasTypes (locals_at t c.top.proc) locals
  pub same : take (params_of (slice_get t.procs c.top.proc)) locals ≡ take (params_of (slice_get t.procs c.top.proc)) c.top.locals

-- Its state then: the constants and globals, and their old values, are those at its entry.
abbrev pub at_entry : TypedProgram → Config → List ℤ → Situation
at_entry t c locals = situation t c.top.proc (record { globals = c.top.entry; old = c.top.entry; locals = locals })
