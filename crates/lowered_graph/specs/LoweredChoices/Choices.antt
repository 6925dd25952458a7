-- The choices of a run of a program, told of a trace in its graph.
use Rattle.std.specs.Prelude.{◌≡◌, ℕ, ◌-◌, ℤ, List, [], ◌∷◌, ◌++◌, map, length, Option, None, Some, slice_get}
use Rattle.typed_tree.specs.TypedTree.{TypedProgram}
use Rattle.boogie_run.specs.BoogiePlaces.Places.{Place, number_of, program_places}
use Rattle.boogie_run.specs.Configurations.{Config, state_of}
use Rattle.boogie_run.specs.Steps.{Went, Failed, start, step}
use Rattle.boogie_run.specs.Runs.{run}
use Rattle.lowered_graph.specs.LoweredSteps.ProgramFrames.{shown}
use Rattle.lowered_graph.specs.LoweredSteps.Edges.{At, Wrong}
use Rattle.lowered_graph.specs.LoweredSteps.Stacks.{Stack}
use Rattle.lowered_graph.specs.LoweredRuns.Choices.{ToldStep, machine_choices}
use Rattle.lowered_graph.specs.LoweredChoices.Traces.{TracePosition}

-- ---- choices

-- What choices are read off: a place of the program with these values. Where it is none, an assertion fails; the calls that are open are not read.
abbrev pub standing : List ℤ → Option Place → Stack
standing values None = record { proc = 0; spot = Wrong 0; values = values; below = [] }
standing values (Some p) = record { proc = p.proc; spot = At p.point; values = values; below = [] }

-- the same by the number of the place: the places of a program are numbered from 1 on, behind the start
abbrev pub stack_at : TypedProgram → TracePosition → Stack
stack_at t x = standing x.values (slice_get (program_places t) (x.place - 1))

abbrev pub step_to : TypedProgram → TracePosition → ToldStep
step_to t x = record { after = stack_at t x; helpers = x.helpers }

-- The choices that are told of the positions behind the letters, one for each step of the run, None where it takes none: those of the start, from the
-- position behind the first letter, and those of each further letter.
abbrev pub trace_choices : TypedProgram → List TracePosition → List (Option ℤ)
trace_choices t [] = []
trace_choices t (x ∷ xs) = machine_choices t (stack_at t x) (map (step_to t) xs)

-- how many steps the run makes
abbrev pub trace_steps : TypedProgram → List TracePosition → ℕ
trace_steps t xs = length (trace_choices t xs)

-- ---- runs that fail

-- The run that takes these choices, one a step, fails the assertion of that number with the last of them, and not before.
pub record FailsAtLast (t : TypedProgram) (choices : List (Option ℤ)) (i : ℕ) : Type 0 where
  pub before : List (Option ℤ)
  pub last : Option ℤ
  pub are : choices ≡ before ++ last ∷ []
  pub here : Config
  pub leads : run t (start t) before ≡ Went here
  pub fails : step t here last ≡ Failed i

-- The run that takes these choices has come to the place of the position, with the values there.
pub record ComesTo (t : TypedProgram) (choices : List (Option ℤ)) (x : TracePosition) : Type 0 where
  pub here : Config
  pub leads : run t (start t) choices ≡ Went here
  pub place : number_of t (record { proc = here.top.proc; point = here.top.point }) ≡ x.place
  pub values : shown t (state_of here) ≡ x.values
