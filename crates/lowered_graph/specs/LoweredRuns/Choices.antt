-- The choices of a run of a program, read off a run of its stack machine.
use Rattle.std.specs.Prelude.{◌≡◌, ℕ, suc, ◌+◌, ℤ, pos, nat_eq, List, [], ◌∷◌, ◌++◌, map, length, take, drop, Option, None, Some, slice_get, if◌then◌else◌}
use Rattle.boogie_tree.specs.declared.tree.VarInfo.{VarInfo}
use Rattle.typed_tree.specs.TypedTree.{TypedProcedure, TypedProgram}
use Rattle.lin_rows.specs.Points.{point_of}
use Rattle.letter_acts.specs.Values.{picked}
use Rattle.boogie_run.specs.BoogiePoints.Points.{Point}
use Rattle.boogie_run.specs.BoogiePoints.Actions as actions
use Rattle.boogie_run.specs.BoogiePoints.Actions.{Action, action_at, ensured_conditions}
use Rattle.boogie_run.specs.BoogiePoints.Starts.{targets_at}
use Rattle.boogie_run.specs.BoogiePlaces.Places.{number_of}
use Rattle.lowered_graph.specs.LoweredSteps.ProgramFrames.{frame_at, column_number}
use Rattle.lowered_graph.specs.LoweredSteps.Edges.{Spot, At, Wrong, numbers_in, columns_before_locals}
use Rattle.lowered_graph.specs.LoweredSteps.Stacks.{Stack, IsStep, IsExact}
use Rattle.lowered_graph.specs.LoweredImports.Imports.{import_choices, told_globals}
use Rattle.lowered_graph.specs.LoweredImports.Laws.{helpers_of}

-- ---- one step

-- the number of a place; 0 for the failing of an assertion
abbrev pub spot_place_number : TypedProgram → ℕ → Spot → ℕ
spot_place_number t n (At p) = number_of t (record { proc = n; point = p })
spot_place_number t n (Wrong i) = 0

-- the first of these ways that leads to the place of that number
abbrev pub way_to : TypedProgram → ℕ → ℕ → List Point → ℕ
way_to t n place [] = 0
way_to t n place (p ∷ ps) = if nat_eq (number_of t (record { proc = n; point = p })) place then 0 else suc (way_to t n place ps)

-- those of the steps of a call without body: of the values that are told of it
abbrev pub call_choices : List VarInfo → Option TypedProcedure → List ℕ → List ℤ → List ℤ → List (Option ℤ)
call_choices globals None targets helpers after = []
call_choices globals (Some q) targets helpers after =
    import_choices (told_globals globals q.modifies targets helpers after ++ picked after targets) (ensured_conditions q.specs)

-- The choices of the steps of a run that an action of procedure n stands for, with the helpers of the machine's step and the stack behind it: one a
-- step, None where nothing is chosen. An entry is followed by the choices of its results and locals.
abbrev pub choices_of : TypedProgram → ℕ → Point → Action → List ℤ → Stack → List (Option ℤ)
choices_of t n p (actions.Guess c next) helpers y = Some (point_of y.values (column_number (frame_at t n) c)) ∷ []
choices_of t n p (actions.Pick ways) helpers y = Some (pos (way_to t n (spot_place_number t n y.spot) ways)) ∷ []
choices_of t n p (actions.Enter f args) helpers y = None ∷ map Some (drop (columns_before_locals t + length args) y.values)
choices_of t n p (actions.Keep f args c next) helpers y = call_choices t.globals (slice_get t.procs f) (numbers_in (frame_at t n) (targets_at p.todo)) helpers y.values
choices_of t n p (actions.Grant f args e next) helpers y = call_choices t.globals (slice_get t.procs f) (numbers_in (frame_at t n) (targets_at p.todo)) helpers y.values
choices_of t n p (actions.Finish f args targets next) helpers y = call_choices t.globals (slice_get t.procs f) (numbers_in (frame_at t n) (targets_at p.todo)) helpers y.values
choices_of t n p a helpers y = None ∷ []

abbrev pub spot_choices : TypedProgram → ℕ → Spot → List ℤ → Stack → List (Option ℤ)
spot_choices t n (At p) helpers y = choices_of t n p (action_at t n p) helpers y
spot_choices t n (Wrong i) helpers y = []

-- ---- a run of the machine

-- a step, told as the stack behind it and its helpers
pub record ToldStep : Type 0 where
  pub after : Stack
  pub helpers : List ℤ

-- the step is an exact one, and its rows hold with these helpers
pub record IsToldStep (t : TypedProgram) (x : Stack) (s : ToldStep) : Type 0 where
  pub step : IsStep t x s.after
  pub exact : IsExact t x s.after step
  pub helpers : helpers_of t x s.after step ≡ s.helpers

-- steps that lead from a stack to the failing of the assertion of that number
abbrev pub AreToldSteps : TypedProgram → ℕ → Stack → List ToldStep → Type 0
AreToldSteps t i x [] = x.spot ≡ Wrong i
AreToldSteps t i x (s ∷ ss) = IsToldStep t x s × AreToldSteps t i s.after ss

-- their choices
abbrev pub told_choices : TypedProgram → Stack → List ToldStep → List (Option ℤ)
told_choices t x [] = []
told_choices t x (s ∷ ss) = spot_choices t x.proc x.spot s.helpers s.after ++ told_choices t s.after ss

-- and before them those of the start: the constants and globals, and the locals of the entry
abbrev pub machine_choices : TypedProgram → Stack → List ToldStep → List (Option ℤ)
machine_choices t x ss = map Some (take (length t.globals) x.values) ++ (map Some (drop (columns_before_locals t) x.values) ++ told_choices t x ss)
