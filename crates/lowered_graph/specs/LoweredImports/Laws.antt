-- What a call of a procedure without body does, in a run and in the stack machine.
use Rattle.std.specs.Prelude.{◌≡◌, ℕ, ◌+◌, ◌<◌, ℤ, List, ◌++◌, map, length, Option, IsTrue}
use Rattle.typed_tree.specs.TypedTree.{TypedExpression, TypedProgram}
use Rattle.typed_tree.specs.TypingRules.ValidProgram.{is_valid}
use Rattle.lin_rows.specs.Points.{point_of}
use Rattle.boogie_run.specs.BoogiePoints.Actions.{ensured_conditions, chosen_columns}
use Rattle.boogie_run.specs.BoogiePoints.Starts.{targets_at}
use Rattle.boogie_run.specs.Configurations.{Config}
use Rattle.boogie_run.specs.Steps.{Failed}
use Rattle.boogie_run.specs.Runs.{run}
use Rattle.lowered_graph.specs.LoweredSteps.ProgramFrames.{frame_at}
use Rattle.lowered_graph.specs.LoweredSteps.Edges.{numbers_in}
use Rattle.lowered_graph.specs.LoweredSteps.Stacks.{Stack, IsStep, inside, call, back, IsExact}
use Rattle.lowered_graph.specs.LoweredSteps.Moves.{IsGood, shown_stack}
use Rattle.lowered_graph.specs.LoweredImports.Imports.{IsKnownImport, IsImport, import_choices, told_globals}
use Rattle.lowered_graph.specs.LoweredImports.KnownPoints.{IsPointOf}

-- the choices of the steps of a whole call
abbrev pub choices_of : (t : TypedProgram) (c d : Config) → IsImport t c d → List (Option ℤ)
choices_of t c d i = import_choices (i.held ++ i.results) (ensured_conditions i.known.procedure.specs)

-- A run that takes these choices is behind the call.
abbrev pub ImportsRun : Type 0
ImportsRun = (t : TypedProgram) (c d : Config) → IsGood t (IsPointOf t) c → (i : IsImport t c d) → (rest : List (Option ℤ)) →
    run t c (choices_of t c d i ++ rest) ≡ run t d rest

-- There is one for each step: for each value, for each ensures, and for the writing.
abbrev pub ChoicesAreSteps : Type 0
ChoicesAreSteps = (t : TypedProgram) (c d : Config) → (i : IsImport t c d) →
    length (choices_of t c d i) ≡ length (chosen_columns i.known.procedure) + (length (ensured_conditions i.known.procedure.specs) + 1)

-- a run that fails behind the call, in fewer steps
pub record FailsLater (t : TypedProgram) (c : Config) (choices : List (Option ℤ)) (n : ℕ) : Type 0 where
  pub behind : Config
  pub whole : IsImport t c behind
  pub rest : List (Option ℤ)
  pub fewer : length rest < length choices
  pub fails : run t behind rest ≡ Failed n

-- A run that stands at the call and fails an assertion fails it behind the call.
abbrev pub RunsImport : Type 0
RunsImport = (t : TypedProgram) (c : Config) (f : ℕ) (args : List TypedExpression) (choices : List (Option ℤ)) (n : ℕ) → IsGood t (IsPointOf t) c →
    IsKnownImport t c.top.proc c.top.point f args → run t c choices ≡ Failed n → FailsLater t c choices n

-- ---- in the stack machine

-- a step from a configuration at such a call: the whole call that it shows, with the values that its helpers and the state behind it tell
pub record IsToldBy (t : TypedProgram) (c : Config) (y : Stack) (helpers : List ℤ) : Type 0 where
  pub behind : Config
  pub whole : IsImport t c behind
  pub shown : y ≡ shown_stack t behind
  pub held : whole.held ≡ told_globals t.globals whole.known.procedure.modifies (numbers_in (frame_at t c.top.proc) (targets_at c.top.point.todo)) helpers y.values
  pub results : whole.results ≡ map (point_of y.values) (numbers_in (frame_at t c.top.proc) (targets_at c.top.point.todo))

-- the helpers with which the rows of a step hold
abbrev pub helpers_of : (t : TypedProgram) (x y : Stack) → IsStep t x y → List ℤ
helpers_of t x y (inside p e at among leads proc spot below) = leads.rows_hold.helpers
helpers_of t x y (call p f args c at is among leads proc spot below) = leads.rows_hold.helpers
helpers_of t x y (back p b args c at is opened calls among leads proc spot) = leads.rows_hold.helpers

-- A whole call is a step of the stacks that show it, and what configurations keep is kept.
abbrev pub ImportsGo : Type 0
ImportsGo = (t : TypedProgram) (c d : Config) → IsTrue (is_valid t) → IsGood t (IsPointOf t) c → IsImport t c d → IsStep t (shown_stack t c) (shown_stack t d) × IsGood t (IsPointOf t) d

-- And each exact step from such a configuration is a whole call.
abbrev pub ImportsBack : Type 0
ImportsBack = (t : TypedProgram) (c : Config) (f : ℕ) (args : List TypedExpression) (y : Stack) → IsTrue (is_valid t) → IsGood t (IsPointOf t) c → IsKnownImport t c.top.proc c.top.point f args →
    (s : IsStep t (shown_stack t c) y) → IsExact t (shown_stack t c) y s → IsToldBy t c y (helpers_of t (shown_stack t c) y s)
