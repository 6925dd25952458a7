-- What is asked of whole calls of procedures without body.
use Rattle.std.specs.Prelude.{◌≡◌, ◌<◌, ◌++◌, ℕ, ℤ, List, length, Option}
use Rattle.typed_tree.specs.TypedTree.{TypedProgram}
use Rattle.boogie_run.specs.BoogiePoints.Points.{Point}
use Rattle.boogie_run.specs.BoogiePoints.Actions.{action_at}
use Rattle.boogie_run.specs.Configurations.{Config}
use Rattle.boogie_run.specs.Steps.{Failed}
use Rattle.boogie_run.specs.Runs.{run}
use Rattle.lowered_graph.specs.LoweredSteps.Stacks.{Stack, IsStep, IsExact}
use Rattle.lowered_graph.specs.LoweredSteps.Moves.{IsGood, IsNoImport, shown_stack}
use Rattle.lowered_graph.specs.LoweredRuns.Choices.{choices_of}
use Rattle.lowered_graph.specs.LoweredImports.Laws.{helpers_of}

-- a configuration stands at a call without body
abbrev pub IsAtImport : TypedProgram → Config → Type 0
IsAtImport t c = IsNoImport (action_at t c.top.proc c.top.point) → ⊥

-- the whole call that a step shows
pub record IsShownImport (t : TypedProgram) (Import : Config → Config → Type 0) (c : Config) (y : Stack) : Type 0 where
  pub after : Config
  pub import : Import c after
  pub shown : y ≡ shown_stack t after

-- choices that make the whole call
pub record IsChosenImport (t : TypedProgram) (c d : Config) : Type 0 where
  pub choices : List (Option ℤ)
  pub goes : (rest : List (Option ℤ)) → run t c (choices ++ rest) ≡ run t d rest

-- a run that begins with a whole call, and fails the assertion behind it
pub record IsRunImport (t : TypedProgram) (Import : Config → Config → Type 0) (c : Config) (choices : List (Option ℤ)) (i : ℕ) : Type 0 where
  pub after : Config
  pub import : Import c after
  pub rest : List (Option ℤ)
  pub shorter : length rest < length choices
  pub fails : run t after rest ≡ Failed i

-- A whole call is a step of the stacks and some steps of the run, and the other way round, where the step is exact.
pub record ImportsAreSteps (t : TypedProgram) (Known : ℕ → Point → Type 0) (Import : Config → Config → Type 0) : Type 0 where
  pub goes : (c d : Config) → IsGood t Known c → Import c d → IsStep t (shown_stack t c) (shown_stack t d)
  pub good : (c d : Config) → IsGood t Known c → Import c d → IsGood t Known d
  pub back : (c : Config) (y : Stack) → IsGood t Known c → IsAtImport t c → (s : IsStep t (shown_stack t c) y) → IsExact t (shown_stack t c) y s → IsShownImport t Import c y
  pub runs : (c d : Config) → IsGood t Known c → Import c d → IsChosenImport t c d
  pub run : (c : Config) (choices : List (Option ℤ)) (i : ℕ) → IsGood t Known c → IsAtImport t c → run t c choices ≡ Failed i → IsRunImport t Import c choices i

-- the whole call that a step shows, with the choices that are told of it
pub record IsToldImport (t : TypedProgram) (Import : Config → Config → Type 0) (c : Config) (y : Stack) (helpers : List ℤ) : Type 0 where
  pub after : Config
  pub import : Import c after
  pub shown : y ≡ shown_stack t after
  pub goes : (rest : List (Option ℤ)) → run t c (choices_of t c.top.proc c.top.point (action_at t c.top.proc c.top.point) helpers y ++ rest) ≡ run t after rest

-- With the helpers of an exact step, the choices that are told of it make the whole call.
pub record ImportsAreTold (t : TypedProgram) (Known : ℕ → Point → Type 0) (Import : Config → Config → Type 0) : Type 0 where
  pub told : (c : Config) (y : Stack) → IsGood t Known c → IsAtImport t c → (s : IsStep t (shown_stack t c) y) → IsExact t (shown_stack t c) y s → IsToldImport t Import c y (helpers_of t (shown_stack t c) y s)
