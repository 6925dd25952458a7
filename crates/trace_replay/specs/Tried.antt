-- Tried: how the run ends that takes given choices in order and makes at most n steps.
use Rattle.std.specs.Prelude.{◌≡◌, ℕ, ◌+◌, ◌<◌, ℤ, ◌⊎◌, List, [], ◌++◌}
use Rattle.typed_tree.specs.TypedTree.{TypedProgram}
use Rattle.boogie_run.specs.Configurations.{Config}
use Rattle.boogie_run.specs.Steps.{Failed}
use Rattle.trace_replay.specs.declared.causes.ReplayCause.TheVariants.{Number}
use Rattle.trace_replay.specs.ReplayCauses.{HasMade, StepEnds, NeedsChoice, HasBadChoice, IsBlocked, HasEnded, StopsWithin, RunsOut}

-- It fails assertion i with its step of that number, counted from 1, and has used these choices, the first ones; each value on the way fits.
pub record TriedFails (t : TypedProgram) (n : ℕ) (choices : List ℤ) (steps : ℕ) (used : List ℤ) (i : ℕ) : Type 0 where
  pub made : ℕ
  pub number : steps ≡ made + 1
  pub in_time : made < n
  pub here : Config
  pub left : List ℤ
  pub rest : List ℤ
  pub comes : HasMade t choices made here left
  pub fails : StepEnds t here left (Failed i) rest
  pub used_is : choices ≡ used ++ rest

-- It meets a value that does not fit, first in that step.
abbrev pub TriedPasses : TypedProgram → ℕ → List ℤ → ℕ → Type 0
TriedPasses t n choices step = StopsWithin t n choices step Number

-- The next step blocks or ends the run, or needs a choice where none is left, or gets one that it does not take.
pub data EndsOtherwise (t : TypedProgram) (c : Config) (left : List ℤ) : Type 0 where
  blocks : IsBlocked t c left → EndsOtherwise t c left
  returns : HasEnded t c left → EndsOtherwise t c left
  needs : NeedsChoice t c → left ≡ [] → EndsOtherwise t c left
  refuses : HasBadChoice t c left → EndsOtherwise t c left

-- It ends so in that step, of the first n.
pub record EndsWithin (t : TypedProgram) (n : ℕ) (choices : List ℤ) (step : ℕ) : Type 0 where
  pub made : ℕ
  pub number : step ≡ made + 1
  pub in_time : made < n
  pub here : Config
  pub left : List ℤ
  pub comes : HasMade t choices made here left
  pub ends : EndsOtherwise t here left

-- It neither fails an assertion nor meets a value that does not fit: it ends otherwise in that step, or it has made all n steps.
abbrev pub TriedStops : TypedProgram → ℕ → List ℤ → ℕ → Type 0
TriedStops t n choices step = EndsWithin t n choices step ⊎ ((step ≡ n) × RunsOut t n choices)

-- ---- the three together

-- how Tried ends
pub data TriedEnd : Type 0 where
  Fails : ℕ → List ℤ → ℕ → TriedEnd
  Passes : ℕ → TriedEnd
  Stops : ℕ → TriedEnd

abbrev pub IsTriedEnd : TypedProgram → ℕ → List ℤ → TriedEnd → Type 0
IsTriedEnd t n choices (Fails steps used i) = TriedFails t n choices steps used i
IsTriedEnd t n choices (Passes step) = TriedPasses t n choices step
IsTriedEnd t n choices (Stops step) = TriedStops t n choices step
