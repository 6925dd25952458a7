-- Why a run does not replay, and at which step.
use Rattle.std.specs.Prelude.{◌≡◌, ◌≢◌, ℕ, ◌+◌, ◌<◌, ℤ, false, true, ◌⊎◌, List, [], ◌∷◌, ◌++◌, length, Option, None, Some}
use Rattle.std.specs.Option.{option_to_list}
use Rattle.typed_tree.specs.TypedTree.{TypedProgram}
use Rattle.boogie_run.specs.Configurations.{Config}
use Rattle.boogie_run.specs.Needs.{need, is_taken}
use Rattle.boogie_run.specs.Steps.{Outcome, Went, Failed, start, step}
use Rattle.boogie_run.specs.Steps as outcomes
use Rattle.boogie_run.specs.Fitting.{NextFits}
use Rattle.boogie_run.specs.Runs.{run}
use Rattle.trace_replay.specs.declared.causes.ReplayCause.{ReplayCause}
use Rattle.trace_replay.specs.declared.causes.ReplayCause.TheVariants.{Blocked, Ended, Short, Number, BadChoice, Product}
use Rattle.trace_replay.specs.Replays.{choices_among, StepsFit}

-- The run that takes the choices in order has made so many steps without an end: it has come to this configuration, these choices are
-- left, and each value on the way fits.
pub record HasMade (t : TypedProgram) (choices : List ℤ) (made : ℕ) (c : Config) (left : List ℤ) : Type 0 where
  pub taken : List (Option ℤ)
  pub many : length taken ≡ made
  pub used : choices_among taken ++ left ≡ choices
  pub leads : run t (start t) taken ≡ Went c
  pub fit : StepsFit t (start t) taken

-- The next step takes a choice of those that are left, or none, and ends so; what it reads fits, and these choices are left then.
pub record StepEnds (t : TypedProgram) (c : Config) (left : List ℤ) (o : Outcome) (rest : List ℤ) : Type 0 where
  pub choice : Option ℤ
  pub first : left ≡ option_to_list choice ++ rest
  pub fit : NextFits t c
  pub ends : step t c choice ≡ o

-- The next step needs a choice.
abbrev pub NeedsChoice : TypedProgram → Config → Type 0
NeedsChoice t c = is_taken (need t c) None ≡ false

-- It needs one, and the next of those that are left is none that it takes.
pub record HasBadChoice (t : TypedProgram) (c : Config) (left : List ℤ) : Type 0 where
  pub choice : ℤ
  pub rest : List ℤ
  pub first : left ≡ choice ∷ rest
  pub needed : NeedsChoice t c
  pub bad : is_taken (need t c) (Some choice) ≡ false

-- It takes a choice of those that are left, or none, and some value that it reads does not fit.
pub record ReadsPast (t : TypedProgram) (c : Config) (left : List ℤ) : Type 0 where
  pub choice : Option ℤ
  pub rest : List ℤ
  pub first : left ≡ option_to_list choice ++ rest
  pub taken : is_taken (need t c) choice ≡ true
  pub past : NextFits t c → ⊥

-- It fails an assertion, and choices are left.
pub record FailsEarly (t : TypedProgram) (c : Config) (left : List ℤ) : Type 0 where
  pub assertion : ℕ
  pub rest : List ℤ
  pub some : rest ≢ []
  pub fails : StepEnds t c left (Failed assertion) rest

-- It blocks, or ends the run.
pub record IsBlocked (t : TypedProgram) (c : Config) (left : List ℤ) : Type 0 where
  pub rest : List ℤ
  pub blocks : StepEnds t c left outcomes.Blocked rest

pub record HasEnded (t : TypedProgram) (c : Config) (left : List ℤ) : Type 0 where
  pub rest : List ℤ
  pub ends : StepEnds t c left outcomes.Ended rest

-- why the replay stops at the next step
abbrev pub Stops : TypedProgram → Config → List ℤ → ReplayCause → Type 0
Stops t c left Blocked = IsBlocked t c left
Stops t c left Ended = HasEnded t c left
Stops t c left Short = NeedsChoice t c × (left ≡ [])
Stops t c left Number = ReadsPast t c left
Stops t c left BadChoice = HasBadChoice t c left ⊎ FailsEarly t c left
Stops t c left Product = ⊥

-- The replay stops at this step, counted from 1, of the first n.
pub record StopsWithin (t : TypedProgram) (n : ℕ) (choices : List ℤ) (step : ℕ) (cause : ReplayCause) : Type 0 where
  pub made : ℕ
  pub number : step ≡ made + 1
  pub in_time : made < n
  pub here : Config
  pub left : List ℤ
  pub comes : HasMade t choices made here left
  pub stops : Stops t here left cause

-- n steps were made without an end.
pub record RunsOut (t : TypedProgram) (n : ℕ) (choices : List ℤ) : Type 0 where
  pub here : Config
  pub left : List ℤ
  pub comes : HasMade t choices n here left

-- The cause comes at this step. That of n steps without an end is Short, at step n.
abbrev pub StopsAt : TypedProgram → ℕ → List ℤ → ℕ → ReplayCause → Type 0
StopsAt t n choices step cause = StopsWithin t n choices step cause ⊎ ((cause ≡ Short) × (step ≡ n) × RunsOut t n choices)
