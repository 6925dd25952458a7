-- What a replay and Tried answer, as contracts see it.
use Rattle.std.specs.Prelude.{◌≡◌, ◌≢◌, ℕ, ℤ, List, [], take}
use Rattle.typed_tree.specs.TypedTree.{TypedProgram}
use Rattle.boogie_run.specs.Configurations.{Config}
use Rattle.boogie_run.specs.Steps.{Went, Failed}
use Rattle.boogie_run.specs.StepView.{line_at}
use Rattle.trace_replay.specs.declared.causes.ReplayCause.{ReplayCause}
use Rattle.trace_replay.specs.declared.causes.ReplayCause.TheVariants.{Number, BadChoice, Product}
use Rattle.trace_replay.specs.declared.causes.ReplayFault.{ReplayFault}
use Rattle.trace_replay.specs.declared.causes.ReplayFault.TheVariants.{At, Memory}
use Rattle.trace_replay.specs.declared.replaying.Turn.{Turn}
use Rattle.trace_replay.specs.declared.replaying.Turn.TheVariants.{GoesOn, Fails, FailsEarly, Stops}
use Rattle.trace_replay.specs.FailureText.{numbers}
use Rattle.trace_replay.specs.ReplayCauses.{StepEnds, HasBadChoice, StopsAt}
use Rattle.trace_replay.specs.ReplayCauses as causes
use Rattle.trace_replay.specs.Tried.{TriedFails, TriedPasses, TriedStops}

-- The replay stops so.
abbrev pub IsStopOf : TypedProgram → ℕ → List ℤ → ReplayFault → Type 0
IsStopOf t n choices (At step cause) = StopsAt t n choices step cause
IsStopOf t n choices Memory = Unit {0}

-- Why it stops at the next step, other than by an assertion that fails while choices are left.
abbrev pub Halts : TypedProgram → Config → List ℤ → ReplayCause → Type 0
Halts t c left BadChoice = HasBadChoice t c left
Halts t c left cause = causes.Stops t c left cause

-- One step makes this of the replay, on the way from one configuration to another.
abbrev pub TurnsTo : TypedProgram → Config → List ℤ → Config → Turn → Type 0
TurnsTo t c left d (GoesOn rest) = StepEnds t c left (Went d) (numbers rest.now)
TurnsTo t c left d (Fails id) = StepEnds t c left (Failed id.number) [] × (id.line ≡ line_at t c)
TurnsTo t c left d (FailsEarly rest) = (i : ℕ) × (numbers rest.now ≢ []) × StepEnds t c left (Failed i) (numbers rest.now)
TurnsTo t c left d (Stops cause) = Halts t c left cause

-- ---- Tried

-- It fails an assertion with its step of that number, when so many of the choices are used.
abbrev pub FailsBy : TypedProgram → ℕ → List ℤ → ℕ → ℕ → Type 0
FailsBy t n choices steps used = (i : ℕ) × TriedFails t n choices steps (take used choices) i

-- The fault is that it meets a value that does not fit, or ends otherwise than by a failure; or memory ran out.
abbrev pub IsTriedFault : TypedProgram → ℕ → List ℤ → ReplayFault → Type 0
IsTriedFault t n choices (At step Number) = TriedPasses t n choices step
IsTriedFault t n choices (At step Product) = TriedStops t n choices step
IsTriedFault t n choices (At step cause) = ⊥
IsTriedFault t n choices Memory = Unit {0}

-- why choices that are told of a word fail no assertion, where a replay of them stops so
abbrev pub told_cause : ReplayCause → ReplayCause
told_cause Number = Number
told_cause cause = Product
