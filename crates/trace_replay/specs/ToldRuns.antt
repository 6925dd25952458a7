-- The run of a program that a whole point of a word's rows and an accepting run over the word tell, and how Tried ends with its choices.
use Rattle.std.specs.Prelude.{◌≡◌, ℕ, ◌+◌, ℤ, List, ◌∷◌, ◌++◌, length, Option}
use Rattle.typed_tree.specs.TypedTree.{TypedProgram}
use Rattle.nwa_base.specs.declared.letters.Letter.{Letter}
use Rattle.nwa_base.specs.Members.{Member}
use Rattle.nwa_base.specs.Runs.{IsAcceptingRun}
use Rattle.letter_acts.specs.declared.sites.Site.{Site}
use Rattle.lowered_graph.specs.Lowered.{lowered}
use Rattle.lowered_graph.specs.Laws.{IsExactWord}
use Rattle.lowered_graph.specs.LoweredChoices.Choices.{trace_choices, FailsAtLast}
use Rattle.trace_replay.specs.PathTraces.Solved.{next_positions, EndsIn}
use Rattle.boogie_run.specs.Configurations.{Config}
use Rattle.boogie_run.specs.Steps.{Went, start}
use Rattle.boogie_run.specs.Fitting.{NextFits}
use Rattle.boogie_run.specs.Runs.{run}
use Rattle.trace_replay.specs.declared.causes.ReplayCause.TheVariants.{Number, Product}
use Rattle.trace_replay.specs.declared.causes.ReplayFault.{ReplayFault}
use Rattle.trace_replay.specs.declared.causes.ReplayFault.TheVariants.{At, Memory}
use Rattle.trace_replay.specs.Replays.{choices_among, StepsFit, Replays}
use Rattle.trace_replay.specs.Tried.{TriedFails, TriedPasses, TriedStops}

-- What the steps of the run take, one after another: the start values, the values of havocs, results, locals and globals of calls without a body that the
-- point gives, and the branches that the states of the run give, in the order of the word.
abbrev pub told_run : TypedProgram → (ℕ → ℤ) → List Letter → List ℕ → List (Option ℤ)
told_run t point w states = trace_choices t (next_positions point (lowered t) w states)

-- Of the run whose steps take these, the step of that number, counted from 1, is the first that reads a value that does not fit.
pub record PassesAt (t : TypedProgram) (taken : List (Option ℤ)) (step : ℕ) : Type 0 where
  pub before : List (Option ℤ)
  pub next : Option ℤ
  pub rest : List (Option ℤ)
  pub are : taken ≡ before ++ next ∷ rest
  pub number : step ≡ length before + 1
  pub here : Config
  pub leads : run t (start t) before ≡ Went here
  pub fit : StepsFit t (start t) before
  pub past : NextFits t here → ⊥

-- The trail of the run whose steps take these: it fails assertion i with its last step, has no value that does not fit, and replays.
pub record IsTrailOf (t : TypedProgram) (taken : List (Option ℤ)) (steps : ℕ) (choices : List ℤ) (i : ℕ) : Type 0 where
  pub many : steps ≡ length taken
  pub used : choices ≡ choices_among taken
  pub fails : FailsAtLast t taken i
  pub fit : StepsFit t (start t) taken
  pub replays : Replays t steps choices i

-- Some accepting run over the word and the point tell choices with which Tried fails an assertion, with its step of that number and when these of them are
-- used, which then replay. Where the word has no coarse letter, that is the told run, with all its steps and choices, and the assertion is the one at whose
-- failing the accepting run ends.
pub record ToldFails (t : TypedProgram) (point : ℕ → ℤ) (w : List Letter) (steps : ℕ) (choices : List ℤ) : Type 0 where
  pub states : List ℕ
  pub accepting : IsAcceptingRun (lowered t).automaton w states
  pub site : Site
  pub is_site : Member (lowered t).sites site
  pub ends : EndsIn site.place states
  pub assertion : ℕ
  pub fails : TriedFails t (length (told_run t point w states)) (choices_among (told_run t point w states)) steps choices assertion
  pub replays : Replays t steps choices assertion
  pub exact : IsExactWord (lowered t) w → IsTrailOf t (told_run t point w states) steps choices site.id.number

-- Some accepting run over the word and the point tell choices with which Tried meets a value that does not fit, first in this step. Where the word has no
-- coarse letter, the told run does.
pub record ToldPasses (t : TypedProgram) (point : ℕ → ℤ) (w : List Letter) (step : ℕ) : Type 0 where
  pub states : List ℕ
  pub accepting : IsAcceptingRun (lowered t).automaton w states
  pub passes : TriedPasses t (length (told_run t point w states)) (choices_among (told_run t point w states)) step
  pub exact : IsExactWord (lowered t) w → PassesAt t (told_run t point w states) step

-- Some accepting run over the word and the point tell choices with which Tried neither fails an assertion nor meets such a value: it ends otherwise in this
-- step, or it has made all of so many steps.
pub record ToldStops (t : TypedProgram) (point : ℕ → ℤ) (w : List Letter) (step : ℕ) : Type 0 where
  pub states : List ℕ
  pub accepting : IsAcceptingRun (lowered t).automaton w states
  pub stops : TriedStops t (length (told_run t point w states)) (choices_among (told_run t point w states)) step

-- The fault: Number where Tried meets a value that does not fit, and Product where it ends otherwise than by a failure, which it does not on a word without
-- coarse letters; or memory ran out.
abbrev pub IsToldFault : TypedProgram → (ℕ → ℤ) → List Letter → ReplayFault → Type 0
IsToldFault t point w (At step Number) = ToldPasses t point w step
IsToldFault t point w (At step Product) = (IsExactWord (lowered t) w → ⊥) × ToldStops t point w step
IsToldFault t point w (At step cause) = ⊥
IsToldFault t point w Memory = Unit {0}
