use Rattle.std.proofs.Common.{◌≡◌, ℕ, ℤ, List, Result, Ok, Err, refl}
use Rattle.std.specs.Prelude.{IfErr, MatchResult}
use Rattle.std.proofs.lemmas.Result.{IfOk-weaker}
use Rattle.boogie_tree.specs.View as view
use Rattle.typed_tree.specs.TypedTree.{TypedProgram}
use Rattle.typed_tree.specs.TypingRules.TypedParts.{typed_program}
use Rattle.trace_replay.specs.declared.causes.ReplayFault.{ReplayFault}
use Rattle.trace_replay.specs.declared.causes.ReplayFault.TheVariants.{At, Memory}
use Rattle.trace_replay.specs.FailureText.{numbers}
use Rattle.trace_replay.specs.Replays.{Replays}
use Rattle.trace_replay.specs.ReplayAnswers.{IsStopOf}
use Rattle.trace_replay.proofs.ReplayFound.{stop_does_not_replay}
use Rattle.explain_top.proofs.run_story.telling.story.Goals as goal

replays_or_stops : {X : Type 0} (t : TypedProgram) (n : ℕ) (choices : List ℤ) (r : Result X ReplayFault) → IfErr r (IsStopOf t n choices) → (i : ℕ) → Replays t n choices i → MatchResult r (λ x. Unit {0}) (λ e. e ≡ Memory)
replays_or_stops t n choices (Ok x) h i replays = tt
replays_or_stops t n choices (Err Memory) h i replays = refl
replays_or_stops t n choices (Err (At k cause)) h i replays = stop_does_not_replay t n choices k cause h i replays

pub returns-clause-found : goal.returns-clause-found
returns-clause-found c = IfOk-weaker c.told_run.result _ _ (λ text h. h (view.program c.args.tree.now) c.in_ok-table.ensures) c.told_run.ensures.found

pub returns-clause-replays : goal.returns-clause-replays
returns-clause-replays c = λ i replays.
    replays_or_stops (typed_program c.args.program.now) c.args.trail.now.steps (numbers c.args.trail.now.choices.items) c.told_run.result c.told_run.ensures.stopped i replays
