use Rattle.std.proofs.Common.{◌+◌, List, refl, sym, subst, arith}
use Rattle.typed_tree.specs.TypingRules.TypedParts.{typed_program}
use Rattle.boogie_run.specs.declared.types.Choice.{Choice}
use Rattle.boogie_run.specs.Configurations.{Config}
use Rattle.boogie_run.specs.RunView.{config_of}
use Rattle.trace_replay.specs.declared.replaying.Turn.{Turn}
use Rattle.trace_replay.specs.FailureText.{numbers}
use Rattle.trace_replay.specs.ReplayCauses.{HasMade}
use Rattle.trace_replay.specs.ReplayAnswers.{TurnsTo}
use Rattle.trace_replay.proofs.ReplayFound.{halts_here, early_here, runs_out}
use Rattle.trace_replay.proofs.ReplaySteps.{none_made, one_more_made}
use Rattle.explain_top.specs.RunStory.Ties.Steps.{TellsStep}
use Rattle.explain_top.proofs.RunStory.RunLemmas.{HasTold, none_told, one_more_told, told_fails}
use Rattle.explain_top.proofs.run_story.telling.tell_steps.Goals as goal

pub loop-made-init : goal.loop-made-init
loop-made-init c =
    let t = typed_program c.args.program.now in
    let choices = numbers c.args.trail.now.choices.items in
    let here = config_of c.args.config.now in
    record {
      made =
          subst (λ (xs : List Choice). HasMade t choices 0 here (numbers xs)) (sym c.as_slice-left.ensures.value)
          (subst (λ (k : Config). HasMade t choices 0 k choices) (sym c.requires.start) (none_made t choices));
      told = λ ds is.
          subst (λ (xs : List Choice). HasTold t ds c.args.lines.now.all choices 0 here (numbers xs) c.args.lines.now) (sym c.as_slice-left.ensures.value)
          (none_told t ds c.args.lines.now.all choices here c.args.lines.now c.requires.start c.requires.none refl);
      fits = c.requires.fits;
    }

pub loop-made-preserved : goal.loop-made-preserved
loop-made-preserved c =
    let t = typed_program c.args.program.now in
    let choices = numbers c.args.trail.now.choices.items in
    let now = config_of c.loop-made.config in
    let left = numbers c.loop-made.left.now in
    let next = config_of c.keep_step.new.config in
    let goes = subst (λ (u : Turn). TurnsTo t now left next u) c.in-GoesOn.is c.in_ok-rest.ensures.turns in
    let kept = c.in_ok-rest.ensures.kept in
    record {
      made = one_more_made t choices c.loop-made.made now next left (numbers c.in-GoesOn.rest.now) c.loop-made.invariant.made goes;
      told = λ ds is.
          one_more_told t ds c.args.lines.now.all choices c.loop-made.made now next left (numbers c.in-GoesOn.rest.now) c.loop-made.lines c.keep_step.new.lines kept.0
          (c.loop-made.invariant.told ds is) goes (subst (λ (u : Turn). TellsStep t ds now left next u kept.0) c.in-GoesOn.is (kept.1 ds is) goes) kept.2 c.in_ok-rest.ensures.all;
      fits = c.in_ok-rest.ensures.fits;
    }

pub returns-in-Fails-clause-found : goal.returns-in-Fails-clause-found
returns-in-Fails-clause-found c = λ ds is text ends.
    let t = typed_program c.args.program.now in
    let now = config_of c.loop-made.config in
    let left = numbers c.loop-made.left.now in
    let next = config_of c.keep_step.new.config in
    let fails = subst (λ (u : Turn). TurnsTo t now left next u) c.in-Fails.is c.in_ok-rest.ensures.turns in
    let kept = c.in_ok-rest.ensures.kept in
    told_fails t ds c.args.lines.now.all c.args.trail.now.steps (numbers c.args.trail.now.choices.items) c.loop-made.made now left c.in-Fails.id c.loop-made.lines c.keep_step.new.lines kept.0 text
    c.loop-made-test.true (c.loop-made.invariant.told ds is) fails.0 fails.1 (subst (λ (u : Turn). TellsStep t ds now left next u kept.0) c.in-Fails.is (kept.1 ds is) fails.0) kept.2
    c.in_ok-rest.ensures.all ends

pub returns-in-FailsEarly-clause-stopped : goal.returns-in-FailsEarly-clause-stopped
returns-in-FailsEarly-clause-stopped c =
    early_here (typed_program c.args.program.now) c.args.trail.now.steps (numbers c.args.trail.now.choices.items)
    c.loop-made.made (config_of c.loop-made.config) (numbers c.loop-made.left.now) (numbers c.in-FailsEarly.field-0.now) c.loop-made-test.true c.loop-made.invariant.made
    (subst (λ (u : Turn). TurnsTo (typed_program c.args.program.now) (config_of c.loop-made.config) (numbers c.loop-made.left.now) (config_of c.keep_step.new.config) u) c.in-FailsEarly.is c.in_ok-rest.ensures.turns)

pub returns-in-Stops-clause-stopped : goal.returns-in-Stops-clause-stopped
returns-in-Stops-clause-stopped c =
    halts_here (typed_program c.args.program.now) c.args.trail.now.steps (numbers c.args.trail.now.choices.items)
    c.loop-made.made (config_of c.loop-made.config) (numbers c.loop-made.left.now) c.in-Stops.cause c.loop-made-test.true c.loop-made.invariant.made
    (subst (λ (u : Turn). TurnsTo (typed_program c.args.program.now) (config_of c.loop-made.config) (numbers c.loop-made.left.now) (config_of c.keep_step.new.config) u) c.in-Stops.is c.in_ok-rest.ensures.turns)

pub returns-clause-stopped : goal.returns-clause-stopped
returns-clause-stopped c =
    runs_out (typed_program c.args.program.now) c.args.trail.now.steps (numbers c.args.trail.now.choices.items)
    c.loop-made.made (config_of c.loop-made.config) (numbers c.loop-made.left.now) (omega arith) c.loop-made.invariant.made
