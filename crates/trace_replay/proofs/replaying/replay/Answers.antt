use Rattle.std.proofs.Common.{◌+◌, ap, arith}
use Rattle.typed_tree.specs.TypingRules.TypedParts.{typed_program}
use Rattle.boogie_run.specs.RunView.{config_of}
use Rattle.trace_replay.specs.declared.causes.ReplayCause.TheVariants.{Short, BadChoice}
use Rattle.trace_replay.specs.FailureText.{numbers}
use Rattle.trace_replay.proofs.ReplaySteps.{one_more_made}
use Rattle.trace_replay.proofs.ReplayFound.{found_here, found_is, found_does_not_stop, halts_here, early_here, runs_out, stop_does_not_replay, stop_is}
use Rattle.trace_replay.proofs.FirstSteps.{none_made}
use Rattle.trace_replay.proofs.replaying.replay.Goals as goal

pub returns-in-Fails-clause-found : goal.returns-in-Fails-clause-found
returns-in-Fails-clause-found c =
    found_here (typed_program c.args.program.now) c.args.trail.now.steps (numbers c.args.trail.now.choices.items)
    c.loop-made.made (config_of c.loop-made.config) (numbers c.loop-made.left.now) c.in-Fails.id
    c.loop-made-test.true c.loop-made.invariant.made (rw c.in-Fails.is at c.in_ok-rest.ensures.turns)

pub returns-in-Fails-clause-replays : goal.returns-in-Fails-clause-replays
returns-in-Fails-clause-replays c =
    found_is (typed_program c.args.program.now) c.args.trail.now.steps (numbers c.args.trail.now.choices.items)
    c.loop-made.made (config_of c.loop-made.config) (numbers c.loop-made.left.now) c.in-Fails.id
    c.loop-made-test.true c.loop-made.invariant.made (rw c.in-Fails.is at c.in_ok-rest.ensures.turns)

pub returns-in-Fails-clause-stops : goal.returns-in-Fails-clause-stops
returns-in-Fails-clause-stops c = λ k cause.
    found_does_not_stop (typed_program c.args.program.now) c.args.trail.now.steps (numbers c.args.trail.now.choices.items)
    c.loop-made.made (config_of c.loop-made.config) (numbers c.loop-made.left.now) c.in-Fails.id
    c.loop-made-test.true c.loop-made.invariant.made (rw c.in-Fails.is at c.in_ok-rest.ensures.turns) k cause

pub returns-in-FailsEarly-clause-stopped : goal.returns-in-FailsEarly-clause-stopped
returns-in-FailsEarly-clause-stopped c =
    early_here (typed_program c.args.program.now) c.args.trail.now.steps (numbers c.args.trail.now.choices.items)
    c.loop-made.made (config_of c.loop-made.config) (numbers c.loop-made.left.now) (numbers c.in-FailsEarly.field-0.now)
    c.loop-made-test.true c.loop-made.invariant.made (rw c.in-FailsEarly.is at c.in_ok-rest.ensures.turns)

pub returns-in-FailsEarly-clause-replays : goal.returns-in-FailsEarly-clause-replays
returns-in-FailsEarly-clause-replays c =
    stop_does_not_replay (typed_program c.args.program.now) c.args.trail.now.steps (numbers c.args.trail.now.choices.items) (c.loop-made.made + 1) BadChoice
    (early_here (typed_program c.args.program.now) c.args.trail.now.steps (numbers c.args.trail.now.choices.items)
    c.loop-made.made (config_of c.loop-made.config) (numbers c.loop-made.left.now) (numbers c.in-FailsEarly.field-0.now)
    c.loop-made-test.true c.loop-made.invariant.made (rw c.in-FailsEarly.is at c.in_ok-rest.ensures.turns))

pub returns-in-FailsEarly-clause-stops : goal.returns-in-FailsEarly-clause-stops
returns-in-FailsEarly-clause-stops c =
    stop_is (typed_program c.args.program.now) c.args.trail.now.steps (numbers c.args.trail.now.choices.items) (c.loop-made.made + 1) BadChoice
    (early_here (typed_program c.args.program.now) c.args.trail.now.steps (numbers c.args.trail.now.choices.items)
    c.loop-made.made (config_of c.loop-made.config) (numbers c.loop-made.left.now) (numbers c.in-FailsEarly.field-0.now)
    c.loop-made-test.true c.loop-made.invariant.made (rw c.in-FailsEarly.is at c.in_ok-rest.ensures.turns))

pub returns-in-Stops-clause-stopped : goal.returns-in-Stops-clause-stopped
returns-in-Stops-clause-stopped c =
    halts_here (typed_program c.args.program.now) c.args.trail.now.steps (numbers c.args.trail.now.choices.items)
    c.loop-made.made (config_of c.loop-made.config) (numbers c.loop-made.left.now) c.in-Stops.cause
    c.loop-made-test.true c.loop-made.invariant.made (rw c.in-Stops.is at c.in_ok-rest.ensures.turns)

pub returns-in-Stops-clause-replays : goal.returns-in-Stops-clause-replays
returns-in-Stops-clause-replays c =
    stop_does_not_replay (typed_program c.args.program.now) c.args.trail.now.steps (numbers c.args.trail.now.choices.items) (c.loop-made.made + 1) c.in-Stops.cause
    (halts_here (typed_program c.args.program.now) c.args.trail.now.steps (numbers c.args.trail.now.choices.items)
    c.loop-made.made (config_of c.loop-made.config) (numbers c.loop-made.left.now) c.in-Stops.cause
    c.loop-made-test.true c.loop-made.invariant.made (rw c.in-Stops.is at c.in_ok-rest.ensures.turns))

pub returns-in-Stops-clause-stops : goal.returns-in-Stops-clause-stops
returns-in-Stops-clause-stops c =
    stop_is (typed_program c.args.program.now) c.args.trail.now.steps (numbers c.args.trail.now.choices.items) (c.loop-made.made + 1) c.in-Stops.cause
    (halts_here (typed_program c.args.program.now) c.args.trail.now.steps (numbers c.args.trail.now.choices.items)
    c.loop-made.made (config_of c.loop-made.config) (numbers c.loop-made.left.now) c.in-Stops.cause
    c.loop-made-test.true c.loop-made.invariant.made (rw c.in-Stops.is at c.in_ok-rest.ensures.turns))

pub loop-made-preserved : goal.loop-made-preserved
loop-made-preserved c = record {
  made = one_more_made (typed_program c.args.program.now) (numbers c.args.trail.now.choices.items) c.loop-made.made
      (config_of c.loop-made.config) (config_of c.one_step.new.config) (numbers c.loop-made.left.now) (numbers c.in-GoesOn.rest.now)
      c.loop-made.invariant.made (rw c.in-GoesOn.is at c.in_ok-rest.ensures.turns);
  fits = c.in_ok-rest.ensures.fits;
}

pub returns-clause-stopped : goal.returns-clause-stopped
returns-clause-stopped c =
    runs_out (typed_program c.args.program.now) c.args.trail.now.steps (numbers c.args.trail.now.choices.items)
    c.loop-made.made (config_of c.loop-made.config) (numbers c.loop-made.left.now)
    (omega arith) c.loop-made.invariant.made

pub returns-clause-replays : goal.returns-clause-replays
returns-clause-replays c =
    stop_does_not_replay (typed_program c.args.program.now) c.args.trail.now.steps (numbers c.args.trail.now.choices.items) c.args.trail.now.steps Short
    (runs_out (typed_program c.args.program.now) c.args.trail.now.steps (numbers c.args.trail.now.choices.items)
    c.loop-made.made (config_of c.loop-made.config) (numbers c.loop-made.left.now) (omega arith) c.loop-made.invariant.made)

pub returns-clause-stops : goal.returns-clause-stops
returns-clause-stops c =
    stop_is (typed_program c.args.program.now) c.args.trail.now.steps (numbers c.args.trail.now.choices.items) c.args.trail.now.steps Short
    (runs_out (typed_program c.args.program.now) c.args.trail.now.steps (numbers c.args.trail.now.choices.items)
    c.loop-made.made (config_of c.loop-made.config) (numbers c.loop-made.left.now) (omega arith) c.loop-made.invariant.made)

pub loop-made-init : goal.loop-made-init
loop-made-init c = record {
  made = none_made (typed_program c.args.program.now) (numbers c.args.trail.now.choices.items) (numbers c.as_slice-left.result.now) (config_of c.in_ok-config.config) c.in_ok-config.ensures.start
      (ap numbers c.as_slice-left.ensures.value);
  fits = c.in_ok-config.ensures.fits;
}
