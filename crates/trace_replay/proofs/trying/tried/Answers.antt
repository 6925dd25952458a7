use Rattle.std.proofs.Common.{◌+◌, refl, sym, subst, arith}
use Rattle.typed_tree.specs.TypingRules.TypedParts.{typed_program}
use Rattle.boogie_run.specs.RunView.{config_of}
use Rattle.trace_replay.specs.declared.causes.ReplayCause.{ReplayCause}
use Rattle.trace_replay.specs.declared.causes.ReplayFault.TheVariants.{At}
use Rattle.trace_replay.specs.FailureText.{numbers}
use Rattle.trace_replay.specs.ReplayAnswers.{IsTriedFault}
use Rattle.trace_replay.proofs.ReplaySteps.{one_more_made}
use Rattle.trace_replay.proofs.TriedHere.{fails_last, fails_early, left_within, halts_tried, all_made}
use Rattle.trace_replay.proofs.FirstSteps.{none_made}
use Rattle.trace_replay.proofs.trying.tried.Goals as goal

pub returns-in-Fails-clause-fails : goal.returns-in-Fails-clause-fails
returns-in-Fails-clause-fails c =
    fails_last (typed_program c.args.program.now) c.args.steps c.args.choices.now c.loop-made.made (config_of c.loop-made.config) (numbers c.loop-made.left.now) c.in-Fails.field-0.number
    c.loop-made-test.true c.loop-made.invariant.made (rw c.in-Fails.is at c.in_ok-rest.ensures.turns).0

pub overflow_sub-result : goal.overflow_sub-result
overflow_sub-result c =
    left_within (typed_program c.args.program.now) c.args.steps c.args.choices.now c.loop-made.made (config_of c.loop-made.config) (numbers c.loop-made.left.now) c.in-FailsEarly.rest.now
    c.loop-made-test.true c.loop-made.invariant.made (rw c.in-FailsEarly.is at c.in_ok-rest.ensures.turns)

pub returns-in-FailsEarly-clause-fails : goal.returns-in-FailsEarly-clause-fails
returns-in-FailsEarly-clause-fails c =
    fails_early (typed_program c.args.program.now) c.args.steps c.args.choices.now c.loop-made.made (config_of c.loop-made.config) (numbers c.loop-made.left.now) c.in-FailsEarly.rest.now
    c.loop-made-test.true c.loop-made.invariant.made (rw c.in-FailsEarly.is at c.in_ok-rest.ensures.turns)

pub returns-in-Stops-clause-fault : goal.returns-in-Stops-clause-fault
returns-in-Stops-clause-fault c =
    subst (λ (cause : ReplayCause). IsTriedFault (typed_program c.args.program.now) c.args.steps (numbers c.args.choices.now) (At (c.loop-made.made + 1) cause)) (sym c.told_cause.ensures)
    (halts_tried (typed_program c.args.program.now) c.args.steps (numbers c.args.choices.now) c.loop-made.made (config_of c.loop-made.config) (numbers c.loop-made.left.now) c.in-Stops.cause
    c.loop-made-test.true c.loop-made.invariant.made (rw c.in-Stops.is at c.in_ok-rest.ensures.turns))

pub loop-made-preserved : goal.loop-made-preserved
loop-made-preserved c = record {
  made = one_more_made (typed_program c.args.program.now) (numbers c.args.choices.now) c.loop-made.made
      (config_of c.loop-made.config) (config_of c.one_step.new.config) (numbers c.loop-made.left.now) (numbers c.in-GoesOn.rest.now)
      c.loop-made.invariant.made (rw c.in-GoesOn.is at c.in_ok-rest.ensures.turns);
  fits = c.in_ok-rest.ensures.fits;
}

pub returns-clause-fault : goal.returns-clause-fault
returns-clause-fault c =
    all_made (typed_program c.args.program.now) c.args.steps (numbers c.args.choices.now) c.loop-made.made (config_of c.loop-made.config) (numbers c.loop-made.left.now) (omega arith) c.loop-made.invariant.made

pub loop-made-init : goal.loop-made-init
loop-made-init c = record {
  made = none_made (typed_program c.args.program.now) (numbers c.args.choices.now) (numbers c.args.choices.now) (config_of c.in_ok-config.config) c.in_ok-config.ensures.start refl;
  fits = c.in_ok-config.ensures.fits;
}
