use Rattle.std.proofs.Common.{arith, ap, ◌∙◌}
use Rattle.std.specs.String.{string_bytes}
use Rattle.std.proofs.lemmas.List.{length-map}
use Rattle.boogie_run.specs.declared.types.Choice.{Choice}
use Rattle.trace_replay.proofs.WrittenTexts.{one_more_written, whole_written}
use Rattle.trace_replay.proofs.writing.write_failure.Goals as goal

pub loop-choice-preserved : goal.loop-choice-preserved
loop-choice-preserved c =
    one_more_written c.args.failure.now c.loop-choice.choice-index c.as_slice-choices.result.now (string_bytes c.loop-choice.text) (string_bytes c.value.new.text)
    c.as_slice-choices.ensures.value c.loop-choice-test.true c.loop-choice.invariant c.in_ok-value.ensures

pub returns : goal.returns
returns c = (
  record {
    rounds = omega arith;
    assertion = omega arith;
    line = omega arith;
    steps = omega arith;
    values =
        let choices = c.args.failure.now.trail.choices in
        omega (arith, length-map choices.items (λ (x : Choice). x.0), choices.ok.0, choices.ok.1, choices.small);
    choices = c.requires;
  },
  whole_written c.args.failure.now c.loop-choice.choice-index c.as_slice-choices.result.now c.into_bytes.result.items c.as_slice-choices.ensures.value c.loop-choice-test.false (ap (λ v. v.items) c.into_bytes.ensures.value ∙ c.loop-choice.invariant),
)
