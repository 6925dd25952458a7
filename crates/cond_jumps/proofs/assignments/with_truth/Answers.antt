use Rattle.cond_jumps.specs.Conjunctions.{Just}
use Rattle.cond_jumps.specs.Comparisons.{truth_of_column}
use Rattle.cond_jumps.proofs.EvenLemmas.{named_even}
use Rattle.cond_jumps.proofs.PlanAnswers.{with_built}
use Rattle.cond_jumps.proofs.assignments.with_truth.Goals as goal

pub returns : goal.returns
returns c = λ p made.
    with_built p (Just (truth_of_column c.args.target c.args.want)) c.args.base c.args.list.now c.in_ok-truth.truth c.in_ok-with.field-0 c.as_slice.result.now c.as_slice-2.result.now
    (named_even c.args.base c.args.target c.args.want c.requires) made (record { seen = c.in_ok-truth.ensures.0; fit = c.in_ok-truth.ensures.1 })
    c.as_slice.ensures.value c.as_slice-2.ensures.value c.in_ok-with.ensures
