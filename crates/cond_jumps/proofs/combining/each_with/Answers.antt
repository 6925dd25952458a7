use Rattle.cond_jumps.proofs.PlanAnswers.{with_built}
use Rattle.cond_jumps.proofs.combining.each_with.Goals as goal

pub returns : goal.returns
returns c p q i h k =
    with_built p q c.args.base c.args.first c.args.second c.in_ok-list.list c.as_slice.result.now c.as_slice-2.result.now i h k
    c.as_slice.ensures.value c.as_slice-2.ensures.value c.in_ok-list.ensures
