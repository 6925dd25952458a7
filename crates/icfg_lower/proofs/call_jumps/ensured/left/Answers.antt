use Rattle.std.proofs.Common.{◌∙◌}
use Rattle.lowered_graph.specs.LoweredSteps.Edges.{left_if, found_from}
use Rattle.icfg_lower.proofs.call_jumps.ensured.left.Goals as goal

pub returns : goal.returns
returns c = λ base targets h n.
    let m = c.as_slice.ensures.value in
    let t = c.as_slice-2.ensures.value ∙ h.targeted in
    (λ j. left_if c.args.globals.now (h.base_is j) n (found_from 0 (m j) n) (found_from (h.helpers j) (t j) n))
