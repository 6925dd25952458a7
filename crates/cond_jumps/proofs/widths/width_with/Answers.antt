use Rattle.std.proofs.Common.{◌*◌, ◌∙◌}
use Rattle.cond_jumps.proofs.WidthAnswers.{with_width}
use Rattle.cond_jumps.proofs.widths.width_with.Goals as goal

pub returns : goal.returns
returns c = λ p q n i h k.
    with_width p q n c.args.first c.args.second c.in-Some.members c.limited.result i h k (c.in-Some.ensures.1 ∙ (λ j. c.from.ensures j * c.from-2.ensures j)) c.limited.ensures
