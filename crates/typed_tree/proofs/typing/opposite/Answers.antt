use Rattle.std.proofs.Common.{ap, Err, ◌∙◌}
use Rattle.typed_tree.proofs.Parts.{no_number_part, opposite_big}
use Rattle.typed_tree.proofs.typing.opposite.Goals as goal

pub returns-in-Err-TooBig : goal.returns-in-Err-TooBig
returns-in-Err-TooBig c = λ s old e h.
    opposite_big s old c.args.at e c.args.part.now h (c.times.ensures.too_big (c.in-Err-TooBig.is ∙ ap Err c.in-Err-TooBig.field-0-is))

pub returns-in-Bool : goal.returns-in-Bool
returns-in-Bool c = λ s old e h. no_number_part s old c.args.at e c.args.part.now h c.in-Bool.is
