use Rattle.std.proofs.Common.{◌++◌, ◌∙◌, ap}
use Rattle.std.specs.List.{flat_map}
use Rattle.std.specs.String.{string_bytes}
use Rattle.race_verdicts.specs.Texts.{letter_piece}
use Rattle.race_verdicts.proofs.Written.{all_written}
use Rattle.race_verdicts.proofs.texts.push_letters.Goals as goal

pub returns : goal.returns
returns c = all_written letter_piece _ _ _ _ c.loop-letter-test.false c.loop-letter.invariant ∙ ap (λ w. string_bytes c.args.text.now ++ flat_map letter_piece w) c.letters-letter-items.ensures.value
