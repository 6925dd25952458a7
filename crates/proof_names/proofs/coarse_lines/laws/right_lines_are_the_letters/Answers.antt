use Rattle.proof_names.proofs.CoarseLines.ToldLaws.{right_is_letters, letters_compared}
use Rattle.proof_names.proofs.coarse_lines.laws.right_lines_are_the_letters.Goals as goal

pub returns : goal.returns
returns c = λ g coarse a. (λ h. right_is_letters g coarse a h.0 h.1, letters_compared g coarse a)
