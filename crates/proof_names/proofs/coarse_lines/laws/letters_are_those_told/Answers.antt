use Rattle.proof_names.proofs.CoarseLines.ToldLaws.{letters_are_short, letters_have}
use Rattle.proof_names.proofs.coarse_lines.laws.letters_are_those_told.Goals as goal

pub returns-clause-short : goal.returns-clause-short
returns-clause-short c = letters_are_short

pub returns-clause-told : goal.returns-clause-told
returns-clause-told c = letters_have
