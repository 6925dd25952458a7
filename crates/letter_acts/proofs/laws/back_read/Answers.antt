use Rattle.letter_acts.proofs.ReadingLemmas.{back_read}
use Rattle.letter_acts.proofs.laws.back_read.Goals as goal

pub returns : goal.returns
returns c = back_read
