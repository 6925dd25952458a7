use Rattle.letter_acts.proofs.ReadingLemmas.{inside_read}
use Rattle.letter_acts.proofs.laws.inside_read.Goals as goal

pub returns : goal.returns
returns c = inside_read
