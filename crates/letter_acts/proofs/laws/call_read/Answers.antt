use Rattle.letter_acts.proofs.ReadingLemmas.{call_read}
use Rattle.letter_acts.proofs.laws.call_read.Goals as goal

pub returns : goal.returns
returns c = call_read
