use Rattle.letter_acts.proofs.KnownLemmas.{frames_agree}
use Rattle.letter_acts.proofs.laws.frames_agree.Goals as goal

pub returns : goal.returns
returns c = frames_agree
