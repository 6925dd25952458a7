use Rattle.letter_acts.proofs.KnownLemmas.{frames_laid_out}
use Rattle.letter_acts.proofs.laws.frames_laid_out.Goals as goal

pub returns : goal.returns
returns c = frames_laid_out
