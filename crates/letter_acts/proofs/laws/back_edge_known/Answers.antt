use Rattle.letter_acts.proofs.KnownLemmas.{back_edge_known}
use Rattle.letter_acts.proofs.laws.back_edge_known.Goals as goal

pub returns : goal.returns
returns c = back_edge_known
