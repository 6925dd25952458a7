use Rattle.letter_acts.proofs.KnownLemmas.{inside_edge_known}
use Rattle.letter_acts.proofs.laws.inside_edge_known.Goals as goal

pub returns : goal.returns
returns c = inside_edge_known
