use Rattle.letter_acts.proofs.KnownLemmas.{call_edge_known}
use Rattle.letter_acts.proofs.laws.call_edge_known.Goals as goal

pub returns : goal.returns
returns c = call_edge_known
