use Rattle.letter_acts.specs.Kept.{Keeps}
use Rattle.letter_acts.proofs.making.icfg.Goals as goal

pub new-requires : goal.new-requires
unfolding Keeps
new-requires c = c.is_graph.ensures.0 c.if-is_graph.true
