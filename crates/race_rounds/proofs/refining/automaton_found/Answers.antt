use Rattle.race_rounds.proofs.TreeCuts.{few_cuts}
use Rattle.race_rounds.proofs.refining.automaton_found.Goals as goal

pub automaton_under-requires-clause-cuts : goal.automaton_under-requires-clause-cuts
automaton_under-requires-clause-cuts g c κs within = few_cuts c.args.depth c.args.refutation.now c.requires.depth c.requires.refutation.tree

pub returns-in-None : goal.returns-in-None
returns-in-None g c = c.automaton_under.ensures.evidence
