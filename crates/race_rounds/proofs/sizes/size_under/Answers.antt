use Rattle.race_rounds.proofs.TreeCuts.{few_cuts}
use Rattle.race_rounds.proofs.sizes.size_under.Goals as goal

pub prefix_predicates-requires-clause-cuts : goal.prefix_predicates-requires-clause-cuts
prefix_predicates-requires-clause-cuts c = few_cuts c.args.depth c.args.refutation.now c.requires.depth c.requires.refutation.tree
