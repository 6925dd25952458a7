use Rattle.std.proofs.Common.{◌≡◌, [], ◌∷◌, drop, reverse}
use Rattle.farkas_check.specs.Nodes.{plain_nodes}
use Rattle.int_decide.specs.Ties.CutCounts.{have_few_cuts}
use Rattle.int_decide.proofs.accepting.have_few_cuts.Given as goal

abbrev pub invariant-loop-node : goal.invariant-loop-node
invariant-loop-node l = have_few_cuts (l.depth ∷ []) (plain_nodes l.nodes) ≡ have_few_cuts (reverse l.lefts.items) (drop l.node-index (plain_nodes l.nodes))
