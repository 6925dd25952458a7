use Rattle.std.proofs.Common.{take}
use Rattle.proof_reuse.specs.Ties.Choices.{ArePicked}
use Rattle.proof_reuse.proofs.picking.all_picked.Given as goal

abbrev pub invariant-loop-numbers : goal.invariant-loop-numbers
invariant-loop-numbers l = ArePicked l.icfg l.preds (take l.numbers-index l.listed) l.triples.items
