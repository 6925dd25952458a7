use Rattle.std.proofs.Common.{take}
use Rattle.nwa_base.specs.Members.{SameMembers}
use Rattle.proof_reuse.specs.Ties.Choices.{pair_choices}
use Rattle.proof_reuse.proofs.choosing.add_pair_choices.Given as goal

abbrev pub invariant-loop-pair : goal.invariant-loop-pair
invariant-loop-pair l = SameMembers l.choices.keys (pair_choices l.preds (take l.pair-index l.pairs) l.from l.to)
