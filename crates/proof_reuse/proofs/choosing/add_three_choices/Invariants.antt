use Rattle.std.proofs.Common.{take}
use Rattle.nwa_base.specs.Members.{SameMembers}
use Rattle.proof_reuse.specs.Ties.Choices.{three_choices}
use Rattle.proof_reuse.proofs.choosing.add_three_choices.Given as goal

abbrev pub invariant-loop-three : goal.invariant-loop-three
invariant-loop-three l = SameMembers l.choices.keys (three_choices l.preds (take l.three-index l.threes) l.callee l.caller)
