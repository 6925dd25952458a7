use Rattle.proof_check.specs.Ties.Plans.{IsOfNode}
use Rattle.proof_check.proofs.WalkLaws.{NoneTo}
use Rattle.proof_check.proofs.sound.inside_gives.Given as goal

abbrev pub invariant-loop-source : goal.invariant-loop-source
invariant-loop-source l = NoneTo (λ q. IsOfNode l.plan.nodes q l.from) l.source-items l.source-index
