use Rattle.proof_check.specs.Ties.Plans.{IsOfNode}
use Rattle.proof_check.proofs.WalkLaws.{NoneTo}
use Rattle.proof_check.proofs.sound.back_gives.Given as goal

abbrev pub invariant-loop-source : goal.invariant-loop-source
invariant-loop-source l = NoneTo (λ s. IsOfNode l.plan.nodes s.0 l.exit × IsOfNode l.plan.nodes s.1 l.before) l.source-items l.source-index
