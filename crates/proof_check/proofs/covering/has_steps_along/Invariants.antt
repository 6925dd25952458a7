use Rattle.proof_check.proofs.WalkLaws.{AllTo}
use Rattle.proof_check.proofs.CoverLaws.{LeadsAlong}
use Rattle.proof_check.proofs.covering.has_steps_along.Given as goal

abbrev pub invariant-loop-edge : goal.invariant-loop-edge
invariant-loop-edge l = AllTo (LeadsAlong l.plan l.number) l.edges l.edge-index
