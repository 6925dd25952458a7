use Rattle.proof_check.proofs.WalkLaws.{AllTo}
use Rattle.proof_check.proofs.CoverLaws.{LeadsBackAlong}
use Rattle.proof_check.proofs.covering.has_backs_along.Given as goal

abbrev pub invariant-loop-edge : goal.invariant-loop-edge
invariant-loop-edge l = AllTo (LeadsBackAlong l.plan l.exit l.before l.call) l.edges l.edge-index
