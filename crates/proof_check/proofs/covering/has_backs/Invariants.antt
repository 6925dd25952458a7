use Rattle.proof_check.specs.Ties.Covering.{HasBacksFrom}
use Rattle.proof_check.proofs.WalkLaws.{AllTo}
use Rattle.proof_check.proofs.covering.has_backs.Given as goal

abbrev pub invariant-loop-step : goal.invariant-loop-step
invariant-loop-step l = AllTo (λ t. HasBacksFrom l.icfg l.plan l.number l.place t.0 t.1) l.step-items l.step-index
