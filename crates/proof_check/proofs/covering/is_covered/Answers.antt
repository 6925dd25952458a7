use Rattle.std.proofs.Common.{◌∙◌, sym}
use Rattle.std.proofs.lemmas.Bool.{false≢true}
use Rattle.proof_names.specs.Outlines.{node}
use Rattle.proof_check.proofs.CoverLaws.{covered_rest}
use Rattle.proof_check.proofs.covering.is_covered.Goals as goal

pub returns-then-has_steps : goal.returns-then-has_steps
returns-then-has_steps c =
    λ x i. covered_rest c.args.icfg.now c.args.plan.now c.args.number x (node c.node-node.result.now) c.has_steps.result c.has_backs.result i c.node-node.ensures
    (λ p. false≢true (sym c.if-has.false ∙ c.has.ensures.1 p)) c.has_steps.ensures c.if-has_steps.true c.has_backs.ensures
