use Rattle.proof_names.specs.Items.{first_node}
use Rattle.proof_check.specs.declared.rejects.RejectCause.TheVariants.{MissingStep}
use Rattle.proof_check.specs.Checks.{IsCovered}
use Rattle.proof_check.proofs.ExistLaws.{all_exist}
use Rattle.proof_check.proofs.OutcomeLaws.{refused}
use Rattle.proof_check.proofs.checking.check_covering.Goals as goal

pub first_uncovered-requires : goal.first_uncovered-requires
first_uncovered-requires c = all_exist c.args.icfg.now c.args.proof.now c.args.plan.now c.requires

pub returns-in-Some : goal.returns-in-Some
returns-in-Some c =
    refused (IsCovered c.args.icfg.now c.args.plan.now) c.args.plan.now.nodes (first_node c.args.proof.now) c.in-Some.n MissingStep c.first_node.result c.at.result c.first_node.ensures
    c.at.ensures c.in-Some.ensures
