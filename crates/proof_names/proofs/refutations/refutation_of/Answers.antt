use Rattle.std.proofs.Common.{◌∙◌, ap, sym}
use Rattle.std.specs.Option.{option_map}
use Rattle.farkas_check.specs.Nodes.{plain_nodes}
use Rattle.proof_names.proofs.RefutationLaws.{refuted_as, tree_of_nodes}
use Rattle.proof_names.proofs.refutations.refutation_of.Goals as goal

pub returns-in-Some : goal.returns-in-Some
returns-in-Some c =
    tree_of_nodes c.args.nodes.now c.tree.result (plain_nodes c.in-Some.nodes.items) c.requires
    (sym (ap (option_map (λ v. plain_nodes v.items)) c.in-Some.is) ∙ c.in_ok-nodes.ensures) c.tree.ensures.counted c.tree.ensures.value

pub returns-in-None : goal.returns-in-None
returns-in-None c =
    refuted_as c.args.nodes.now _ (sym (ap (option_map (λ v. plain_nodes v.items)) c.in-None.is) ∙ c.in_ok-nodes.ensures)
