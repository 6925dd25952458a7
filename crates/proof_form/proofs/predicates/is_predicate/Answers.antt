use Rattle.std.proofs.Common.{◌≡◌, ◌&&◌, map, refl}
use Rattle.std.proofs.lemmas.Result.{IfOk-weaker}
use Rattle.proof_form.specs.Predicates.{plain_predicate_node, parts, is_predicate_node, is_predicate, are_low}
use Rattle.proof_form.specs.Trees.{is_tree}
use Rattle.proof_form.proofs.CountLaws.{seen_and, seen_not, first_fails, first_holds}
use Rattle.proof_form.proofs.predicates.is_predicate.Goals as goal

pub returns-then-not-are_nodes : goal.returns-then-not-are_nodes
returns-then-not-are_nodes c =
    seen_not is_predicate_node plain_predicate_node c.args.nodes.now _ (is_tree parts (map plain_predicate_node c.args.nodes.now) && are_low (map plain_predicate_node c.args.nodes.now)) c.if-not-are_nodes.ensures refl

pub returns-then-not-is_whole : goal.returns-then-not-is_whole
returns-then-not-is_whole c =
    seen_and is_predicate_node plain_predicate_node c.args.nodes.now _ (is_tree parts (map plain_predicate_node c.args.nodes.now) && are_low (map plain_predicate_node c.args.nodes.now)) c.if-not-are_nodes.ensures
    (first_fails (is_tree parts (map plain_predicate_node c.args.nodes.now)) (are_low (map plain_predicate_node c.args.nodes.now)) c.if-not-is_whole.ensures)

pub returns : goal.returns
returns c =
    IfOk-weaker c.are_low.result (λ r. r ≡ are_low (map plain_predicate_node c.args.nodes.now)) (λ r. r ≡ is_predicate (map plain_predicate_node c.args.nodes.now))
    (λ r h. seen_and is_predicate_node plain_predicate_node c.args.nodes.now r (is_tree parts (map plain_predicate_node c.args.nodes.now) && are_low (map plain_predicate_node c.args.nodes.now)) c.if-not-are_nodes.ensures
    (first_holds (is_tree parts (map plain_predicate_node c.args.nodes.now)) (are_low (map plain_predicate_node c.args.nodes.now)) r c.if-not-is_whole.ensures h)) c.are_low.ensures
