use Rattle.std.proofs.Common.{sym, subst, refl}
use Rattle.nested_itp.specs.declared.nested_predicates.joins.Part.{Part}
use Rattle.nested_itp.specs.declared.nested_predicates.joins.Part.TheVariants as parts
use Rattle.nested_itp.specs.NestedPredicates.Simplifying.{JoinsParts}
use Rattle.nested_itp.proofs.NestedPredicates.SimplifyingLaws.{nodes_beside, two_trees}
use Rattle.nested_itp.proofs.nested_predicates.joins.Simplifier.after_nodes.Goals as goal

pub returns-in-Truth : goal.returns-in-Truth
returns-in-Truth c =
    subst (λ (p : Part). JoinsParts c.args.by_or (parts.Nodes c.args.from) p c.beside.result c.args.self.now c.beside.new.self) (sym c.in-Truth.is)
    (nodes_beside c.args.by_or c.in-Truth.value c.args.from c.beside.result c.args.self.now c.beside.new.self c.beside.ensures.parts c.beside.ensures.part c.beside.ensures.nodes)

pub returns-in_ok-push-in-Nodes : goal.returns-in_ok-push-in-Nodes
returns-in_ok-push-in-Nodes c =
    subst (λ (p : Part). JoinsParts c.args.by_or (parts.Nodes c.args.from) p (parts.Nodes c.in-Nodes.other) c.args.self.now (record c.args.self.now { nodes = c.push.new.self })) (sym c.in-Nodes.is)
    (two_trees c.args.by_or c.args.from c.in-Nodes.other c.join_node.result c.args.self.now _ refl c.join_node.ensures c.in_ok-push-in-Nodes.ensures.items)
