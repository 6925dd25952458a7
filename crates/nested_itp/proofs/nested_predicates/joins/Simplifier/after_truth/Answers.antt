use Rattle.std.proofs.Common.{sym, subst}
use Rattle.nested_itp.specs.declared.nested_predicates.joins.Part.{Part}
use Rattle.nested_itp.specs.declared.nested_predicates.joins.Part.TheVariants as parts
use Rattle.nested_itp.specs.NestedPredicates.Simplifying.{JoinsParts}
use Rattle.nested_itp.proofs.NestedPredicates.SimplifyingLaws.{truth_beside}
use Rattle.nested_itp.proofs.nested_predicates.joins.Simplifier.after_truth.Goals as goal

pub returns-in-Nodes : goal.returns-in-Nodes
returns-in-Nodes c =
    subst (λ (p : Part). JoinsParts c.args.by_or (parts.Truth c.args.value) p c.beside.result c.args.self.now c.beside.new.self) (sym c.in-Nodes.is)
    (truth_beside c.args.by_or c.args.value c.in-Nodes.from c.beside.result c.args.self.now c.beside.new.self c.beside.ensures.parts c.beside.ensures.part c.beside.ensures.nodes)
