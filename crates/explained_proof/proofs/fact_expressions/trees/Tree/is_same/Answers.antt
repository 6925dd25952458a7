use Rattle.std.proofs.Common.{◌∙◌, sym, ap}
use lib.Pointwise.{pointwise}
use Rattle.triple_rows.specs.Predicates.{formula_of, prefix_of}
use Rattle.explained_proof.specs.FactExpressions.Trees.{same_node}
use Rattle.explained_proof.proofs.FactExpressions.TreeLaws.{one_prefix}
use Rattle.explained_proof.proofs.fact_expressions.trees.Tree.is_same.Goals as goal

pub returns : goal.returns
returns c =
    let ns = c.args.self.nodes.now in
    let ms = c.args.other.nodes.now in
    c.same_nodes.ensures ∙ ap (λ xs. pointwise same_node xs ms) (sym (one_prefix ns c.args.self.spelled)) ∙
    ap (λ ys. pointwise same_node (prefix_of (formula_of ns)) ys) (sym (one_prefix ms c.args.other.spelled))
