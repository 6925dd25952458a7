use Rattle.std.proofs.Common.{◌≡◌, ◌∙◌, List, [], ◌∷◌, ◌++◌, ap, subst}
use Rattle.farkas_check.specs.declared.refutations.Node.{Node}
use Rattle.farkas_check.specs.declared.refutations.Node.TheVariants.{Leaf}
use Rattle.farkas_check.specs.Nodes.{PlainNode, plain_nodes, leaf}
use Rattle.farkas_check.specs.Refutes.{Refutes}
use Rattle.rank_lasso.proofs.LassoRanks.SearchLaws.{leaf_unsolves}
use Rattle.rank_lasso.proofs.lasso_ranks.proposing.unsolved.Goals as goal

pub returns-in-Some-clause-none : goal.returns-in-Some-clause-none
returns-in-Some-clause-none c = λ e s.
    (let nodes : plain_nodes c.push.new.self.items ≡ leaf c.args.parts.items ∷ [] =
    ap plain_nodes (c.in_ok-push.ensures.items ∙ ap (λ (v : List Node). v ++ Leaf c.args.parts ∷ []) c.new-nodes.ensures.items) in
    leaf_unsolves c.system-whole.result c.args.rows.now c.args.parts.items (c.system-whole.ensures.rows ∙ c.in_ok-copied_rows.ensures.value)
    (subst (λ (ns : List PlainNode). Refutes ns c.system-whole.result) nodes (rw c.in-Some.is at c.in_ok-accepted.ensures.exact).0.refutes) s)
