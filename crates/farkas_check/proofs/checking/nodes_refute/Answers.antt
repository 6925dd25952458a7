use Rattle.std.proofs.Common.{◌≡◌, ◌∙◌, ◌<◌, ◌≤◌, ℕ, ℤ, List, [], ◌∷◌, length, get_or, ap, sym, subst, arith}
use Rattle.std.specs.Prelude.{◌↔◌, IsTrue, IfOk}
use Rattle.std.specs.Global.{Vec}
use Rattle.farkas_check.specs.declared.refutations.Node.{Node}
use Rattle.farkas_check.specs.declared.refutations.Node.TheVariants.{Leaf}
use Rattle.farkas_check.specs.Nodes.{PlainNode, leaf, plain, plain_nodes}
use Rattle.farkas_check.specs.Refutes.{Refutes}
use Rattle.farkas_check.proofs.checking.nodes_refute.Goals as goal

-- a list whose only node is a leaf
alone : (nodes : List Node) (node : Node) (parts : Vec (ℕ × ℤ)) → 1 ≤ length nodes → length nodes < 2 → node ≡ get_or nodes 0 node → node ≡ Leaf parts →
    leaf parts.items ∷ [] ≡ plain_nodes nodes
alone [] node parts a b e f = absurd (omega arith)
alone (n ∷ []) node parts a b e f = ap (λ (m : Node). plain m ∷ []) (sym f ∙ e)
alone (n ∷ m ∷ ns) node parts a b e f = absurd (omega arith)

pub returns-in-Leaf : goal.returns-in-Leaf
returns-in-Leaf c =
    subst (λ (nodes : List PlainNode). IfOk c.leaf_refutes.result (λ yes. IsTrue yes ↔ Refutes nodes c.args.system.now))
    (ap (λ (parts : List (ℕ × ℤ)). leaf parts ∷ []) c.deref.ensures.value ∙
    alone c.args.nodes.now c.node-item.result c.in-Leaf.parts c.in-len1.len_at_least c.in-len1.len_below c.node-item.is c.in-Leaf.is)
    c.leaf_refutes.ensures

pub returns : goal.returns
returns c = c.tree_refutes.ensures
