-- Nodes whose cuts are at columns below a count.
use Rattle.std.proofs.Common.{◌≡◌, ℕ, zero, suc, ◌+◌, ◌<◌, ◌≤◌, List, [], ◌∷◌, ◌++◌, length, take, get_or, sym, subst, arith}
use Rattle.std.specs.List.{AllByRecursion}
use Rattle.std.proofs.lemmas.List.{take_more, take_all}
use Rattle.farkas_check.specs.declared.refutations.Node.{Node}
use Rattle.farkas_check.specs.Nodes.{PlainNode, plain, plain_nodes}
use Rattle.farkas_check.specs.Trees.{Tree, Trees, leaf_tree, cut_tree, cases_tree, no_tree, one_more, prefix_of, prefixes_of, cuts_on_branch, most_cuts}
use Rattle.int_decide.specs.Worth.{IsTreeOf}
use Rattle.triple_rows.specs.Cuts.{IsCutWithin}

-- ---- lists of nodes

nodes_append : (P : PlainNode → Type 0) (xs ys : List Node) → AllByRecursion P (plain_nodes xs) → AllByRecursion P (plain_nodes ys) →
    AllByRecursion P (plain_nodes (xs ++ ys))
nodes_append P [] ys h k = k
nodes_append P (x ∷ xs) ys h k = (h.0, nodes_append P xs ys h.1 k)

-- one node more
pub node_more : (P : PlainNode → Type 0) (nodes : List Node) (i : ℕ) (x : Node) → i < length nodes → x ≡ get_or nodes i x → P (plain x) →
    AllByRecursion P (plain_nodes (take i nodes)) → AllByRecursion P (plain_nodes (take (i + 1) nodes))
node_more P nodes i x l e k h = subst (λ (ns : List Node). AllByRecursion P (plain_nodes ns)) (sym (take_more nodes i x l))
    (nodes_append P (take i nodes) (get_or nodes i x ∷ []) h (subst (λ (y : Node). P (plain y)) e k, tt))

-- all of them
pub node_all : (P : PlainNode → Type 0) (nodes : List Node) (i : ℕ) → length nodes ≤ i → AllByRecursion P (plain_nodes (take i nodes)) →
    AllByRecursion P (plain_nodes nodes)
node_all P nodes i l h = subst (λ (ns : List Node). AllByRecursion P (plain_nodes ns)) (take_all i nodes l) h

-- one of them
pub node_at : (P : PlainNode → Type 0) (nodes : List Node) (i : ℕ) (x : Node) → i < length nodes → x ≡ get_or nodes i x →
    AllByRecursion P (plain_nodes nodes) → P (plain x)
node_at P [] i x l e h = absurd (omega arith)
node_at P (n ∷ ns) zero x l e h = subst (λ (y : Node). P (plain y)) (sym e) h.0
node_at P (n ∷ ns) (suc i) x l e h = node_at P ns i x (omega arith) e h.1

-- ---- trees without cuts

all_append : (P : PlainNode → Type 0) (xs ys : List PlainNode) → AllByRecursion P xs → AllByRecursion P ys → AllByRecursion P (xs ++ ys)
all_append P [] ys h k = k
all_append P (x ∷ xs) ys h k = (h.0, all_append P xs ys h.1 k)

mutual
  tree_uncut : (n : ℕ) (t : Tree) → cuts_on_branch t ≤ 0 → AllByRecursion (IsCutWithin n) (prefix_of t)
  tree_uncut n (leaf_tree parts) h = (tt, tt)
  tree_uncut n (cut_tree c k t u) h = absurd (omega arith)
  tree_uncut n (cases_tree ts) h = (tt, trees_uncut n ts h)

  trees_uncut : (n : ℕ) (ts : Trees) → most_cuts ts ≤ 0 → AllByRecursion (IsCutWithin n) (prefixes_of ts)
  trees_uncut n no_tree h = tt
  trees_uncut n (one_more t ts) h =
      let first : cuts_on_branch t ≤ 0 = omega arith in
      let others : most_cuts ts ≤ 0 = omega arith in
      all_append (IsCutWithin n) (prefix_of t) (prefixes_of ts) (tree_uncut n t first) (trees_uncut n ts others)

-- a refutation without cuts
pub uncut_within : (n : ℕ) (nodes : List PlainNode) → IsTreeOf 0 nodes → AllByRecursion (IsCutWithin n) nodes
uncut_within n nodes h = subst (AllByRecursion (IsCutWithin n)) h.prefix (tree_uncut n h.tree h.few_cuts)
