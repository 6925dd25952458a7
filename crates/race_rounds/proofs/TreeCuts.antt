-- A prefix list is that of one tree, so the cuts on its branches are those of the list.
use Rattle.std.proofs.Common.{◌≡◌, ◌≤◌, ◌+◌, ℕ, List, [], ◌∷◌, ◌++◌, sym, ap, subst, ◌∙◌, refl, append_assoc, arith}
use Rattle.farkas_check.specs.Nodes.{PlainNode}
use Rattle.farkas_check.specs.Trees.{Tree, Trees, leaf_tree, cut_tree, cases_tree, no_tree, one_more, tree_count, prefix_of, prefixes_of, cuts_on_branch}
use Rattle.int_decide.specs.Worth as worth
use Rattle.nested_itp.specs.NestedPredicates.Interpolants.{HasCutsUpTo}

mutual
  same_tree : (t u : Tree) (ns ms : List PlainNode) → prefix_of t ++ ns ≡ prefix_of u ++ ms → (t ≡ u) × (ns ≡ ms)
  same_tree (leaf_tree p) (leaf_tree q) ns ms e = (cc, cc)
  same_tree (leaf_tree p) (cut_tree d l v w) ns ms e = absurd (cc)
  same_tree (leaf_tree p) (cases_tree us) ns ms e = absurd (cc)
  same_tree (cut_tree c k t u) (leaf_tree q) ns ms e = absurd (cc)
  same_tree (cut_tree c k t u) (cut_tree d l v w) ns ms e =
      let a : (prefix_of t ++ prefix_of u) ++ ns ≡ prefix_of t ++ (prefix_of u ++ ns) = append_assoc (prefix_of t) (prefix_of u) ns in
      let b : (prefix_of v ++ prefix_of w) ++ ms ≡ prefix_of v ++ (prefix_of w ++ ms) = append_assoc (prefix_of v) (prefix_of w) ms in
      let tail : (prefix_of t ++ prefix_of u) ++ ns ≡ (prefix_of v ++ prefix_of w) ++ ms = cc in
      let first = same_tree t v (prefix_of u ++ ns) (prefix_of w ++ ms) (sym a ∙ tail ∙ b) in
      let second = same_tree u w ns ms first.1 in
      let x = first.0 in let y = second.0 in
      (cc, second.1)
  same_tree (cut_tree c k t u) (cases_tree us) ns ms e = absurd (cc)
  same_tree (cases_tree ts) (leaf_tree q) ns ms e = absurd (cc)
  same_tree (cases_tree ts) (cut_tree d l v w) ns ms e = absurd (cc)
  same_tree (cases_tree ts) (cases_tree us) ns ms e =
      let n : tree_count ts ≡ tree_count us = cc in
      let r : prefixes_of ts ++ ns ≡ prefixes_of us ++ ms = cc in
      let s = same_trees ts us ns ms n r in
      (ap cases_tree s.0, s.1)

  same_trees : (ts us : Trees) (ns ms : List PlainNode) → tree_count ts ≡ tree_count us → prefixes_of ts ++ ns ≡ prefixes_of us ++ ms → (ts ≡ us) × (ns ≡ ms)
  same_trees no_tree no_tree ns ms n e = (refl, e)
  same_trees no_tree (one_more u us) ns ms n e = absurd (omega arith)
  same_trees (one_more t ts) no_tree ns ms n e = absurd (omega arith)
  same_trees (one_more t ts) (one_more u us) ns ms n e =
      let a : (prefix_of t ++ prefixes_of ts) ++ ns ≡ prefix_of t ++ (prefixes_of ts ++ ns) = append_assoc (prefix_of t) (prefixes_of ts) ns in
      let b : (prefix_of u ++ prefixes_of us) ++ ms ≡ prefix_of u ++ (prefixes_of us ++ ms) = append_assoc (prefix_of u) (prefixes_of us) ms in
      let first = same_tree t u (prefixes_of ts ++ ns) (prefixes_of us ++ ms) (sym a ∙ e ∙ b) in
      let rest = same_trees ts us ns ms (omega arith) first.1 in
      let x = first.0 in let y = rest.0 in
      (cc, rest.1)

pub few_cuts : (d : ℕ) (nodes : List PlainNode) → d ≤ 64 → worth.IsTreeOf d nodes → HasCutsUpTo 64 nodes
few_cuts d nodes l h = λ t e.
    let same : t ≡ h.tree = (same_tree t h.tree [] [] (ap (λ (ns : List PlainNode). ns ++ []) (e ∙ sym h.prefix))).0 in
    let f = h.few_cuts in
    subst (λ (u : Tree). cuts_on_branch u ≤ 64) (sym same) (omega (arith, f, l))
