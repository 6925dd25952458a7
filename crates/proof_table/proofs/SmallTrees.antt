-- A tree with few nodes has few cuts on a branch.
use Rattle.std.proofs.Common.{◌≡◌, ◌≤◌, ◌+◌, suc, List, length, sym, ap, ◌∙◌, arith}
use Rattle.std.proofs.lemmas.List.{length-append, length-map}
use Rattle.farkas_check.specs.declared.refutations.Node.{Node}
use Rattle.farkas_check.specs.Nodes.{PlainNode, plain, plain_nodes}
use Rattle.farkas_check.specs.Trees.{Tree, Trees, leaf_tree, cut_tree, cases_tree, no_tree, one_more, prefix_of, prefixes_of, cuts_on_branch, most_cuts}
use Rattle.nested_itp.specs.NestedPredicates.Interpolants.{HasCutsUpTo}

mutual
  twice_cuts : (t : Tree) → suc (cuts_on_branch t + cuts_on_branch t) ≤ length (prefix_of t)
  twice_cuts (leaf_tree parts) = omega arith
  twice_cuts (cut_tree c k t u) =
      let a = twice_cuts t in let b = twice_cuts u in let e = length-append (prefix_of t) (prefix_of u) in omega (arith, a, b, e)
  twice_cuts (cases_tree ts) = let a = twice_most ts in omega (arith, a)

  twice_most : (ts : Trees) → most_cuts ts + most_cuts ts ≤ length (prefixes_of ts)
  twice_most no_tree = omega arith
  twice_most (one_more t ts) =
      let a = twice_cuts t in let b = twice_most ts in let e = length-append (prefix_of t) (prefixes_of ts) in omega (arith, a, b, e)

pub few_cuts : (nodes : List Node) (proof : List PlainNode) → plain_nodes nodes ≡ proof → length nodes ≤ 129 → HasCutsUpTo 64 proof
few_cuts nodes proof s h = λ t e.
    let a = twice_cuts t in
    let b : length (plain_nodes nodes) ≡ length nodes = length-map nodes plain in
    let c : length (prefix_of t) ≡ length (plain_nodes nodes) = ap (λ (ns : List PlainNode). length ns) (e ∙ sym s) in
    omega (arith, a, b, c, h)
