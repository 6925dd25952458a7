-- The nodes of a refutation in the grammar are one whole tree.
use Rattle.std.proofs.Common.{◌≡◌, ◌↔◌, ◌∙◌, ℕ, ◌+◌, ◌-◌, true, List, [], ◌∷◌, Option, None, Some, refl, sym, ap, subst, arith}
use Rattle.std.specs.Prelude.{ℤ, map, nat_eq, nat_le, IsTrue, IsSome, IfSome}
use Rattle.std.specs.List.{list_all}
use Rattle.std.specs.Option.{option_map}
use Rattle.std.proofs.lemmas.Bool.{leb-true, eqb-true}
use Rattle.farkas_check.specs.Nodes as nodes
use Rattle.farkas_check.specs.Nodes.{PlainNode, branches, are_trees, is_tree}
use Rattle.proof_form.specs.declared.refutations.RNode.{RNode}
use Rattle.proof_form.specs.Trees as trees
use Rattle.proof_form.specs.Trees.{tree_count, have_parts}
use Rattle.proof_form.specs.Refutations as form
use Rattle.proof_form.specs.Refutations.{RefutationNode, leaf, cut, cases, refutation_parts}
use Rattle.proof_form.proofs.RunLaws.{both_hold}
use Rattle.proof_names.specs.Numbers.{short_in, number_in}
use Rattle.proof_names.specs.Options.{both, all_some}
use Rattle.proof_names.specs.Refutations.{named_part, cut_of, node_of, refutation_of}
use Rattle.proof_names.proofs.AllLaws.{front_of, mapped_twice, found_where}

leaf_branches : (o : Option (List (ℕ × ℤ))) (m : PlainNode) → option_map nodes.leaf o ≡ Some m → branches m ≡ 0
leaf_branches None m e = absurd (cc)
leaf_branches (Some ps) m e = let k : nodes.leaf ps ≡ m = cc in ap branches (sym k)

cut_branches : (o : Option (ℕ × ℤ)) (m : PlainNode) → cut_of o ≡ Some m → branches m ≡ 2
cut_branches None m e = absurd (cc)
cut_branches (Some c) m e = let k : nodes.cut c.0 c.1 ≡ m = cc in ap branches (sym k)

-- a node has as many trees below it as its line says
branches_are : (n : RefutationNode) (m : PlainNode) → node_of n ≡ Some m → branches m ≡ refutation_parts n
branches_are (leaf ps) m e = leaf_branches (all_some (map named_part ps)) m e
branches_are (cut c k) m e = cut_branches (both (short_in c) (number_in k)) m e
branches_are (cases n) m e = let k : nodes.cases n ≡ m = cc in ap branches (sym k)

are_counted : (ns : List RefutationNode) (ms : List PlainNode) (k : ℕ) → all_some (map node_of ns) ≡ Some ms → have_parts refutation_parts ns ≡ true → tree_count refutation_parts ns ≡ k →
    are_trees k ms ≡ true
are_counted [] ms k e h t =
    let i : [] ≡ ms = cc in
    subst (λ l. are_trees k l ≡ true) i (subst (λ (j : ℕ). nat_eq j 0 ≡ true) t refl)
are_counted (n ∷ ns) ms k e h t =
    let f = front_of (node_of n) (all_some (map node_of ns)) ms e in
    let b = both_hold (have_parts refutation_parts ns) (nat_le (refutation_parts n) (tree_count refutation_parts ns)) h in
    let l = leb-true (refutation_parts n) (tree_count refutation_parts ns) b.1 in
    let w : branches f.first ≡ refutation_parts n = branches_are n f.first f.is in
    let r = are_counted ns f.rest (branches f.first + (tree_count refutation_parts ns - refutation_parts n)) f.others b.0 (omega (arith, l, w)) in
    subst (λ l. are_trees k l ≡ true) (sym f.joined) (subst (λ (j : ℕ). are_trees j (f.first ∷ f.rest) ≡ true) t r)

-- a refutation in the grammar, with numbers for its rows, is one whole tree
pub refutation_is_tree : (ns : List RefutationNode) (ms : List PlainNode) → IsTrue (form.is_refutation ns) → refutation_of ns ≡ Some ms → IsTrue (is_tree ms)
refutation_is_tree ns ms g e =
    let a = both_hold (list_all form.is_refutation_node ns) (trees.is_tree refutation_parts ns) g in
    let b = both_hold (have_parts refutation_parts ns) (nat_eq (tree_count refutation_parts ns) 1) a.1 in
    are_counted ns ms 1 e b.0 (eqb-true (tree_count refutation_parts ns) 1 b.1)

pub refuted_as : (ns : List RNode) (o : Option (List PlainNode)) → o ≡ all_some (map (λ n. node_of (form.plain_refutation_node n)) ns) → o ≡ refutation_of (map form.plain_refutation_node ns)
refuted_as ns o e = e ∙ ap all_some (sym (mapped_twice node_of form.plain_refutation_node ns))

-- the tree of the nodes of a line of the grammar is its refutation
pub tree_of_nodes : (ns : List RNode) (r : Option (List PlainNode)) (ms : List PlainNode) → IsTrue (form.is_refutation (map form.plain_refutation_node ns)) →
    Some ms ≡ all_some (map (λ n. node_of (form.plain_refutation_node n)) ns) → (IsSome r ↔ IsTrue (is_tree ms)) → IfSome r (λ x. x ≡ ms) → r ≡ refutation_of (map form.plain_refutation_node ns)
tree_of_nodes ns r ms g e h v =
    let k = refuted_as ns (Some ms) e in
    found_where (IsTrue (is_tree ms)) r ms (refutation_is_tree (map form.plain_refutation_node ns) ms g (sym k)) h v ∙ k
