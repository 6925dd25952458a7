-- Nodes as plain data, one more each time, and the trees that are missing.
use Rattle.std.proofs.Common.{◌≡◌, ℕ, zero, suc, ◌+◌, ◌<◌, ◌≤◌, ◌-◌, false, List, [], ◌∷◌, length, map, drop, get_or, nat_eq, ap, refl, sym, ◌∙◌, arith}
use Rattle.std.proofs.lemmas.List.{drop_more, drop_all, drop-map, length-map}
use Rattle.farkas_check.specs.declared.refutations.Node.{Node}
use Rattle.farkas_check.specs.Nodes.{PlainNode, plain, plain_nodes, branches, are_trees}

-- the nodes from a place on, as plain data
pub plain_from : (nodes : List Node) (i : ℕ) (d : Node) → i < length nodes → drop i (plain_nodes nodes) ≡ plain (get_or nodes i d) ∷ drop (i + 1) (plain_nodes nodes)
plain_from nodes i d l =
    drop-map plain i nodes ∙ ap (map plain) (drop_more nodes i d l) ∙ ap (λ (ns : List PlainNode). plain (get_or nodes i d) ∷ ns) (sym (drop-map plain (i + 1) nodes))

pub plain_none : (nodes : List Node) (i : ℕ) → length nodes ≤ i → drop i (plain_nodes nodes) ≡ []
plain_none nodes i l = let e : length (plain_nodes nodes) ≡ length nodes = length-map nodes plain in drop_all i (plain_nodes nodes) (omega arith)

-- one node more is read while trees are missing
pub trees_go : (nodes : List Node) (i count : ℕ) (d : Node) → i < length nodes → 0 < count →
    are_trees count (drop i (plain_nodes nodes)) ≡ are_trees ((count - 1) + branches (plain (get_or nodes i d))) (drop (i + 1) (plain_nodes nodes))
trees_go nodes i zero d l p = absurd (omega arith)
trees_go nodes i (suc rest) d l p =
    let n : PlainNode = plain (get_or nodes i d) in
    let e : branches n + rest ≡ (suc rest - 1) + branches n = omega arith in
    ap (are_trees (suc rest)) (plain_from nodes i d l) ∙ ap (λ (count : ℕ). are_trees count (drop (i + 1) (plain_nodes nodes))) e

-- a node is left where no tree is missing
pub trees_stop : (nodes : List Node) (i count : ℕ) (d : Node) → i < length nodes → count ≡ 0 → are_trees count (drop i (plain_nodes nodes)) ≡ false
trees_stop nodes i count d l e = ap (λ (n : ℕ). are_trees n (drop i (plain_nodes nodes))) e ∙ ap (are_trees 0) (plain_from nodes i d l)

-- no node is left
pub trees_end : (nodes : List Node) (i count : ℕ) → length nodes ≤ i → are_trees count (drop i (plain_nodes nodes)) ≡ nat_eq count 0
trees_end nodes i count l = ap (are_trees count) (plain_none nodes i l) ∙ at_end count
  where
    at_end : (count : ℕ) → are_trees count [] ≡ nat_eq count 0
    at_end zero = refl
    at_end (suc n) = refl
