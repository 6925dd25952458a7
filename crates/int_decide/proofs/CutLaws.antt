-- Trees whose cuts are counted along their prefix list have few cuts on each branch.
use Rattle.std.proofs.Common.{◌≡◌, ◌<◌, ◌≤◌, ◌+◌, ℕ, zero, suc, true, false, List, [], ◌∷◌, ◌++◌, Option, None, Some, drop, get_or, length, reverse, replicate, append_assoc, refl, ap, ◌∙◌, subst, sym, arith}
use Rattle.std.proofs.lemmas.Bool.{false≢true}
use Rattle.std.proofs.lemmas.List.{append-nil, reverse-append}
use Rattle.lin_rows.specs.declared.systems.System.{System}
use Rattle.farkas_check.specs.declared.refutations.Node.{Node}
use Rattle.farkas_check.specs.Nodes.{PlainNode, cases, plain, plain_nodes}
use Rattle.farkas_check.proofs.NodeLaws.{plain_from, plain_none}
use Rattle.farkas_check.specs.Refutes.{Refutes}
use Rattle.farkas_check.specs.Trees.{Tree, leaf_tree, cut_tree, cases_tree, Trees, no_tree, one_more, tree_count, prefix_of, prefixes_of, IsPrefixList, cuts_on_branch, most_cuts}
use Rattle.int_decide.specs.Answers.{RefutesWithin}
use Rattle.int_decide.specs.Ties.CutCounts.{after_node, is_no_tree, goes_on, have_few_cuts}

mutual
  tree_cuts : (t : Tree) (l : ℕ) (ls : List ℕ) (ns : List PlainNode) → have_few_cuts (l ∷ ls) (prefix_of t ++ ns) ≡ true →
      (cuts_on_branch t ≤ l) × (have_few_cuts ls ns ≡ true)
  tree_cuts (leaf_tree parts) l ls ns h = (omega arith, h)
  tree_cuts (cut_tree c k t u) zero ls ns h = absurd (false≢true h)
  tree_cuts (cut_tree c k t u) (suc l) ls ns h =
      let a : (prefix_of t ++ prefix_of u) ++ ns ≡ prefix_of t ++ (prefix_of u ++ ns) = append_assoc (prefix_of t) (prefix_of u) ns in
      let first = tree_cuts t l (l ∷ ls) (prefix_of u ++ ns) (subst (λ (x : List PlainNode). have_few_cuts (l ∷ l ∷ ls) x ≡ true) a h) in
      let second = tree_cuts u l ls ns first.1 in
      let p : cuts_on_branch t ≤ l = first.0 in
      let q : cuts_on_branch u ≤ l = second.0 in
      (omega (arith, p, q), second.1)
  tree_cuts (cases_tree ts) l ls ns h = trees_cuts ts l ls ns h

  trees_cuts : (ts : Trees) (l : ℕ) (ls : List ℕ) (ns : List PlainNode) →
      have_few_cuts (replicate (tree_count ts) l ++ ls) (prefixes_of ts ++ ns) ≡ true → (most_cuts ts ≤ l) × (have_few_cuts ls ns ≡ true)
  trees_cuts no_tree l ls ns h = (omega arith, h)
  trees_cuts (one_more t ts) l ls ns h =
      let a : (prefix_of t ++ prefixes_of ts) ++ ns ≡ prefix_of t ++ (prefixes_of ts ++ ns) = append_assoc (prefix_of t) (prefixes_of ts) ns in
      let first = tree_cuts t l (replicate (tree_count ts) l ++ ls) (prefixes_of ts ++ ns)
      (subst (λ (x : List PlainNode). have_few_cuts (l ∷ replicate (tree_count ts) l ++ ls) x ≡ true) a h) in
      let others = trees_cuts ts l ls ns first.1 in
      let p : cuts_on_branch t ≤ l = first.0 in
      let q : most_cuts ts ≤ l = others.0 in
      (omega (arith, p, q), others.1)

-- a refutation whose cuts are counted
pub refutes_within : (d : ℕ) (s : System) (ns : List PlainNode) → have_few_cuts (d ∷ []) ns ≡ true → IsPrefixList ns → Refutes ns s → RefutesWithin d s ns
refutes_within d s ns h (t, e) r =
    let k : have_few_cuts (d ∷ []) (prefix_of t ++ []) ≡ true =
    subst (λ (x : List PlainNode). have_few_cuts (d ∷ []) x ≡ true) (sym (subst (λ (x : List PlainNode). prefix_of t ++ [] ≡ x) e (append-nil (prefix_of t)))) h in
    record {
      refutes = r;
      tree = record { tree = t; prefix = e; few_cuts = (tree_cuts t d [] [] k).0 };
    }

mutual
  tree_has_few : (t : Tree) (l : ℕ) (ls : List ℕ) (ns : List PlainNode) → cuts_on_branch t ≤ l → have_few_cuts ls ns ≡ true →
      have_few_cuts (l ∷ ls) (prefix_of t ++ ns) ≡ true
  tree_has_few (leaf_tree parts) l ls ns few h = h
  tree_has_few (cut_tree c k t u) zero ls ns few h = absurd (omega arith)
  tree_has_few (cut_tree c k t u) (suc l) ls ns few h =
      let a : (prefix_of t ++ prefix_of u) ++ ns ≡ prefix_of t ++ (prefix_of u ++ ns) = append_assoc (prefix_of t) (prefix_of u) ns in
      let p : cuts_on_branch t ≤ l = omega (arith, few) in
      let q : cuts_on_branch u ≤ l = omega (arith, few) in
      subst (λ (x : List PlainNode). have_few_cuts (l ∷ l ∷ ls) x ≡ true) (sym a) (tree_has_few t l (l ∷ ls) (prefix_of u ++ ns) p (tree_has_few u l ls ns q h))
  tree_has_few (cases_tree ts) l ls ns few h = trees_have_few ts l ls ns few h

  trees_have_few : (ts : Trees) (l : ℕ) (ls : List ℕ) (ns : List PlainNode) → most_cuts ts ≤ l → have_few_cuts ls ns ≡ true →
      have_few_cuts (replicate (tree_count ts) l ++ ls) (prefixes_of ts ++ ns) ≡ true
  trees_have_few no_tree l ls ns few h = h
  trees_have_few (one_more t ts) l ls ns few h =
      let a : (prefix_of t ++ prefixes_of ts) ++ ns ≡ prefix_of t ++ (prefixes_of ts ++ ns) = append_assoc (prefix_of t) (prefixes_of ts) ns in
      let p : cuts_on_branch t ≤ l = omega (arith, few) in
      let q : most_cuts ts ≤ l = omega (arith, few) in
      subst (λ (x : List PlainNode). have_few_cuts (l ∷ replicate (tree_count ts) l ++ ls) x ≡ true) (sym a)
      (tree_has_few t l (replicate (tree_count ts) l ++ ls) (prefixes_of ts ++ ns) p (trees_have_few ts l ls ns q h))

-- and the other way round, the cuts of such a tree are few by count
pub counted_within : (d : ℕ) (s : System) (ns : List PlainNode) → RefutesWithin d s ns → have_few_cuts (d ∷ []) ns ≡ true
counted_within d s ns r =
    let t = r.tree.tree in
    subst (λ (x : List PlainNode). have_few_cuts (d ∷ []) x ≡ true) (append-nil (prefix_of t) ∙ r.tree.prefix) (tree_has_few t d [] [] r.tree.few_cuts refl)

-- ---- along the nodes

replicated : (n left : ℕ) → reverse (replicate n left) ≡ replicate n left
replicated zero left = refl
replicated (suc n) left =
    reverse-append (left ∷ []) (replicate n left) ∙ ap (λ (l : List ℕ). l ++ left ∷ []) (replicated n left) ∙ turned n
  where
    turned : (k : ℕ) → replicate k left ++ left ∷ [] ≡ left ∷ replicate k left
    turned zero = refl
    turned (suc k) = ap (λ (l : List ℕ). left ∷ l) (turned k)

-- a node of cases
pub pass_cases : (n left : ℕ) (old popped new : List ℕ) → old ≡ popped ++ left ∷ [] → new ≡ popped ++ replicate n left →
    after_node (reverse old) (cases n) ≡ Some (reverse new)
pass_cases n left old popped new e f =
    let a : reverse old ≡ left ∷ reverse popped = ap reverse e ∙ reverse-append popped (left ∷ []) in
    let b : reverse new ≡ replicate n left ++ reverse popped =
    ap reverse f ∙ reverse-append popped (replicate n left) ∙ ap (λ (l : List ℕ). l ++ reverse popped) (replicated n left) in
    ap (λ (ls : List ℕ). after_node ls (cases n)) a ∙ ap (λ (ls : List ℕ). let o : Option (List ℕ) = Some ls in o) (sym b)

pub few_go : (nodes : List Node) (i : ℕ) (d : Node) (old new : List ℕ) → i < length nodes → after_node (reverse old) (plain (get_or nodes i d)) ≡ Some (reverse new) →
    have_few_cuts (reverse old) (drop i (plain_nodes nodes)) ≡ have_few_cuts (reverse new) (drop (i + 1) (plain_nodes nodes))
few_go nodes i d old new l e =
    ap (λ (ns : List PlainNode). have_few_cuts (reverse old) ns) (plain_from nodes i d l) ∙
    ap (λ (o : Option (List ℕ)). goes_on (λ rest. have_few_cuts rest (drop (i + 1) (plain_nodes nodes))) o) e

pub few_stop : (nodes : List Node) (i : ℕ) (d : Node) (old : List ℕ) → i < length nodes → after_node (reverse old) (plain (get_or nodes i d)) ≡ None →
    have_few_cuts (reverse old) (drop i (plain_nodes nodes)) ≡ false
few_stop nodes i d old l e =
    ap (λ (ns : List PlainNode). have_few_cuts (reverse old) ns) (plain_from nodes i d l) ∙
    ap (λ (o : Option (List ℕ)). goes_on (λ rest. have_few_cuts rest (drop (i + 1) (plain_nodes nodes))) o) e

pub few_end : (nodes : List Node) (i : ℕ) (old : List ℕ) → length nodes ≤ i → have_few_cuts (reverse old) (drop i (plain_nodes nodes)) ≡ is_no_tree (reverse old)
few_end nodes i old l = ap (λ (ns : List PlainNode). have_few_cuts (reverse old) ns) (plain_none nodes i l)
