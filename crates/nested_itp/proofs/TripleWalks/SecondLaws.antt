-- Where the parts of the nodes of a prefix list begin, which is read from its end.
use Rattle.std.proofs.Common.{◌≡◌, ◌∙◌, ℕ, suc, ◌+◌, ◌-◌, ◌<◌, ◌≤◌, List, [], ◌∷◌, ◌++◌, length, drop, get_or, reverse, append_assoc, length-append, sym, ap, arith, Option, None, Some}
use Rattle.std.specs.Prelude.{slice_get}
use Rattle.std.proofs.lemmas.List.{append-nil, drop_more, reverse-append, length-map, get_or-map}
use Rattle.farkas_check.specs.declared.refutations.Node.{Node}
use Rattle.farkas_check.specs.Nodes.{PlainNode, plain, plain_nodes, cut}
use Rattle.farkas_check.specs.Trees.{Tree, leaf_tree, cut_tree, cases_tree, prefix_of}
use Rattle.nested_itp.specs.TripleWalks.Spots.{HasNoCases, seconds_of, second_in, behind_parts}

-- where the trees begin that a list spells, from number n on
abbrev pub roots_from : ℕ → List PlainNode → List ℕ
roots_from n [] = []
roots_from n (x ∷ ns) = n ∷ behind_parts x (roots_from (suc n) ns)

-- where the second part of each node begins
abbrev pub seconds_from : ℕ → List PlainNode → List (Option ℕ)
seconds_from n [] = []
seconds_from n (x ∷ ns) = second_in x (roots_from (suc n) ns) ∷ seconds_from (suc n) ns

abbrev size : Tree → ℕ
size t = length (prefix_of t)

pub size_of_cut : (c : ℕ) (k : _) (t u : Tree) → size (cut_tree c k t u) ≡ suc (size t + size u)
size_of_cut c k t u = let e : length (prefix_of t ++ prefix_of u) ≡ size t + size u = length-append (prefix_of t) (prefix_of u) in omega (arith, e)

roots_at : (m n : ℕ) (ns : List PlainNode) → m ≡ n → roots_from m ns ≡ roots_from n ns
roots_at m n ns e = ap (λ (x : ℕ). roots_from x ns) e

pub roots_tree : (n : ℕ) (t : Tree) (ns : List PlainNode) → HasNoCases t → roots_from n (prefix_of t ++ ns) ≡ n ∷ roots_from (n + size t) ns
roots_tree n (leaf_tree parts) ns h = ap (λ (l : List ℕ). n ∷ l) (roots_at (suc n) (n + 1) ns (omega arith))
roots_tree n (cut_tree c k t u) ns h =
    let m : ℕ = suc n + size t in
    let low = roots_tree (suc n) t (prefix_of u ++ ns) h.0 in
    let high = roots_tree m u ns h.1 in
    let sz = size_of_cut c k t u in
    ap (λ (l : List PlainNode). n ∷ drop 2 (roots_from (suc n) l)) (append_assoc (prefix_of t) (prefix_of u) ns) ∙
    ap (λ (l : List ℕ). n ∷ drop 2 l) low ∙
    ap (λ (l : List ℕ). n ∷ drop 1 l) high ∙
    ap (λ (l : List ℕ). n ∷ l) (roots_at (m + size u) (n + size (cut_tree c k t u)) ns (omega (arith, sz)))
roots_tree n (cases_tree ts) ns h = absurd h

seconds_at : (m n : ℕ) (ns : List PlainNode) → m ≡ n → seconds_from m ns ≡ seconds_from n ns
seconds_at m n ns e = ap (λ (x : ℕ). seconds_from x ns) e

pub seconds_tree : (n : ℕ) (t : Tree) (ns : List PlainNode) → HasNoCases t → seconds_from n (prefix_of t ++ ns) ≡ seconds_of n t ++ seconds_from (n + size t) ns
seconds_tree n (leaf_tree parts) ns h = ap (λ (l : List (Option ℕ)). None ∷ l) (seconds_at (suc n) (n + 1) ns (omega arith))
seconds_tree n (cut_tree c k t u) ns h =
    let m : ℕ = suc n + size t in
    let sz = size_of_cut c k t u in
    let rest : List (Option ℕ) = seconds_from (m + size u) ns in
    let roots : roots_from (suc n) (prefix_of t ++ (prefix_of u ++ ns)) ≡ suc n ∷ m ∷ roots_from (m + size u) ns =
    roots_tree (suc n) t (prefix_of u ++ ns) h.0 ∙ ap (λ (l : List ℕ). suc n ∷ l) (roots_tree m u ns h.1) in
    ap (λ (l : List PlainNode). seconds_from n (cut c k ∷ l)) (append_assoc (prefix_of t) (prefix_of u) ns) ∙
    ap (λ (l : List ℕ). slice_get l 1 ∷ seconds_from (suc n) (prefix_of t ++ (prefix_of u ++ ns))) roots ∙
    ap (λ (l : List (Option ℕ)). Some m ∷ l)
    (seconds_tree (suc n) t (prefix_of u ++ ns) h.0 ∙ ap (λ (l : List (Option ℕ)). seconds_of (suc n) t ++ l) (seconds_tree m u ns h.1) ∙
    sym (append_assoc (seconds_of (suc n) t) (seconds_of m u) rest) ∙
    ap (λ (l : List (Option ℕ)). (seconds_of (suc n) t ++ seconds_of m u) ++ l) (seconds_at (m + size u) (n + size (cut_tree c k t u)) ns (omega (arith, sz))))
seconds_tree n (cases_tree ts) ns h = absurd h

-- i nodes are read, from the end on
pub record AreSeconds (nodes : List Node) (i : ℕ) (seconds : List (Option ℕ)) (roots : List ℕ) : Type 0 where
  pub those : reverse seconds ≡ seconds_from (length nodes - i) (drop (length nodes - i) (plain_nodes nodes))
  pub behind : reverse roots ≡ roots_from (length nodes - i) (drop (length nodes - i) (plain_nodes nodes))

front : (nodes : List Node) (i at : ℕ) (x : Node) → i < length nodes → at ≡ length nodes - 1 - i → x ≡ get_or nodes at x →
    drop (length nodes - (i + 1)) (plain_nodes nodes) ≡ plain x ∷ drop (length nodes - i) (plain_nodes nodes)
front nodes i at x l a e =
    let k = length-map nodes plain in
    let p : length nodes - (i + 1) ≡ at = omega (arith, a, l) in
    let q : at + 1 ≡ length nodes - i = omega (arith, a, l) in
    ap (λ (n : ℕ). drop n (plain_nodes nodes)) p ∙
    drop_more (plain_nodes nodes) at (plain x) (omega (arith, k, a, l)) ∙
    ap (λ (y : PlainNode). y ∷ drop (at + 1) (plain_nodes nodes)) (get_or-map plain nodes at x (plain x) (omega (arith, a, l)) ∙ ap plain (sym e)) ∙
    ap (λ (n : ℕ). plain x ∷ drop n (plain_nodes nodes)) q

pub seconds_more : (nodes : List Node) (i at : ℕ) (x : Node) (seconds more : List (Option ℕ)) (roots left after : List ℕ) (second : Option ℕ) →
    i < length nodes → at ≡ length nodes - 1 - i → x ≡ get_or nodes at x → AreSeconds nodes i seconds roots →
    second ≡ second_in (plain x) (reverse roots) → reverse left ≡ behind_parts (plain x) (reverse roots) →
    more ≡ seconds ++ second ∷ [] → after ≡ left ++ at ∷ [] → AreSeconds nodes (i + 1) more after
seconds_more nodes i at x seconds more roots left after second l a e h s b m f =
    let n : ℕ = length nodes - i in
    let rest : List PlainNode = drop n (plain_nodes nodes) in
    let p : length nodes - (i + 1) ≡ at = omega (arith, a, l) in
    let q : suc at ≡ n = omega (arith, a, l) in
    let fr : drop (length nodes - (i + 1)) (plain_nodes nodes) ≡ plain x ∷ rest = front nodes i at x l a e in
    let here : roots_from (suc at) rest ≡ reverse roots = roots_at (suc at) n rest q ∙ sym h.behind in
    record {
      those =
          ap reverse m ∙ reverse-append seconds (second ∷ []) ∙ ap (λ (o : Option ℕ). o ∷ reverse seconds) (s ∙ ap (second_in (plain x)) (sym here)) ∙
          ap (λ (y : List (Option ℕ)). second_in (plain x) (roots_from (suc at) rest) ∷ y) (h.those ∙ sym (seconds_at (suc at) n rest q)) ∙
          sym (ap (λ (y : List PlainNode). seconds_from (length nodes - (i + 1)) y) fr ∙ seconds_at (length nodes - (i + 1)) at (plain x ∷ rest) p);
      behind =
          ap reverse f ∙ reverse-append left (at ∷ []) ∙ ap (λ (y : List ℕ). at ∷ y) (b ∙ ap (behind_parts (plain x)) (sym here)) ∙
          sym (ap (λ (y : List PlainNode). roots_from (length nodes - (i + 1)) y) fr ∙ roots_at (length nodes - (i + 1)) at (plain x ∷ rest) p);
    }

pub seconds_all : (nodes : List Node) (i : ℕ) (seconds turned : List (Option ℕ)) (roots : List ℕ) → length nodes ≤ i → AreSeconds nodes i seconds roots → turned ≡ reverse seconds →
    (t : Tree) → HasNoCases t → prefix_of t ≡ plain_nodes nodes → turned ≡ seconds_of 0 t
seconds_all nodes i seconds turned roots l h r t u e =
    let z : length nodes - i ≡ 0 = omega (arith, l) in
    r ∙ h.those ∙ ap (λ (n : ℕ). seconds_from n (drop n (plain_nodes nodes))) z ∙
    ap (λ (x : List PlainNode). seconds_from 0 x) (sym e ∙ sym (append-nil (prefix_of t))) ∙ seconds_tree 0 t [] u ∙ append-nil (seconds_of 0 t)
