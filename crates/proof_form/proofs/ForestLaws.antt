-- Prefix lists and trees: the list of a tree is one whole tree, and its text is that of the tree; and each such list is that of a tree.
use Rattle.std.proofs.Common.{◌≡◌, ℕ, zero, suc, ◌+◌, ◌-◌, ◌≤◌, true, List, [], ◌∷◌, ◌++◌, take, drop, refl, sym, ap, ◌∙◌, arith, append_assoc}
use Rattle.std.specs.List.{concat}
use Rattle.std.proofs.lemmas.Bool.{eqb-true, leb-true, le-leb, eq-eqb}
use Rattle.std.proofs.lemmas.List.{append-nil}
use Rattle.proof_form.specs.Trees.{tree_count, have_parts, is_tree, with_node, texts, tree_text}
use Rattle.proof_form.specs.Forests.{Tree, tree, Forest, no_tree, one_more, size, HasParts, HaveParts, prefix_of, prefixes_of, text_of, texts_of}
use Rattle.proof_form.proofs.RunLaws.{both_hold}

-- the texts of trees in front
abbrev each_text : {X : Type 0} → (X → List ℕ) → Forest X → List (List ℕ) → List (List ℕ)
each_text head no_tree us = us
each_text head (one_more t ts) us = text_of head t ∷ each_text head ts us

first_texts : {X : Type 0} (head : X → List ℕ) (ts : Forest X) (us : List (List ℕ)) → concat (take (size ts) (each_text head ts us)) ≡ texts_of head ts
first_texts head no_tree us = refl
first_texts head (one_more t ts) us = ap (λ r. text_of head t ++ r) (first_texts head ts us)

other_texts : {X : Type 0} (head : X → List ℕ) (ts : Forest X) (us : List (List ℕ)) → drop (size ts) (each_text head ts us) ≡ us
other_texts head no_tree us = refl
other_texts head (one_more t ts) us = other_texts head ts us

module _ {X : Type 0} (head : X → List ℕ) (parts : X → ℕ) where
  mutual
    tree_spelled : (t : Tree X) (ns : List X) → HasParts parts t → texts head parts (prefix_of t ++ ns) ≡ text_of head t ∷ texts head parts ns
    tree_spelled (tree n ts) ns h =
        let us = texts head parts ns in
        ap (with_node head parts n) (forest_spelled ts ns h.1) ∙ ap (λ (k : ℕ). (head n ++ (concat (take k (each_text head ts us)) ++ 41 ∷ [])) ∷ drop k (each_text head ts us)) h.0
        ∙ ap (λ r. (head n ++ (r ++ 41 ∷ [])) ∷ drop (size ts) (each_text head ts us)) (first_texts head ts us) ∙ ap (λ vs. text_of head (tree n ts) ∷ vs) (other_texts head ts us)

    forest_spelled : (ts : Forest X) (ns : List X) → HaveParts parts ts → texts head parts (prefixes_of ts ++ ns) ≡ each_text head ts (texts head parts ns)
    forest_spelled no_tree ns h = refl
    forest_spelled (one_more t ts) ns h =
        ap (texts head parts) (append_assoc (prefix_of t) (prefixes_of ts) ns) ∙ tree_spelled t (prefixes_of ts ++ ns) h.0 ∙ ap (λ us. text_of head t ∷ us) (forest_spelled ts ns h.1)

  mutual
    tree_counted : (t : Tree X) (ns : List X) → HasParts parts t → have_parts parts ns ≡ true → (tree_count parts (prefix_of t ++ ns) ≡ suc (tree_count parts ns)) × (have_parts parts (prefix_of t ++ ns) ≡ true)
    tree_counted (tree n ts) ns h k =
        let f = forest_counted ts ns h.1 k in
        let p = h.0 in
        let c = f.0 in (
          let e : suc (tree_count parts (prefixes_of ts ++ ns) - parts n) ≡ suc (tree_count parts ns) = omega arith in e,
          rw (f.1, le-leb (parts n) (tree_count parts (prefixes_of ts ++ ns)) (omega arith)) refl,
        )

    forest_counted : (ts : Forest X) (ns : List X) → HaveParts parts ts → have_parts parts ns ≡ true → (tree_count parts (prefixes_of ts ++ ns) ≡ size ts + tree_count parts ns) × (have_parts parts (prefixes_of ts ++ ns) ≡ true)
    forest_counted no_tree ns h k = (let e : tree_count parts ns ≡ 0 + tree_count parts ns = omega arith in e, k)
    forest_counted (one_more t ts) ns h k =
        let f = forest_counted ts ns h.1 k in
        let g = tree_counted t (prefixes_of ts ++ ns) h.0 f.1 in
        let a = append_assoc (prefix_of t) (prefixes_of ts) ns in
        (ap (tree_count parts) a ∙ (let c = g.0 in let d = f.0 in omega arith), ap (have_parts parts) a ∙ g.1)

  -- the list of a tree is one whole tree, and is spelled as the tree
  pub tree_is_whole : (t : Tree X) → HasParts parts t → (is_tree parts (prefix_of t) ≡ true) × (tree_text head parts (prefix_of t) ≡ text_of head t)
  tree_is_whole t h =
      let c = tree_counted t [] h refl in
      let a = append-nil (prefix_of t) in
      let counted : tree_count parts (prefix_of t) ≡ 1 = ap (tree_count parts) (sym a) ∙ c.0 in
      let whole : have_parts parts (prefix_of t) ≡ true = ap (have_parts parts) (sym a) ∙ c.1 in (
        rw (whole, eq-eqb (tree_count parts (prefix_of t)) 1 counted) refl,
        ap (λ ns. tree_text head parts ns) (sym a) ∙ ap concat (tree_spelled t [] h) ∙ append-nil (text_of head t),
      )

-- trees whose lists, one after another, are the list
record Grown {X : Type 0} (parts : X → ℕ) (ns : List X) : Type 0 where
  trees : Forest X
  counted : size trees ≡ tree_count parts ns
  have : HaveParts parts trees
  listed : prefixes_of trees ≡ ns

-- the first trees and the others
record Parted {X : Type 0} (parts : X → ℕ) (m : ℕ) (ts : Forest X) : Type 0 where
  first : Forest X
  rest : Forest X
  first_size : size first ≡ m
  rest_size : size rest ≡ size ts - m
  have_first : HaveParts parts first
  have_rest : HaveParts parts rest
  listed : prefixes_of first ++ prefixes_of rest ≡ prefixes_of ts

parted : {X : Type 0} (parts : X → ℕ) (m : ℕ) (ts : Forest X) → m ≤ size ts → HaveParts parts ts → Parted parts m ts
parted parts zero ts l h = record { first = no_tree; rest = ts; first_size = refl; rest_size = (let e : size ts ≡ size ts - 0 = omega arith in e); have_first = tt; have_rest = h; listed = refl }
parted parts (suc m) no_tree l h = absurd (omega arith)
parted parts (suc m) (one_more t ts) l h =
    let p = parted parts m ts (omega arith) h.1 in
    record {
      first = one_more t p.first;
      rest = p.rest;
      first_size = ap (λ (n : ℕ). suc n) p.first_size;
      rest_size = (let r = p.rest_size in let e : size p.rest ≡ suc (size ts) - suc m = omega arith in e);
      have_first = (h.0, p.have_first);
      have_rest = p.have_rest;
      listed = append_assoc (prefix_of t) (prefixes_of p.first) (prefixes_of p.rest) ∙ ap (λ ns. prefix_of t ++ ns) p.listed;
    }

grown : {X : Type 0} (parts : X → ℕ) (ns : List X) → have_parts parts ns ≡ true → Grown parts ns
grown parts [] h = record { trees = no_tree; counted = refl; have = tt; listed = refl }
grown parts (n ∷ ns) h =
    let k = both_hold (have_parts parts ns) _ h in
    let g = grown parts ns k.0 in
    let l = leb-true (parts n) (tree_count parts ns) k.1 in
    let c = g.counted in
    let p = parted parts (parts n) g.trees (omega arith) g.have in
    record {
      trees = one_more (tree n p.first) p.rest;
      counted = (let r = p.rest_size in let e : suc (size p.rest) ≡ suc (tree_count parts ns - parts n) = omega arith in e);
      have = ((sym p.first_size, p.have_first), p.have_rest);
      listed = ap (λ ms. n ∷ ms) (p.listed ∙ g.listed);
    }

-- a list that is one whole tree is the list of a tree
pub whole_is_tree : {X : Type 0} (parts : X → ℕ) (ns : List X) → is_tree parts ns ≡ true → (t : Tree X) × HasParts parts t × (prefix_of t ≡ ns)
whole_is_tree {X} parts ns h =
    let k = both_hold (have_parts parts ns) _ h in
    let one = eqb-true (tree_count parts ns) 1 k.1 in
    let g = grown parts ns k.0 in
    let c = g.counted in only g.trees (omega arith) g.have g.listed
  where
    only : (ts : Forest X) → size ts ≡ 1 → HaveParts parts ts → prefixes_of ts ≡ ns → (t : Tree X) × HasParts parts t × (prefix_of t ≡ ns)
    only no_tree e have listed = absurd (omega arith)
    only (one_more t no_tree) e have listed = (t, have.0, sym (append-nil (prefix_of t)) ∙ listed)
    only (one_more t (one_more u ts)) e have listed = absurd (omega arith)
