-- Trees and their prefix lists: a list is one where the count of missing trees says so, and it refutes what its tree refutes.
use Rattle.std.proofs.Common.{◌≡◌, ◌↔◌, ℕ, zero, suc, ◌+◌, Bool, true, ℤ, List, [], ◌∷◌, ◌++◌, length, map, append_assoc, nat_eq, ap, refl, sym, ◌∙◌, subst, arith}
use Rattle.std.proofs.lemmas.List.{length-map, append-nil}
use Rattle.std.proofs.lemmas.Bool.{eqb-true, false≢true}
use Rattle.lin_rows.specs.declared.systems.System.{System}
use Rattle.lin_rows.specs.Rows.{LinearRow}
use Rattle.farkas_check.specs.Nodes.{PlainNode, leaf, cut, cases, are_trees, is_tree}
use Rattle.farkas_check.specs.Refutes.{Goal, at_most, above, with_row, goal_with_member, goal_of, CasesRefute, Refute, Refutes}
use Rattle.farkas_check.specs.Trees.{Tree, leaf_tree, cut_tree, cases_tree, Trees, no_tree, one_more, tree_count, prefix_of, prefixes_of, TreeRefutes, EachRefutes, IsPrefixList}

-- ---- what a prefix list refutes

cases_split : (n : ℕ) (P Q : List Goal → Type 0) (R : Type 0) (rows : List LinearRow) (groups : List (List System)) →
    ((goals : List Goal) → n ≡ length goals → P goals ↔ (Q goals × R)) → CasesRefute P n rows groups ↔ (CasesRefute Q n rows groups × R)
cases_split n P Q R rows [] f = (λ h. absurd h, λ h. absurd h.0)
cases_split n P Q R rows (members ∷ groups) f =
    let goals : List Goal = map (goal_with_member (record { rows = rows; groups = groups })) members in
    let l : length goals ≡ length members = length-map members (goal_with_member (record { rows = rows; groups = groups })) in (
      λ h. let k = (f goals (h.0 ∙ sym l)).0 h.1 in ((h.0, k.0), k.1),
      λ h. (h.0.0, (f goals (h.0.0 ∙ sym l)).1 (h.0.1, h.1)),
    )

mutual
  prefix_refutes : (t : Tree) (ns : List PlainNode) (g : Goal) (gs : List Goal) → Refute (prefix_of t ++ ns) (g ∷ gs) ↔ (TreeRefutes t g × Refute ns gs)
  prefix_refutes (leaf_tree parts) ns g gs = (λ r. r, λ r. r)
  prefix_refutes (cut_tree c k t u) ns g gs =
      let first = prefix_refutes t (prefix_of u ++ ns) (with_row g (at_most c k)) (with_row g (above c k) ∷ gs) in
      let second = prefix_refutes u ns (with_row g (above c k)) gs in
      let a : (prefix_of t ++ prefix_of u) ++ ns ≡ prefix_of t ++ (prefix_of u ++ ns) = append_assoc (prefix_of t) (prefix_of u) ns in
      let goals : List Goal = with_row g (at_most c k) ∷ with_row g (above c k) ∷ gs in (
        λ r.
            let x = first.0 (subst (λ (l : List PlainNode). Refute l goals) a r.2) in
            let y = second.0 x.1 in
            ((r.0, r.1, x.0, y.0), y.1),
        λ r. (r.0.0, r.0.1, subst (λ (l : List PlainNode). Refute l goals) (sym a) (first.1 (r.0.2, second.1 (r.0.3, r.1)))),
      )
  prefix_refutes (cases_tree ts) ns g gs =
      cases_split (tree_count ts) (λ goals. Refute (prefixes_of ts ++ ns) (goals ++ gs)) (EachRefutes ts) (Refute ns gs) g.rows g.groups (λ goals e. prefixes_refute ts ns goals gs e)

  prefixes_refute : (ts : Trees) (ns : List PlainNode) (goals gs : List Goal) → tree_count ts ≡ length goals →
      Refute (prefixes_of ts ++ ns) (goals ++ gs) ↔ (EachRefutes ts goals × Refute ns gs)
  prefixes_refute no_tree ns [] gs e = (λ r. (tt, r), λ r. r.1)
  prefixes_refute no_tree ns (g ∷ goals) gs e = absurd (omega arith)
  prefixes_refute (one_more t ts) ns [] gs e = absurd (omega arith)
  prefixes_refute (one_more t ts) ns (g ∷ goals) gs e =
      let first = prefix_refutes t (prefixes_of ts ++ ns) g (goals ++ gs) in
      let others = prefixes_refute ts ns goals gs (omega arith) in
      let a : (prefix_of t ++ prefixes_of ts) ++ ns ≡ prefix_of t ++ (prefixes_of ts ++ ns) = append_assoc (prefix_of t) (prefixes_of ts) ns in (
        λ r.
            let x = first.0 (subst (λ (l : List PlainNode). Refute l (g ∷ (goals ++ gs))) a r) in
            let y = others.0 x.1 in
            ((x.0, y.0), y.1),
        λ r. subst (λ (l : List PlainNode). Refute l (g ∷ (goals ++ gs))) (sym a) (first.1 (r.0.0, others.1 (r.0.1, r.1))),
      )

-- a prefix list refutes a system exactly where its tree does
pub refutes_as_tree : (t : Tree) (s : System) → Refutes (prefix_of t) s ↔ TreeRefutes t (goal_of s)
refutes_as_tree t s =
    let h = prefix_refutes t [] (goal_of s) [] in
    let a : prefix_of t ++ [] ≡ prefix_of t = append-nil (prefix_of t) in (
      λ r. (h.0 (subst (λ (l : List PlainNode). Refute l (goal_of s ∷ [])) (sym a) r)).0,
      λ r. subst (λ (l : List PlainNode). Refute l (goal_of s ∷ [])) a (h.1 (r, tt)),
    )

-- ---- which lists are prefix lists

mutual
  count_prefix : (t : Tree) (rest : ℕ) (ns : List PlainNode) → are_trees (suc rest) (prefix_of t ++ ns) ≡ are_trees rest ns
  count_prefix (leaf_tree parts) rest ns = ap (λ (n : ℕ). are_trees n ns) (let e : 0 + rest ≡ rest = omega arith in e)
  count_prefix (cut_tree c k t u) rest ns =
      let e : 2 + rest ≡ suc (suc rest) = omega arith in
      ap (λ (n : ℕ). are_trees n ((prefix_of t ++ prefix_of u) ++ ns)) e ∙ ap (are_trees (suc (suc rest))) (append_assoc (prefix_of t) (prefix_of u) ns) ∙
      count_prefix t (suc rest) (prefix_of u ++ ns) ∙ count_prefix u rest ns
  count_prefix (cases_tree ts) rest ns = count_prefixes ts rest ns

  count_prefixes : (ts : Trees) (rest : ℕ) (ns : List PlainNode) → are_trees (tree_count ts + rest) (prefixes_of ts ++ ns) ≡ are_trees rest ns
  count_prefixes no_tree rest ns = ap (λ (n : ℕ). are_trees n ns) (let e : 0 + rest ≡ rest = omega arith in e)
  count_prefixes (one_more t ts) rest ns =
      let e : suc (tree_count ts) + rest ≡ suc (tree_count ts + rest) = omega arith in
      ap (λ (n : ℕ). are_trees n ((prefix_of t ++ prefixes_of ts) ++ ns)) e ∙ ap (are_trees (suc (tree_count ts + rest))) (append_assoc (prefix_of t) (prefixes_of ts) ns) ∙
      count_prefix t (tree_count ts + rest) (prefixes_of ts ++ ns) ∙ count_prefixes ts rest ns

-- so many trees with these prefix lists
record Read (n : ℕ) (ns : List PlainNode) : Type 0 where
  trees : Trees
  counted : tree_count trees ≡ n
  listed : prefixes_of trees ≡ ns

-- trees parted into the first m and the rest
record Parted (m r : ℕ) (ts : Trees) : Type 0 where
  first : Trees
  rest : Trees
  first_count : tree_count first ≡ m
  rest_count : tree_count rest ≡ r
  listed : prefixes_of first ++ prefixes_of rest ≡ prefixes_of ts

parted : (m r : ℕ) (ts : Trees) → tree_count ts ≡ m + r → Parted m r ts
parted zero r ts e = record { first = no_tree; rest = ts; first_count = refl; rest_count = (let f : tree_count ts ≡ r = omega arith in f); listed = refl }
parted (suc m) r no_tree e = absurd (omega arith)
parted (suc m) r (one_more t ts) e =
    let p : Parted m r ts = parted m r ts (omega arith) in
    record {
      first = one_more t p.first;
      rest = p.rest;
      first_count = ap (λ (n : ℕ). suc n) p.first_count;
      rest_count = p.rest_count;
      listed = append_assoc (prefix_of t) (prefixes_of p.first) (prefixes_of p.rest) ∙ ap (λ (l : List PlainNode). prefix_of t ++ l) p.listed;
    }

-- a cut whose sides are the first two of the trees that follow
cut_read : (c : ℕ) (k : ℤ) (rest : ℕ) (ns : List PlainNode) (ts : Trees) → tree_count ts ≡ 2 + rest → prefixes_of ts ≡ ns → Read (suc rest) (cut c k ∷ ns)
cut_read c k rest ns no_tree e f = absurd (omega arith)
cut_read c k rest ns (one_more t no_tree) e f = absurd (omega arith)
cut_read c k rest ns (one_more t (one_more u ts)) e f = record {
  trees = one_more (cut_tree c k t u) ts;
  counted = (let g : suc (tree_count ts) ≡ suc rest = omega arith in g);
  listed = ap (λ (l : List PlainNode). cut c k ∷ l) (append_assoc (prefix_of t) (prefix_of u) (prefixes_of ts) ∙ f);
}

cases_read : (n rest : ℕ) (ns : List PlainNode) (r : Read (n + rest) ns) → Read (suc rest) (cases n ∷ ns)
cases_read n rest ns r =
    let p : Parted n rest r.trees = parted n rest r.trees r.counted in
    record {
      trees = one_more (cases_tree p.first) p.rest;
      counted = ap (λ (m : ℕ). suc m) p.rest_count;
      listed = ap (λ (m : ℕ). cases m ∷ (prefixes_of p.first ++ prefixes_of p.rest)) p.first_count ∙ ap (λ (l : List PlainNode). cases n ∷ l) (p.listed ∙ r.listed);
    }

read : (n : ℕ) (ns : List PlainNode) → are_trees n ns ≡ true → Read n ns
read n [] e = record { trees = no_tree; counted = sym (eqb-true n 0 (sym (at_end n) ∙ e)); listed = refl }
  where
    at_end : (n : ℕ) → are_trees n [] ≡ nat_eq n 0
    at_end zero = refl
    at_end (suc m) = refl
read zero (n ∷ ns) e = absurd (false≢true e)
read (suc rest) (leaf parts ∷ ns) e =
    let r : Read (0 + rest) ns = read (0 + rest) ns e in
    record {
      trees = one_more (leaf_tree parts) r.trees;
      counted = (let h = r.counted in let f : suc (tree_count r.trees) ≡ suc rest = omega arith in f);
      listed = ap (λ (l : List PlainNode). leaf parts ∷ l) r.listed;
    }
read (suc rest) (cut c k ∷ ns) e = let r : Read (2 + rest) ns = read (2 + rest) ns e in cut_read c k rest ns r.trees r.counted r.listed
read (suc rest) (cases n ∷ ns) e = cases_read n rest ns (read (n + rest) ns e)

one_tree : (ns : List PlainNode) (ts : Trees) → tree_count ts ≡ 1 → prefixes_of ts ≡ ns → IsPrefixList ns
one_tree ns no_tree e f = absurd (omega arith)
one_tree ns (one_more t no_tree) e f = (t, sym (append-nil (prefix_of t)) ∙ f)
one_tree ns (one_more t (one_more u ts)) e f = absurd (omega arith)

-- a list is the prefix list of a tree exactly where one tree is counted
pub is_tree_is : (ns : List PlainNode) → (is_tree ns ≡ true) ↔ IsPrefixList ns
is_tree_is ns = (
  λ e. let r : Read 1 ns = read 1 ns e in one_tree ns r.trees r.counted r.listed,
  λ p.
      ap is_tree (sym p.1) ∙ ap (are_trees 1) (sym (append-nil (prefix_of p.0))) ∙ count_prefix p.0 0 [],
)

-- what a test says that answers the count
pub counted_is : (b : Bool) (ns : List PlainNode) → b ≡ is_tree ns → (b ≡ true) ↔ IsPrefixList ns
counted_is b ns h = (λ e. (is_tree_is ns).0 (sym h ∙ e), λ p. h ∙ (is_tree_is ns).1 p)
