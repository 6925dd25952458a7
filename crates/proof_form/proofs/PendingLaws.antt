-- Loops that write trees.
use Rattle.std.proofs.Common.{◌≡◌, ℕ, zero, suc, ◌+◌, ◌-◌, ◌<◌, ◌≤◌, true, List, [], ◌∷◌, ◌++◌, length, map, drop, get_or, reverse, Some, refl, sym, ap, ◌∙◌, arith, append_assoc}
use Rattle.std.specs.List.{concat}
use Rattle.std.specs.Option.{option_to_list}
use Rattle.std.proofs.lemmas.Bool.{eqb-true, leb-true}
use Rattle.std.proofs.lemmas.List.{append-nil, drop_more, drop_all, reverse-append, take_all}
use Rattle.proof_form.specs.Trees.{tree_count, have_parts, is_tree, with_node, texts, tree_text}
use Rattle.proof_form.specs.Ties.TreeWriting.{total, closing}
use Rattle.proof_form.proofs.RunLaws.{both_hold}
use Rattle.proof_form.proofs.TreeLaws.{closing_node, texts_counted}

-- The loop that closes nodes

-- what is written, with the texts that are left, is as before; and so are the counts
pub record Closed (out old : List ℕ) (left : ℕ) (outer : List ℕ) (first : ℕ) (before : List ℕ) : Type 0 where
  pub same : (ts : List (List ℕ)) → out ++ closing (left ∷ reverse outer) ts ≡ old ++ closing (first ∷ reverse before) ts
  pub kept : total (left ∷ reverse outer) ≡ total (first ∷ reverse before)

pub closes_none : (out : List ℕ) (left : ℕ) (outer : List ℕ) → Closed out out left outer left outer
closes_none out left outer = record { same = λ ts. refl; kept = refl }

popped : (outer new : List ℕ) (c : ℕ) → outer ≡ new ++ option_to_list (Some c) → reverse outer ≡ c ∷ reverse new
popped outer new c e = ap reverse e ∙ reverse-append new (c ∷ [])

no_more : (n : ℕ) → n ≡ 0 + n
no_more n = omega arith

pub closes_one : (out more old : List ℕ) (left c : ℕ) (outer new : List ℕ) (first : ℕ) (before : List ℕ) → Closed out old left outer first before → left ≡ 0 → outer ≡ new ++ option_to_list (Some c) → more ≡ out ++ 41 ∷ [] → Closed more old c new first before
closes_one out more old left c outer new first before h z e w =
    let p = popped outer new c e in
    record {
      same = λ ts. ap (λ o. o ++ closing (c ∷ reverse new) ts) w ∙ append_assoc out (41 ∷ []) (closing (c ∷ reverse new) ts)
          ∙ ap (λ (cs : List ℕ). out ++ closing (0 ∷ cs) ts) (sym p) ∙ ap (λ (k : ℕ). out ++ closing (k ∷ reverse outer) ts) (sym z) ∙ h.same ts;
      kept = no_more (total (c ∷ reverse new)) ∙ ap (λ (cs : List ℕ). 0 + total cs) (sym p) ∙ ap (λ (k : ℕ). k + total (reverse outer)) (sym z) ∙ h.kept;
    }

module _ {C X : Type 0} (view : C → X) (head : X → List ℕ) (parts : X → ℕ) where
  -- What is written, with the texts of the trees that are left, is all; and so many nodes are left as trees are.
  pub record Pending (out : List ℕ) (left : ℕ) (outer : List ℕ) (nodes : List C) (i : ℕ) (all : List ℕ) : Type 0 where
    pub same : out ++ closing (left ∷ reverse outer) (texts head parts (map view (drop i nodes))) ≡ all
    pub counted : total (left ∷ reverse outer) ≡ tree_count parts (map view (drop i nodes))
    pub have : have_parts parts (map view (drop i nodes)) ≡ true
    pub ready : left ≡ 0 → outer ≡ []

  pub begins : (out : List ℕ) (outer : List ℕ) (nodes : List C) → outer ≡ [] → is_tree parts (map view nodes) ≡ true → Pending out 1 outer nodes 0 (out ++ tree_text head parts (map view nodes))
  begins out outer nodes e h =
      let k = both_hold (have_parts parts (map view nodes)) _ h in
      let one = eqb-true (tree_count parts (map view nodes)) 1 k.1 in
      let ts = texts head parts (map view nodes) in
      let all = take_all 1 ts (omega (arith, texts_counted head parts (map view nodes))) in
      record {
        same = ap (λ (cs : List ℕ). out ++ closing (1 ∷ reverse cs) ts) e ∙ ap (λ (us : List (List ℕ)). out ++ concat us) all;
        counted = ap (λ (cs : List ℕ). 1 + total (reverse cs)) e ∙ sym one;
        have = k.0;
        ready = λ z. absurd (omega arith);
      }

  next : (nodes : List C) (i : ℕ) (n : C) → i < length nodes → n ≡ get_or nodes i n → map view (drop i nodes) ≡ view n ∷ map view (drop (i + 1) nodes)
  next nodes i n l e = ap (map view) (drop_more nodes i n l) ∙ ap (λ m. view m ∷ map view (drop (i + 1) nodes)) (sym e)

  -- there is a part left for the next node
  pub some_left : (out : List ℕ) (left : ℕ) (outer : List ℕ) (nodes : List C) (i : ℕ) (all : List ℕ) → i < length nodes → Pending out left outer nodes i all → 0 < left
  some_left out zero outer nodes i all l h =
      let none = h.ready refl in
      let zero_left : 0 ≡ tree_count parts (map view (drop i nodes)) = sym (ap (λ (cs : List ℕ). 0 + total (reverse cs)) none) ∙ h.counted in
      absurd (some_tree nodes i l (sym zero_left))
    where
      some_tree : (nodes : List C) (i : ℕ) → i < length nodes → tree_count parts (map view (drop i nodes)) ≡ 0 → ⊥
      some_tree [] i l e = omega arith
      some_tree (n ∷ nodes) zero l e = omega arith
      some_tree (n ∷ nodes) (suc i) l e = some_tree nodes i (omega arith) e
  some_left out (suc k) outer nodes i all l h = omega arith

  -- one node more
  pub goes_on : (out opened more : List ℕ) (left : ℕ) (outer pushed new_outer : List ℕ) (new_left asked : ℕ) (nodes : List C) (i : ℕ) (n : C) (all : List ℕ) → i < length nodes → n ≡ get_or nodes i n
      → Pending out left outer nodes i all → opened ≡ out ++ head (view n) → pushed ≡ outer ++ (left - 1) ∷ [] → asked ≡ parts (view n)
      → ((ts : List (List ℕ)) → more ++ closing (new_left ∷ reverse new_outer) ts ≡ opened ++ closing (asked ∷ reverse pushed) ts)
      → total (new_left ∷ reverse new_outer) ≡ total (asked ∷ reverse pushed)
      → (new_left ≡ 0 → new_outer ≡ []) → Pending more new_left new_outer nodes (i + 1) all
  goes_on out opened more left outer pushed new_outer new_left asked nodes i n all l e h w p a same kept ready =
      let some = some_left out left outer nodes i all l h in
      let d = left - 1 in
      let left_is : left ≡ suc d = omega arith in
      let rest = map view (drop (i + 1) nodes) in
      let ts = texts head parts rest in
      let next_is = next nodes i n l e in
      let reversed : reverse pushed ≡ d ∷ reverse outer = ap reverse p ∙ reverse-append outer (d ∷ []) in
      let texts_are : texts head parts (map view (drop i nodes)) ≡ with_node head parts (view n) ts = ap (texts head parts) next_is in
      let k = both_hold (have_parts parts rest) _ (ap (have_parts parts) (sym next_is) ∙ h.have) in
      let fits = leb-true (parts (view n)) (tree_count parts rest) k.1 in
      let old_total : suc d + total (reverse outer) ≡ suc (tree_count parts rest - parts (view n)) =
      ap (λ (c : ℕ). c + total (reverse outer)) (sym left_is) ∙ h.counted ∙ ap (tree_count parts) next_is in
      let new_total : total (new_left ∷ reverse new_outer) ≡ parts (view n) + (d + total (reverse outer)) = kept ∙ ap (λ (k : ℕ). k + total (reverse pushed)) a ∙ ap (λ (cs : List ℕ). parts (view n) + total cs) reversed in
      record {
        same = same ts ∙ ap (λ (k : ℕ). opened ++ closing (k ∷ reverse pushed) ts) a ∙ ap (λ (cs : List ℕ). opened ++ closing (parts (view n) ∷ cs) ts) reversed ∙ ap (λ o. o ++ closing (parts (view n) ∷ (d ∷ reverse outer)) ts) w
            ∙ append_assoc out (head (view n)) (closing (parts (view n) ∷ (d ∷ reverse outer)) ts)
            ∙ ap (λ t. out ++ t) (sym (closing_node head parts (view n) d (reverse outer) ts))
            ∙ ap (λ (us : List (List ℕ)). out ++ closing (suc d ∷ reverse outer) us) (sym texts_are)
            ∙ ap (λ (c : ℕ). out ++ closing (c ∷ reverse outer) (texts head parts (map view (drop i nodes)))) (sym left_is) ∙ h.same;
        counted = new_total ∙ omega arith;
        have = k.0;
        ready = ready;
      }

  -- after the last node
  pub ends : (out : List ℕ) (left : ℕ) (outer : List ℕ) (nodes : List C) (i : ℕ) (all : List ℕ) → length nodes ≤ i → Pending out left outer nodes i all → out ≡ all
  ends out left outer nodes i all l h =
      let none = drop_all i nodes l in
      let counted : left + total (reverse outer) ≡ 0 = h.counted ∙ ap (λ ns. tree_count parts (map view ns)) none in
      let no_left : left ≡ 0 = omega arith in
      let no_outer = h.ready no_left in
      sym (append-nil out) ∙ ap (λ (cs : List ℕ). out ++ closing (0 ∷ reverse cs) []) (sym no_outer) ∙ ap (λ (c : ℕ). out ++ closing (c ∷ reverse outer) []) (sym no_left)
      ∙ ap (λ ns. out ++ closing (left ∷ reverse outer) (texts head parts (map view ns))) (sym none) ∙ h.same
