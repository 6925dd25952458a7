-- The loop that counts trees, from the last node to the first.
use Rattle.std.proofs.Common.{◌≡◌, ℕ, zero, suc, ◌+◌, ◌-◌, ◌<◌, ◌≤◌, Bool, true, false, ◌&&◌, nat_eq, nat_le, List, [], ◌∷◌, length, map, drop, get_or, refl, sym, ap, ◌∙◌, arith}
use Rattle.std.proofs.lemmas.Bool.{le-leb}
use Rattle.std.proofs.lemmas.Bool.Decides.{nat_tests}
use Rattle.std.proofs.lemmas.List.{drop_more, drop_all, length-drop, length-map, drop-map}
use Rattle.std.specs.List.{list_all}
use Rattle.std.proofs.lemmas.List.Folds.{list_all-map}
use Rattle.proof_form.specs.Trees.{tree_count, have_parts, is_tree}

-- a node's parts are not there
no_parts : (a b : ℕ) → b < a → nat_le a b ≡ false
no_parts a b h = grind (arith, nat_tests)

pub and_false : (a : Bool) → (a && false) ≡ false
and_false true = refl
and_false false = refl

module _ {X : Type 0} (parts : X → ℕ) where
  pub count_within : (ns : List X) → tree_count parts ns ≤ length ns
  count_within [] = omega arith
  count_within (n ∷ ns) = let h = count_within ns in omega arith

  -- where the nodes behind a place lack parts, all do
  pub lack_parts : (i : ℕ) (ns : List X) → have_parts parts (drop i ns) ≡ false → have_parts parts ns ≡ false
  lack_parts zero ns h = h
  lack_parts (suc i) [] h = h
  lack_parts (suc i) (n ∷ ns) h = rw (lack_parts i ns h) refl

module _ {C X : Type 0} (view : C → X) (parts : X → ℕ) where
  -- The nodes from the place on are so many whole trees.
  pub record Counted (nodes : List C) (left count : ℕ) : Type 0 where
    pub within : left ≤ length nodes
    pub counted : count ≡ tree_count parts (map view (drop left nodes))
    pub have : have_parts parts (map view (drop left nodes)) ≡ true

  pub begins : (nodes : List C) (left : ℕ) → left ≡ length nodes → Counted nodes left 0
  begins nodes left e = let none = drop_all left nodes (omega arith) in
      record { within = omega arith; counted = ap (λ ns. tree_count parts (map view ns)) (sym none); have = ap (λ ns. have_parts parts (map view ns)) none }

  pub count_fits : (nodes : List C) (left count : ℕ) → Counted nodes left count → count + left ≤ length nodes
  count_fits nodes left count h =
      let w = count_within parts (map view (drop left nodes)) in
      let l : length (map view (drop left nodes)) ≡ length (drop left nodes) = length-map (drop left nodes) view in
      let d = length-drop left nodes in
      let e = h.counted in
      let f = h.within in omega arith

  -- the node before the place
  before : (nodes : List C) (i : ℕ) (n : C) → i < length nodes → n ≡ get_or nodes i n → drop i nodes ≡ n ∷ drop (i + 1) nodes
  before nodes i n l e = drop_more nodes i n l ∙ ap (λ m. m ∷ drop (i + 1) nodes) (sym e)

  pub goes_on : (nodes : List C) (left count i : ℕ) (n : C) → left ≡ i + 1 → Counted nodes left count → n ≡ get_or nodes i n → parts (view n) ≤ count → Counted nodes i (count - parts (view n) + 1)
  goes_on nodes left count i n l h e fits =
      let w = h.within in
      let k : drop i nodes ≡ n ∷ drop left nodes = before nodes i n (omega arith) e ∙ ap (λ (j : ℕ). n ∷ drop j nodes) (sym l) in
      let c : count - parts (view n) + 1 ≡ suc (tree_count parts (map view (drop left nodes)) - parts (view n)) = let d = h.counted in omega arith in
      let le : nat_le (parts (view n)) (tree_count parts (map view (drop left nodes))) ≡ true = le-leb (parts (view n)) (tree_count parts (map view (drop left nodes))) (let d = h.counted in omega arith) in
      let both : (have_parts parts (map view (drop left nodes)) && nat_le (parts (view n)) (tree_count parts (map view (drop left nodes)))) ≡ true = rw (h.have, le) refl in
      record {
        within = omega arith;
        counted = c ∙ ap (λ ns. tree_count parts (map view ns)) (sym k);
        have = ap (λ ns. have_parts parts (map view ns)) k ∙ both;
      }

  pub stops : (nodes : List C) (left count i : ℕ) (n : C) → left ≡ i + 1 → Counted nodes left count → n ≡ get_or nodes i n → count < parts (view n) → is_tree parts (map view nodes) ≡ false
  stops nodes left count i n l h e over =
      let w = h.within in
      let k : drop i nodes ≡ n ∷ drop left nodes = before nodes i n (omega arith) e ∙ ap (λ (j : ℕ). n ∷ drop j nodes) (sym l) in
      let no : nat_le (parts (view n)) (tree_count parts (map view (drop left nodes))) ≡ false = no_parts (parts (view n)) (tree_count parts (map view (drop left nodes))) (let d = h.counted in omega arith) in
      let lack : have_parts parts (map view (drop i nodes)) ≡ false = ap (λ ns. have_parts parts (map view ns)) k ∙ rw no (and_false (have_parts parts (map view (drop left nodes)))) in
      let all : have_parts parts (map view nodes) ≡ false = lack_parts parts i (map view nodes) (ap (have_parts parts) (drop-map view i nodes) ∙ lack) in
      rw all refl

  pub ends : (nodes : List C) (left count : ℕ) → left ≡ 0 → Counted nodes left count → nat_eq count 1 ≡ is_tree parts (map view nodes)
  ends nodes left count e h =
      let c = rw e at h.counted in
      let w = rw e at h.have in
      rw w (ap (λ (k : ℕ). nat_eq k 1) c)

-- each passes a test, and something else
pub seen_and : {C X : Type 0} (p : X → Bool) (view : C → X) (xs : List C) (r rest : Bool) → true ≡ list_all (λ x. p (view x)) xs → r ≡ rest → r ≡ (list_all p (map view xs) && rest)
seen_and p view xs r rest h e = rw (list_all-map p view xs, sym h) e

pub seen_not : {C X : Type 0} (p : X → Bool) (view : C → X) (xs : List C) (r rest : Bool) → false ≡ list_all (λ x. p (view x)) xs → r ≡ false → r ≡ (list_all p (map view xs) && rest)
seen_not p view xs r rest h e = rw (list_all-map p view xs, sym h) e

-- the first of two tests fails, or holds
pub first_fails : (a b : Bool) → false ≡ a → false ≡ (a && b)
first_fails a b h = rw (sym h) refl

pub first_holds : (a b r : Bool) → true ≡ a → r ≡ b → r ≡ (a && b)
first_holds a b r h e = rw (sym h) e
