-- The loops that find how deep predicates nest, from the last node to the first.
use Rattle.std.proofs.Common.{◌≡◌, ℕ, zero, suc, ◌+◌, ◌≤◌, max, true, false, ◌&&◌, nat_le, List, [], ◌∷◌, ◌++◌, length, map, take, drop, reverse, get_or, Some, None, refl, sym, ap, ◌∙◌, arith}
use Rattle.std.specs.Option.{option_to_list}
use Rattle.std.proofs.lemmas.Bool.{le-leb}
use Rattle.std.proofs.lemmas.Bool.Decides.{nat_tests}
use Rattle.std.proofs.lemmas.List.{drop_more, drop_all, drop-map, reverse-append, append-nil}
use Rattle.proof_form.specs.declared.predicates.PNode.{PNode}
use Rattle.proof_form.specs.Predicates.{PredicateNode, atom, and_of, or_of, plain_predicate_node, parts, highest, height_of, heights, are_low}
use Rattle.proof_form.proofs.CountLaws.{and_false}

-- Taking heights away

-- The highest so far and of those that are left to take is the highest of all, and the others are the same.
pub record Taking (now : List ℕ) (left top : ℕ) (old : List ℕ) (count : ℕ) : Type 0 where
  pub same : max top (highest (take left (reverse now))) ≡ highest (take count (reverse old))
  pub others : drop left (reverse now) ≡ drop count (reverse old)

pub taking_begins : (old : List ℕ) (left count : ℕ) → left ≡ count → Taking old left 0 old count
taking_begins old left count e = record { same = max_zero (highest (take left (reverse old))) ∙ ap (λ (k : ℕ). highest (take k (reverse old))) e; others = ap (λ (k : ℕ). drop k (reverse old)) e }
  where
    max_zero : (n : ℕ) → max 0 n ≡ n
    max_zero n = omega arith

pub taking_goes_on : (now new : List ℕ) (left next h top more : ℕ) (old : List ℕ) (count : ℕ) → left ≡ suc next → now ≡ new ++ option_to_list (Some h) → more ≡ max h top → Taking now left top old count → Taking new next more old count
taking_goes_on now new left next h top more old count l e m t =
    let r : reverse now ≡ h ∷ reverse new = ap reverse e ∙ reverse-append new (h ∷ []) in
    let same = rw (l, r) at t.same in
    let others = rw (l, r) at t.others in
    record { same = regrouped (highest (take next (reverse new))) ∙ same; others = others }
  where
    regrouped : (x : ℕ) → max more x ≡ max top (max h x)
    regrouped x = omega arith

pub none_to_take : (now new : List ℕ) (left top : ℕ) (old : List ℕ) (count : ℕ) → now ≡ [] → now ≡ new ++ option_to_list None → Taking now left top old count → (top ≡ highest (take count (reverse old))) × (reverse new ≡ drop count (reverse old))
none_to_take now new left top old count e p t =
    let same = rw (e, nothing left) at t.same in
    let others = rw (e, nothing_dropped left) at t.others in
    (sym (max_none top) ∙ same, ap reverse (sym (append-nil new) ∙ sym p ∙ e) ∙ others)
  where
    nothing : (k : ℕ) → take {A = ℕ} k [] ≡ []
    nothing zero = refl
    nothing (suc k) = refl

    nothing_dropped : (k : ℕ) → drop {A = ℕ} k [] ≡ []
    nothing_dropped zero = refl
    nothing_dropped (suc k) = refl

    max_none : (n : ℕ) → max n 0 ≡ n
    max_none n = omega arith

pub all_taken : (now : List ℕ) (left top : ℕ) (old : List ℕ) (count : ℕ) → left ≡ 0 → Taking now left top old count → (top ≡ highest (take count (reverse old))) × (reverse now ≡ drop count (reverse old))
all_taken now left top old count e t =
    let same = rw e at t.same in
    let others = rw e at t.others in
    (sym (max_none top) ∙ same, others)
  where
    max_none : (n : ℕ) → max n 0 ≡ n
    max_none n = omega arith

-- Heights

-- the height of a node goes by the highest of its parts
pub height_by_highest : (n : PredicateNode) (hs : List ℕ) (h : ℕ) → h ≡ highest hs → height_of n (h ∷ []) ≡ height_of n hs
height_by_highest (atom bound terms) hs h e = refl
height_by_highest (and_of k) hs h e = let m : suc (max h 0) ≡ suc (highest hs) = omega arith in m
height_by_highest (or_of k) hs h e = let m : suc (max h 0) ≡ suc (highest hs) = omega arith in m

-- where the nodes behind a place nest too deep, all do
pub too_deep : (i : ℕ) (ns : List PredicateNode) → are_low (drop i ns) ≡ false → are_low ns ≡ false
too_deep zero ns h = h
too_deep (suc i) [] h = h
too_deep (suc i) (n ∷ ns) h = rw (too_deep i ns h) refl

-- The heights of the nodes from the place on, none of which nests too deep.
pub record Low (nodes : List PNode) (left : ℕ) (now : List ℕ) : Type 0 where
  pub within : left ≤ length nodes
  pub heights_are : reverse now ≡ heights (map plain_predicate_node (drop left nodes))
  pub low : are_low (map plain_predicate_node (drop left nodes)) ≡ true

pub low_begins : (nodes : List PNode) (left : ℕ) (now : List ℕ) → left ≡ length nodes → now ≡ [] → Low nodes left now
low_begins nodes left now e f = let none = drop_all left nodes (omega arith) in
    record { within = omega arith; heights_are = ap reverse f ∙ ap (λ ns. heights (map plain_predicate_node ns)) (sym none); low = ap (λ ns. are_low (map plain_predicate_node ns)) none }

-- the node before the place, its parts' heights taken away
pub record Next (nodes : List PNode) (left i : ℕ) (n : PNode) (below : ℕ) (others : List ℕ) : Type 0 where
  pub node : drop i nodes ≡ n ∷ drop left nodes
  pub height : height_of (plain_predicate_node n) (below ∷ []) ≡ height_of (plain_predicate_node n) (take (parts (plain_predicate_node n)) (heights (map plain_predicate_node (drop left nodes))))
  pub rest : reverse others ≡ drop (parts (plain_predicate_node n)) (heights (map plain_predicate_node (drop left nodes)))
  pub low : are_low (map plain_predicate_node (drop left nodes)) ≡ true

pub next : (nodes : List PNode) (left i : ℕ) (n : PNode) (now others : List ℕ) (below asked : ℕ) → left ≡ i + 1 → n ≡ get_or nodes i n → Low nodes left now → asked ≡ parts (plain_predicate_node n)
    → below ≡ highest (take asked (reverse now)) → reverse others ≡ drop asked (reverse now) → Next nodes left i n below others
next nodes left i n now others below asked l e h a b o =
    let w = h.within in
    let taken : below ≡ highest (take (parts (plain_predicate_node n)) (heights (map plain_predicate_node (drop left nodes)))) =
    b ∙ ap (λ (k : ℕ). highest (take k (reverse now))) a ∙ ap (λ hs. highest (take (parts (plain_predicate_node n)) hs)) h.heights_are in
    record {
      node = drop_more nodes i n (omega arith) ∙ ap (λ m. m ∷ drop (i + 1) nodes) (sym e) ∙ ap (λ (j : ℕ). n ∷ drop j nodes) (sym l);
      height = height_by_highest (plain_predicate_node n) (take (parts (plain_predicate_node n)) (heights (map plain_predicate_node (drop left nodes)))) below taken;
      rest = o ∙ ap (λ (k : ℕ). drop k (reverse now)) a ∙ ap (λ hs. drop (parts (plain_predicate_node n)) hs) h.heights_are;
      low = h.low;
    }

not_low : (h : ℕ) → (h ≤ 200 → ⊥) → nat_le h 200 ≡ false
not_low h over = grind (arith, nat_tests)

pub low_stops : (nodes : List PNode) (left i : ℕ) (n : PNode) (below : ℕ) (others : List ℕ) → Next nodes left i n below others → (height_of (plain_predicate_node n) (below ∷ []) ≤ 200 → ⊥) → are_low (map plain_predicate_node nodes) ≡ false
low_stops nodes left i n below others x over =
    let deep : nat_le (height_of (plain_predicate_node n) (take (parts (plain_predicate_node n)) (heights (map plain_predicate_node (drop left nodes))))) 200 ≡ false = ap (λ (h : ℕ). nat_le h 200) (sym x.height) ∙ not_low (height_of (plain_predicate_node n) (below ∷ [])) over in
    let here : are_low (map plain_predicate_node (drop i nodes)) ≡ false = ap (λ ns. are_low (map plain_predicate_node ns)) x.node ∙ rw deep (and_false (are_low (map plain_predicate_node (drop left nodes)))) in
    too_deep i (map plain_predicate_node nodes) (ap are_low (drop-map plain_predicate_node i nodes) ∙ here)

pub low_goes_on : (nodes : List PNode) (left i : ℕ) (n : PNode) (below : ℕ) (others more : List ℕ) (h : ℕ) → left ≡ i + 1 → left ≤ length nodes → Next nodes left i n below others
    → (height_of (plain_predicate_node n) (below ∷ []) ≤ 200) × (h ≡ height_of (plain_predicate_node n) (below ∷ [])) → more ≡ others ++ h ∷ [] → Low nodes i more
low_goes_on nodes left i n below others more h l w x fits p =
    let is : h ≡ height_of (plain_predicate_node n) (take (parts (plain_predicate_node n)) (heights (map plain_predicate_node (drop left nodes)))) = fits.1 ∙ x.height in
    let fine = le-leb (height_of (plain_predicate_node n) (take (parts (plain_predicate_node n)) (heights (map plain_predicate_node (drop left nodes))))) 200 (let a = fits.0 in let b = x.height in omega arith) in
    let both : (are_low (map plain_predicate_node (drop left nodes)) && nat_le (height_of (plain_predicate_node n) (take (parts (plain_predicate_node n)) (heights (map plain_predicate_node (drop left nodes))))) 200) ≡ true = rw (x.low, fine) refl in
    record {
      within = omega arith;
      heights_are = ap reverse p ∙ reverse-append others (h ∷ []) ∙ ap (λ hs. h ∷ hs) x.rest ∙ ap (λ (k : ℕ). k ∷ drop (parts (plain_predicate_node n)) (heights (map plain_predicate_node (drop left nodes)))) is ∙ ap (λ ns. heights (map plain_predicate_node ns)) (sym x.node);
      low = ap (λ ns. are_low (map plain_predicate_node ns)) x.node ∙ both;
    }
