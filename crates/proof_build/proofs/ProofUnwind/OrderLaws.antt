-- The order of nodes by their places gives each node a new number of its own.
use Rattle.std.proofs.Common.{◌≡◌, ◌≢◌, ◌∙◌, ◌⊎◌, ℕ, zero, suc, ◌+◌, ◌<◌, ◌≤◌, Bool, true, false, eqb, List, [], ◌∷◌, ◌++◌, length, length-append, get_or, set, take, get_or-set_same, get_or-set_other, below_more, refl, sym, ap, subst, inl, inr, arith}
use Rattle.std.specs.Prelude.{Some, map, slice_get, slice_index}
use Rattle.std.specs.List.{All, IsDistinct}
use Rattle.std.specs.List.Sorted.{IsPermutation, IsNonDecreasingBy}
use Rattle.std.proofs.lemmas.Bool.{eqb-true, eqb-false}
use Rattle.std.proofs.lemmas.List.{length-map, get_or-map, map-append, take_more}
use Rattle.std.proofs.lemmas.List.Sorted.{IsPermutation-map, length_permutation, All-permutation, Contains-permutation}
use Rattle.std.proofs.lemmas.Map.Keys.{IsDistinct-IsPermutation, IsDistinct-from_apart, apart_from_distinct}
use Rattle.proof_names.specs.Outlines.{OutlineNode}
use Rattle.nwa_base.specs.Automata.{Automaton}
use Rattle.proof_build.specs.declared.proof_unwind.spots.Spot.{Spot}
use Rattle.proof_build.specs.ProofUnwind.Unwindings.{node_at, node_place_in, bare}
use Rattle.proof_build.specs.ProofUnwind.Spots.{plain, nodes_of}
use Rattle.proof_build.specs.ProofUnwind.Renumbering.{renamed, IsMoved, IsRenumbering, PlacesAscend, pair_at, AreOthers, IsOrder, ArePlaced, AreRanks}

-- ---- new numbers

node_at_map : (f : ℕ × ℕ → OutlineNode) (order : List (ℕ × ℕ)) (j : ℕ) → j < length order → node_at (map f order) j ≡ f (pair_at order j)
node_at_map f [] j l = absurd (omega arith)
node_at_map f (p ∷ order) zero l = refl
node_at_map f (p ∷ order) (suc j) l = node_at_map f order j (omega arith)

-- a node stands in the order, at its new number
record Stands (order : List (ℕ × ℕ)) (h : ℕ → ℕ) (n : ℕ) : Type 0 where
  place : ℕ
  within : place < length order
  is : (pair_at order place).1 ≡ n
  rank : h n ≡ place

module _ (nodes new : List OutlineNode) (order : List (ℕ × ℕ)) (ranks : List ℕ) (p : ArePlaced nodes order) (r : AreRanks order ranks)
    (e : new ≡ map (λ (x : ℕ × ℕ). renamed (slice_index ranks) (node_at nodes x.1)) order) where
  stands : (n : ℕ) → n < length nodes → Stands order (slice_index ranks) n
  stands n l = let a = p.all n l in record { place = a.0; within = a.1; is = a.2; rank = ap (slice_index ranks) (sym a.2) ∙ r a.0 a.1 }

  node_moved : (j : ℕ) → j < length order → node_at new j ≡ renamed (slice_index ranks) (node_at nodes (pair_at order j).1)
  node_moved j l = subst (λ (z : List OutlineNode). node_at z j ≡ renamed (slice_index ranks) (node_at nodes (pair_at order j).1)) (sym e)
      (node_at_map (λ (x : ℕ × ℕ). renamed (slice_index ranks) (node_at nodes x.1)) order j l)

  pub renumbering : 0 < length nodes → IsRenumbering nodes new (slice_index ranks)
  renumbering some = record {
    first = ap (slice_index ranks) (sym p.first) ∙ r 0 (let k = p.long in omega (arith, k, some));
    long = ap (λ (z : List OutlineNode). length z) e ∙ length-map order (λ (x : ℕ × ℕ). renamed (slice_index ranks) (node_at nodes x.1)) ∙ p.long;
    below = λ n l. let v = stands n l in let a = v.rank in let b = v.within in let k = p.long in omega (arith, a, b, k);
    apart = λ n k l o i. let v = stands n l in let w = stands k o in
        let j : v.place ≡ w.place = sym v.rank ∙ i ∙ w.rank in sym v.is ∙ ap (λ (z : ℕ). (pair_at order z).1) j ∙ w.is;
    onto = λ j l. let k = p.long in let i : j < length order = omega (arith, k, l) in
        ((pair_at order j).1, (let b = p.is_order.below j i in omega (arith, b, k)), r j i);
    at = λ n l. let v = stands n l in
        subst (λ (z : ℕ). node_at new z ≡ renamed (slice_index ranks) (node_at nodes n)) (sym v.rank)
        (node_moved v.place v.within ∙ ap (λ (z : ℕ). renamed (slice_index ranks) (node_at nodes z)) v.is);
  }

  place_moved : (j : ℕ) → j < length order → node_place_in new j ≡ (pair_at order j).0
  place_moved j l = ap (λ (x : OutlineNode). x.place) (node_moved j l) ∙ sym (p.places j l)

  pub places_ascend : PlacesAscend new
  places_ascend n k l o =
      let long : length new ≡ length order = ap (λ (z : List OutlineNode). length z) e ∙ length-map order (λ (x : ℕ × ℕ). renamed (slice_index ranks) (node_at nodes x.1)) in
      let i : k < length order = omega (arith, long, o) in
      let a : node_place_in new n ≡ (pair_at order n).0 = place_moved n (omega (arith, l, i)) in
      let b : node_place_in new k ≡ (pair_at order k).0 = place_moved k i in
      let c : (pair_at order n).0 ≤ (pair_at order k).0 = p.ascend n k l i in
      omega (arith, a, b, c)

-- ---- the order

differ : (x y : ℕ) → (x ≡ y → ⊥) → eqb x y ≡ false
differ x y f = by_case (eqb x y) refl
  where
    by_case : (t : Bool) → eqb x y ≡ t → t ≡ false
    by_case true e = absurd (f (eqb-true x y e))
    by_case false e = refl

flips : (x y : ℕ) → eqb x y ≡ eqb y x
flips x y = by_case (eqb x y) refl
  where
    by_case : (t : Bool) → eqb x y ≡ t → t ≡ eqb y x
    by_case true e = let i : x ≡ y = eqb-true x y e in subst (λ (z : ℕ). true ≡ eqb z x) i (sym (subst (λ (z : ℕ). eqb x z ≡ true) (sym i) e))
    by_case false e = sym (differ y x (λ i. eqb-false x y e (sym i)))

-- what is said of the pair of a node but the first
record IsPairOf (nodes : List OutlineNode) (x : ℕ × ℕ) : Type 0 where
  above : 0 < x.1
  there : x.1 < length nodes
  place : x.0 ≡ node_place_in nodes x.1

module _ (nodes : List OutlineNode) (pairs sorted : List (ℕ × ℕ)) (o : AreOthers nodes pairs) (q : IsPermutation pairs sorted) (up : IsNonDecreasingBy (λ (x : ℕ × ℕ). x.0) sorted)
    (some : 0 < length nodes) (start : node_place_in nodes 0 ≡ 0) where
  at_any : (k : ℕ) (d : ℕ × ℕ) → k < length pairs → get_or pairs k d ≡ (node_place_in nodes (k + 1), k + 1)
  at_any k d l = same pairs k d l ∙ o.at k l
    where
      same : (xs : List (ℕ × ℕ)) (i : ℕ) (c : ℕ × ℕ) → i < length xs → get_or xs i c ≡ pair_at xs i
      same [] i c l = absurd (omega arith)
      same (x ∷ xs) zero c l = refl
      same (x ∷ xs) (suc i) c l = same xs i c (omega arith)

  all_pairs : All (IsPairOf nodes) pairs
  all_pairs k d l = let n = o.long in
      subst (IsPairOf nodes) (sym (at_any k d l)) (record { above = omega arith; there = omega (arith, n, l); place = refl })

  all_sorted : All (IsPairOf nodes) sorted
  all_sorted = All-permutation (IsPairOf nodes) pairs sorted q all_pairs

  distinct : IsDistinct eqb (map (λ (x : ℕ × ℕ). x.1) pairs)
  distinct = IsDistinct-from_apart eqb (map (λ (x : ℕ × ℕ). x.1) pairs) (λ i j d l m.
      let long = length-map pairs (λ (x : ℕ × ℕ). x.1) in
      let mj : j < length pairs = omega (arith, long, m) in
      let li : i < length pairs = omega (arith, l, mj) in
      let a : get_or (map (λ (x : ℕ × ℕ). x.1) pairs) i d ≡ i + 1 = get_or-map (λ (x : ℕ × ℕ). x.1) pairs i (0, 0) d li ∙ ap (λ (x : ℕ × ℕ). x.1) (at_any i (0, 0) li) in
      let b : get_or (map (λ (x : ℕ × ℕ). x.1) pairs) j d ≡ j + 1 = get_or-map (λ (x : ℕ × ℕ). x.1) pairs j (0, 0) d mj ∙ ap (λ (x : ℕ × ℕ). x.1) (at_any j (0, 0) mj) in
      differ (get_or (map (λ (x : ℕ × ℕ). x.1) pairs) i d) (get_or (map (λ (x : ℕ × ℕ). x.1) pairs) j d) (λ f. omega (arith, a, b, f, l)))

  sorted_apart : (i j : ℕ) → i < j → j < length sorted → (pair_at sorted i).1 ≢ (pair_at sorted j).1
  sorted_apart i j l m f =
      let long = length-map sorted (λ (x : ℕ × ℕ). x.1) in
      let g = apart_from_distinct eqb (map (λ (x : ℕ × ℕ). x.1) sorted) i j 0
      (IsDistinct-IsPermutation eqb flips (map (λ (x : ℕ × ℕ). x.1) pairs) (map (λ (x : ℕ × ℕ). x.1) sorted) (IsPermutation-map (λ (x : ℕ × ℕ). x.1) pairs sorted q) distinct)
      l (omega (arith, long, m)) in
      eqb-false (get_or (map (λ (x : ℕ × ℕ). x.1) sorted) i 0) (get_or (map (λ (x : ℕ × ℕ). x.1) sorted) j 0) g
      (get_or-map (λ (x : ℕ × ℕ). x.1) sorted i (0, 0) 0 (omega (arith, l, m)) ∙ f ∙ sym (get_or-map (λ (x : ℕ × ℕ). x.1) sorted j (0, 0) 0 m))

  below : (j : ℕ) → j < length sorted + 1 → (pair_at ((0, 0) ∷ sorted) j).1 < length sorted + 1
  below zero l = omega arith
  below (suc j) l = let a = all_sorted j (0, 0) (omega arith) in let b = a.there in let n = o.long in let k = length_permutation pairs sorted q in omega (arith, b, n, k)

  apart : (i j : ℕ) → i < j → j < length sorted + 1 → (pair_at ((0, 0) ∷ sorted) i).1 ≢ (pair_at ((0, 0) ∷ sorted) j).1
  apart i zero l m f = absurd (omega arith)
  apart zero (suc j) l m f = let a = all_sorted j (0, 0) (omega arith) in let b = a.above in absurd (omega (arith, b, f))
  apart (suc i) (suc j) l m f = sorted_apart i j (omega arith) (omega arith) f

  places : (j : ℕ) → j < length sorted + 1 → (pair_at ((0, 0) ∷ sorted) j).0 ≡ node_place_in nodes (pair_at ((0, 0) ∷ sorted) j).1
  places zero l = sym start
  places (suc j) l = (all_sorted j (0, 0) (omega arith)).place

  ascend : (i j : ℕ) → i < j → j < length sorted + 1 → (pair_at ((0, 0) ∷ sorted) i).0 ≤ (pair_at ((0, 0) ∷ sorted) j).0
  ascend i zero l m = absurd (omega arith)
  ascend zero (suc j) l m = omega arith
  ascend (suc i) (suc j) l m = up i j (0, 0) (omega arith) (omega arith)

  all : (n : ℕ) → n < length nodes → (j : ℕ) × (j < length sorted + 1) × ((pair_at ((0, 0) ∷ sorted) j).1 ≡ n)
  all zero l = (0, omega arith, refl)
  all (suc n) l =
      let k = o.long in let i : n < length pairs = omega (arith, k, l) in
      let x : ℕ × ℕ = (node_place_in nodes (n + 1), n + 1) in
      let c = Contains-permutation pairs sorted x q (n, i, at_any n x i) in
      (c.0 + 1, (let b = c.1 in omega (arith, b)), found sorted c.0 x c.2 c.1 ∙ (let z : n + 1 ≡ suc n = omega arith in z))
    where
      found : (xs : List (ℕ × ℕ)) (j : ℕ) (x : ℕ × ℕ) → get_or xs j x ≡ x → j < length xs → (pair_at ((0, 0) ∷ xs) (j + 1)).1 ≡ x.1
      found xs j x e l = let z : j + 1 ≡ suc j = omega arith in
          subst (λ (w : ℕ). (pair_at ((0, 0) ∷ xs) w).1 ≡ x.1) (sym z) (again xs j x e l)
        where
          again : (xs : List (ℕ × ℕ)) (j : ℕ) (x : ℕ × ℕ) → get_or xs j x ≡ x → j < length xs → (pair_at xs j).1 ≡ x.1
          again [] j x e l = absurd (omega arith)
          again (y ∷ xs) zero x e l = ap (λ (w : ℕ × ℕ). w.1) e
          again (y ∷ xs) (suc j) x e l = again xs j x e (omega arith)

  pub placed_by : ArePlaced nodes ((0, 0) ∷ sorted)
  placed_by =
      let long : length ((0, 0) ∷ sorted) ≡ length sorted + 1 = omega arith in
      record {
        is_order = record {
          below = λ j l. let b = below j (omega (arith, long, l)) in omega (arith, b, long);
          apart = λ i j l m. apart i j l (omega (arith, long, m));
        };
        long = let n = o.long in let k = length_permutation pairs sorted q in omega (arith, long, n, k);
        first = refl;
        all = λ n l. let a = all n l in (a.0, (let b = a.1 in omega (arith, b, long)), a.2);
        places = λ j l. places j (omega (arith, long, l));
        ascend = λ i j l m. ascend i j l (omega (arith, long, m));
      }

-- ---- one pair more, one rank more

-- a place in a list with one element more is one before or the last
pushed : (xs : List (ℕ × ℕ)) (y : ℕ × ℕ) (k : ℕ) → k < length xs + 1 → ((k < length xs) × (pair_at (xs ++ y ∷ []) k ≡ pair_at xs k)) ⊎ ((k ≡ length xs) × (pair_at (xs ++ y ∷ []) k ≡ y))
pushed [] y zero l = inr (refl, refl)
pushed [] y (suc k) l = absurd (omega arith)
pushed (x ∷ xs) y zero l = inl (omega arith, refl)
pushed (x ∷ xs) y (suc k) l = elim (pushed xs y k (omega arith)) [
  | inl h ↦ inl ((let i = h.0 in omega (arith, i)), h.1)
  | inr h ↦ inr ((let i = h.0 in omega (arith, i)), h.1)
]

pub others_more : (nodes : List OutlineNode) (pairs : List (ℕ × ℕ)) (number : ℕ) (y : ℕ × ℕ) → length pairs + 1 ≡ number →
    ((k : ℕ) → k < length pairs → pair_at pairs k ≡ (node_place_in nodes (k + 1), k + 1)) → y ≡ (node_place_in nodes number, number) →
    (k : ℕ) → k < length (pairs ++ y ∷ []) → pair_at (pairs ++ y ∷ []) k ≡ (node_place_in nodes (k + 1), k + 1)
others_more nodes pairs number y n h e k l =
    let long : length (pairs ++ y ∷ []) ≡ length pairs + 1 = length-append pairs (y ∷ []) in
    elim (pushed pairs y k (omega (arith, long, l))) [
      | inl v ↦ v.1 ∙ h k v.0
      | inr v ↦ (let z : number ≡ k + 1 = (let w = v.0 in omega (arith, w, n)) in v.1 ∙ e ∙ ap (λ (j : ℕ). (node_place_in nodes j, j)) z)
    ]

pub ranks_more : (order : List (ℕ × ℕ)) (ranks : List ℕ) (i : ℕ) → IsOrder order → i < length order → length ranks ≡ length order →
    ((k : ℕ) → k < i → get_or ranks (pair_at order k).1 0 ≡ k) → (k : ℕ) → k < i + 1 → get_or (set ranks (pair_at order i).1 i) (pair_at order k).1 0 ≡ k
ranks_more order ranks i o l e h = below_more _ _
    (λ k j. get_or-set_other ranks (pair_at order i).1 (pair_at order k).1 i 0 (o.apart k i j l) ∙ h k j)
    (get_or-set_same ranks (pair_at order i).1 i 0 (let b = o.below i l in omega (arith, b, e)))

-- ---- one node or step more

pub mapped_more : {X Y : Type 0} (f : X → Y) (xs : List X) (ys : List Y) (i : ℕ) (d : X) (y : Y) → i < length xs → ys ≡ map f (take i xs) → y ≡ f (get_or xs i d) →
    ys ++ y ∷ [] ≡ map f (take (i + 1) xs)
mapped_more {X} {Y} f xs ys i d y l e g =
    ap (λ (z : List Y). z ++ y ∷ []) e ∙ ap (λ (z : Y). map f (take i xs) ++ z ∷ []) g ∙ sym (map-append f (take i xs) (get_or xs i d ∷ [])) ∙ sym (ap (map f) (take_more xs i d l))

pub spot_moved : (h : ℕ → ℕ) (x : Spot) (entry : ℕ) (preds : List ℕ) → entry ≡ h x.entry → preds ≡ x.preds.items →
    ◌≡◌ {A = OutlineNode} (record { place = x.place; entry = entry; preds = preds }) (renamed h (plain x))
spot_moved h x entry preds e f = λ j. record { place = x.place; entry = e j; preds = f j }

-- ---- all together

pub record IsOrdered (nodes new : List OutlineNode) (s t : Automaton) : Type 0 where
  pub number : ℕ → ℕ
  pub renumbered : IsRenumbering nodes new number
  pub moved : IsMoved number s t
  pub ascend : PlacesAscend new

some_first : (nodes : List OutlineNode) → slice_get nodes 0 ≡ Some bare → 0 < length nodes
some_first [] e = absurd (cc)
some_first (x ∷ nodes) e = omega arith

pub place_first : (nodes : List OutlineNode) → slice_get nodes 0 ≡ Some bare → node_place_in nodes 0 ≡ 0
place_first [] e = absurd (cc)
place_first (x ∷ nodes) e = let i : x ≡ bare = cc in ap (λ (y : OutlineNode). y.place) i

pub ordered : (found a b : List Spot) (order o p : List (ℕ × ℕ)) (ranks q r : List ℕ) (new : List OutlineNode) (s t : Automaton) → a ≡ found → o ≡ order → b ≡ found → p ≡ order → q ≡ ranks → r ≡ ranks →
    ArePlaced (nodes_of a) order → AreRanks o ranks → new ≡ map (λ (x : ℕ × ℕ). renamed (slice_index q) (node_at (nodes_of b) x.1)) p → IsMoved (slice_index r) s t →
    slice_get (nodes_of found) 0 ≡ Some bare → IsOrdered (nodes_of found) new s t
ordered found a b order o p ranks q r new s t ea eo eb ep eq er placed are is moved first =
    let v : ArePlaced (nodes_of found) order = subst (λ (l : List Spot). ArePlaced (nodes_of l) order) ea placed in
    let w : AreRanks order ranks = subst (λ (l : List (ℕ × ℕ)). AreRanks l ranks) eo are in
    let z : new ≡ map (λ (x : ℕ × ℕ). renamed (slice_index ranks) (node_at (nodes_of found) x.1)) order =
    subst (λ (l : List Spot). new ≡ map (λ (x : ℕ × ℕ). renamed (slice_index ranks) (node_at (nodes_of l) x.1)) order) eb
    (subst (λ (l : List (ℕ × ℕ)). new ≡ map (λ (x : ℕ × ℕ). renamed (slice_index ranks) (node_at (nodes_of b) x.1)) l) ep
    (subst (λ (l : List ℕ). new ≡ map (λ (x : ℕ × ℕ). renamed (slice_index l) (node_at (nodes_of b) x.1)) p) eq is)) in
    record {
      number = slice_index ranks;
      renumbered = renumbering (nodes_of found) new order ranks v w z (some_first (nodes_of found) first);
      moved = subst (λ (l : List ℕ). IsMoved (slice_index l) s t) er moved;
      ascend = places_ascend (nodes_of found) new order ranks v w z;
    }
