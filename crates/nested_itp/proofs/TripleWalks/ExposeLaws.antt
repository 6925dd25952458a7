-- The rows and groups that a claim gives, which are read node by node.
use Rattle.std.proofs.Common.{◌≡◌, ◌∙◌, ℕ, ◌-◌, Bool, true, false, List, [], ◌∷◌, ◌++◌, map, take, reverse, append_assoc, refl, sym, ap, arith, Option, None, Some}
use Rattle.std.specs.List.{AllByRecursion}
use Rattle.std.proofs.lemmas.List.{append-nil, map-append, reverse-append, reverse-reverse}
use Rattle.farkas_check.specs.Trees.{Tree, leaf_tree, cut_tree, cases_tree}
use Rattle.nested_itp.specs.NestedPredicates.Stamps.{column_stamp}
use Rattle.nested_itp.specs.NestedPredicates.Sums.{Branch}
use Rattle.nested_itp.specs.NestedRefutations.Refutations.{TreeSpot, Claim, low_side, high_side, side_of, truth_in, formula_at, Asked, one_part, both_parts, some_part, asked_at, Exposed, parts_exposed, unless_truth, atom_exposed, exposed}
use Rattle.nested_itp.specs.TripleWalks.Spots.{sides_in}
use Rattle.nested_itp.specs.TripleWalks.Claims.{left_of, asked_in}
use Rattle.nested_itp.specs.TripleWalks.Telling.{IsNode, Tells, IsExposed}
use Rattle.nested_itp.specs.TripleWalks.Ties.Exposing.{Found, found_of, numbers_of, none_found, with_found, found_at_cut, parts_at_cut, found_open, parts_open, found_unless, parts_unless, found_at, parts_at}
use Rattle.nested_itp.proofs.TripleWalks.TellingLaws.{spot, all_with, asked_told}
use Rattle.nested_itp.specs.declared.triple_walks.trees.Tree as code_trees
use Rattle.nested_itp.specs.declared.triple_walks.claims.Claim as code_claims
use Rattle.nested_itp.specs.declared.triple_walks.exposing.Exposed as code

-- ---- laws of what is found

found_thrice : (e f g : Found) → with_found (with_found e f) g ≡ with_found e (with_found f g)
found_thrice e f g =
    ap (λ (l : List ℕ). record { leaves = l; groups = (e.groups ++ f.groups) ++ g.groups }) (append_assoc e.leaves f.leaves g.leaves) ∙
    ap (λ (l : List ℕ). record { leaves = e.leaves ++ (f.leaves ++ g.leaves); groups = l }) (append_assoc e.groups f.groups g.groups)

found_last : (e : Found) → with_found e none_found ≡ e
found_last e =
    ap (λ (l : List ℕ). record { leaves = l; groups = e.groups ++ [] }) (append-nil e.leaves) ∙
    ap (λ (l : List ℕ). record { leaves = e.leaves; groups = l }) (append-nil e.groups)

-- what a claim gives at these nodes
abbrev pub all_given : List ℕ → Claim → List TreeSpot → Found
all_given columns c [] = none_found
all_given columns c (s ∷ ss) = with_found (numbers_of (exposed columns c s.node s.branch s.tree)) (all_given columns c ss)

given_append : (columns : List ℕ) (c : Claim) (ss zs : List TreeSpot) → all_given columns c (ss ++ zs) ≡ with_found (all_given columns c ss) (all_given columns c zs)
given_append columns c [] zs = refl
given_append columns c (s ∷ ss) zs =
    ap (λ (f : Found). with_found (numbers_of (exposed columns c s.node s.branch s.tree)) f) (given_append columns c ss zs) ∙
    sym (found_thrice (numbers_of (exposed columns c s.node s.branch s.tree)) (all_given columns c ss) (all_given columns c zs))

-- ---- one node

-- what is found at the node, and given at the parts that are asked, is what the claim gives
pub record Exposes (columns : List ℕ) (x : code_trees.Tree) (c : Claim) (y : code_claims.Claim) (s : TreeSpot) : Type 0 where
  pub spots : List TreeSpot
  pub parts : parts_at x y s.node ≡ map (λ z. z.node) spots
  pub tells : AllByRecursion (λ z. Tells columns x z c y) spots
  pub same : with_found (found_at x y s.node) (all_given columns c spots) ≡ numbers_of (exposed columns c s.node s.branch s.tree)

leaf_found : (n : ℕ) (o : Option Bool) → with_found (found_unless o (record { leaves = n ∷ []; groups = [] })) none_found ≡ numbers_of (atom_exposed n o)
leaf_found n None = refl
leaf_found n (Some v) = refl

no_parts : (o : Option Bool) → parts_unless o [] ≡ []
no_parts None = refl
no_parts (Some v) = refl

abbrev spots_of : Option Bool → Asked → TreeSpot → TreeSpot → List TreeSpot
spots_of (Some v) asked low high = []
spots_of None (one_part side) low high = side_of side low high ∷ []
spots_of None both_parts low high = low ∷ high ∷ []
spots_of None some_part low high = []

cut_parts : (o : Option Bool) (asked : Asked) (low high : TreeSpot) → parts_unless o (parts_at_cut asked (low.node, high.node)) ≡ map (λ z. z.node) (spots_of o asked low high)
cut_parts (Some v) asked low high = refl
cut_parts None (one_part false) low high = refl
cut_parts None (one_part true) low high = refl
cut_parts None both_parts low high = refl
cut_parts None some_part low high = refl

cut_tells : (P : TreeSpot → Type 0) (o : Option Bool) (asked : Asked) (low high : TreeSpot) → P low → P high → AllByRecursion P (spots_of o asked low high)
cut_tells P (Some v) asked low high h k = tt
cut_tells P None (one_part false) low high h k = (h, tt)
cut_tells P None (one_part true) low high h k = (k, tt)
cut_tells P None both_parts low high h k = (h, (k, tt))
cut_tells P None some_part low high h k = tt

cut_found : (columns : List ℕ) (c : Claim) (o : Option Bool) (asked : Asked) (s low high : TreeSpot) →
    with_found (found_unless o (found_at_cut asked s.node)) (all_given columns c (spots_of o asked low high)) ≡
    numbers_of (unless_truth o (parts_exposed asked s (exposed columns c low.node low.branch low.tree) (exposed columns c high.node high.branch high.tree)))
cut_found columns c (Some v) asked s low high = refl
cut_found columns c None (one_part false) s low high = found_last (numbers_of (exposed columns c low.node low.branch low.tree))
cut_found columns c None (one_part true) s low high = found_last (numbers_of (exposed columns c high.node high.branch high.tree))
cut_found columns c None both_parts s low high =
    let e : Exposed = exposed columns c low.node low.branch low.tree in
    let f : Exposed = exposed columns c high.node high.branch high.tree in
    ap (λ (z : Found). with_found (numbers_of e) z) (found_last (numbers_of f)) ∙
    ap (λ (l : List ℕ). record { leaves = e.leaves ++ f.leaves; groups = l }) (sym (map-append (λ (z : TreeSpot). z.node) e.groups f.groups))
cut_found columns c None some_part s low high = refl

abbrev ExposesAt : List ℕ → code_trees.Tree → Claim → code_claims.Claim → ℕ → Branch → Tree → Type 0
ExposesAt columns x c y n b t = Exposes columns x c y (spot n b t)

at_node : (columns : List ℕ) (x : code_trees.Tree) (c : Claim) (y : code_claims.Claim) (n : ℕ) (b : Branch) (t : Tree) → Tells columns x (spot n b t) c y → ExposesAt columns x c y n b t
at_node columns x c y n b (leaf_tree parts) h =
    let k : IsNode columns x c y (spot n b (leaf_tree parts)) = h.nodes in
    let o : Option Bool = truth_in (formula_at columns c b (leaf_tree parts)) in
    record {
      spots = [];
      parts =
          ap (λ (z : Option Bool). parts_unless z (parts_open (sides_in x n) (asked_in x y n))) k.left ∙
          ap (λ (z : Option (ℕ × ℕ)). parts_unless o (parts_open z (asked_in x y n))) k.sides ∙ no_parts o;
      tells = tt;
      same =
          ap (λ (z : Option Bool). with_found (found_unless z (found_open (sides_in x n) (asked_in x y n) n)) none_found) k.left ∙
          ap (λ (z : Option (ℕ × ℕ)). with_found (found_unless o (found_open z (asked_in x y n) n)) none_found) k.sides ∙ leaf_found n o;
    }
at_node columns x c y n b (cut_tree col k t u) h =
    let low : TreeSpot = low_side columns n b col k t in
    let high : TreeSpot = high_side columns n b col k t u in
    let o : Option Bool = truth_in (formula_at columns c b (cut_tree col k t u)) in
    let asked : Asked = asked_at c (column_stamp columns col) (truth_in (formula_at columns c low.branch t)) (truth_in (formula_at columns c high.branch u)) in
    let a : asked_in x y n (low.node, high.node) ≡ asked = asked_told columns x n b col k t u c y h in
    let left : left_of y n ≡ o = h.nodes.0.left in
    let sides : sides_in x n ≡ Some (low.node, high.node) = h.nodes.0.sides in
    let given : Found = all_given columns c (spots_of o asked low high) in
    record {
      spots = spots_of o asked low high;
      parts =
          ap (λ (z : Option Bool). parts_unless z (parts_open (sides_in x n) (asked_in x y n))) left ∙
          ap (λ (z : Option (ℕ × ℕ)). parts_unless o (parts_open z (asked_in x y n))) sides ∙
          ap (λ (z : Asked). parts_unless o (parts_at_cut z (low.node, high.node))) a ∙ cut_parts o asked low high;
      tells = cut_tells (λ (z : TreeSpot). Tells columns x z c y) o asked low high (record { is_denied = h.is_denied; nodes = h.nodes.1 }) (record { is_denied = h.is_denied; nodes = h.nodes.2 });
      same =
          ap (λ (z : Option Bool). with_found (found_unless z (found_open (sides_in x n) (asked_in x y n) n)) given) left ∙
          ap (λ (z : Option (ℕ × ℕ)). with_found (found_unless o (found_open z (asked_in x y n) n)) given) sides ∙
          ap (λ (z : Asked). with_found (found_unless o (found_at_cut z n)) given) a ∙ cut_found columns c o asked (spot n b (cut_tree col k t u)) low high;
    }
at_node columns x c y n b (cases_tree ts) h = absurd h.nodes

exposes : (columns : List ℕ) (x : code_trees.Tree) (c : Claim) (y : code_claims.Claim) (s : TreeSpot) → Tells columns x s c y → Exposes columns x c y s
exposes columns x c y s h =
    let k : ExposesAt columns x c y s.node s.branch s.tree = at_node columns x c y s.node s.branch s.tree (record { is_denied = h.is_denied; nodes = h.nodes }) in
    record { spots = k.spots; parts = k.parts; tells = k.tells; same = k.same }

-- ---- the loop over the nodes that are left

-- what has been found, and what is given at the nodes that are left, is what the claim gives
pub record IsLeftToGive (columns : List ℕ) (x : code_trees.Tree) (c : Claim) (y : code_claims.Claim) (s : TreeSpot) (left : List ℕ) (e : Found) : Type 0 where
  pub spots : List TreeSpot
  pub nodes : reverse left ≡ map (λ z. z.node) spots
  pub tells : AllByRecursion (λ z. Tells columns x z c y) spots
  pub same : with_found e (all_given columns c spots) ≡ numbers_of (exposed columns c s.node s.branch s.tree)

pub left_first : (columns : List ℕ) (x : code_trees.Tree) (c : Claim) (y : code_claims.Claim) (s : TreeSpot) (node : ℕ) (left : List ℕ) (e : Found) → node ≡ s.node → Tells columns x s c y →
    left ≡ [] ++ node ∷ [] → e ≡ none_found → IsLeftToGive columns x c y s left e
left_first columns x c y s node left e n h l f = record {
  spots = s ∷ [];
  nodes = ap reverse l ∙ ap (λ (m : ℕ). m ∷ []) n;
  tells = (h, tt);
  same = ap (λ (z : Found). with_found z (with_found (numbers_of (exposed columns c s.node s.branch s.tree)) none_found)) f ∙ found_last (numbers_of (exposed columns c s.node s.branch s.tree));
}

same_tail : (x y : ℕ) (xs ys : List ℕ) → x ∷ xs ≡ y ∷ ys → (x ≡ y) × (xs ≡ ys)
same_tail x y xs ys e = ((let a : x ≡ y = cc in a), (let b : xs ≡ ys = cc in b))

no_cons : (x : ℕ) (xs : List ℕ) → x ∷ xs ≡ [] → ⊥
no_cons x xs e = absurd (cc)

left_reversed : (popped after parts : List ℕ) → after ≡ popped ++ reverse parts → reverse after ≡ parts ++ reverse popped
left_reversed popped after parts e =
    ap reverse e ∙ reverse-append popped (reverse parts) ∙ ap (λ (l : List ℕ). l ++ reverse popped) (reverse-reverse parts)

pub left_next : (columns : List ℕ) (x : code_trees.Tree) (c : Claim) (y : code_claims.Claim) (s : TreeSpot) (node : ℕ) (left popped after : List ℕ) (e f : Found) → left ≡ popped ++ node ∷ [] →
    after ≡ popped ++ reverse (parts_at x y node) → f ≡ with_found e (found_at x y node) → IsLeftToGive columns x c y s left e → IsLeftToGive columns x c y s after f
left_next columns x c y s node left popped after e f l a g h =
    by_spots h.spots (sym (ap reverse l ∙ reverse-append popped (node ∷ [])) ∙ h.nodes) h.tells h.same
  where
    by_spots : (ss : List TreeSpot) → node ∷ reverse popped ≡ map (λ z. z.node) ss → AllByRecursion (λ z. Tells columns x z c y) ss →
        with_found e (all_given columns c ss) ≡ numbers_of (exposed columns c s.node s.branch s.tree) → IsLeftToGive columns x c y s after f
    by_spots [] q t m = absurd (no_cons node (reverse popped) q)
    by_spots (z ∷ ss) q t m =
        let two = same_tail node z.node (reverse popped) (map (λ (v : TreeSpot). v.node) ss) q in
        let k : Exposes columns x c y z = exposes columns x c y z t.0 in
        let found : Found = found_at x y z.node in
        record {
          spots = k.spots ++ ss;
          nodes =
              left_reversed popped after (parts_at x y node) a ∙ ap (λ (n : ℕ). parts_at x y n ++ reverse popped) two.0 ∙
              ap (λ (v : List ℕ). v ++ reverse popped) k.parts ∙ ap (λ (v : List ℕ). map (λ z. z.node) k.spots ++ v) two.1 ∙
              sym (map-append (λ (v : TreeSpot). v.node) k.spots ss);
          tells = all_with (λ (v : TreeSpot). Tells columns x v c y) k.spots ss k.tells t.1;
          same =
              ap (λ (v : Found). with_found v (all_given columns c (k.spots ++ ss))) (g ∙ ap (λ (n : ℕ). with_found e (found_at x y n)) two.0) ∙
              ap (λ (v : Found). with_found (with_found e found) v) (given_append columns c k.spots ss) ∙
              found_thrice e found (with_found (all_given columns c k.spots) (all_given columns c ss)) ∙
              ap (λ (v : Found). with_found e v) (sym (found_thrice found (all_given columns c k.spots) (all_given columns c ss)) ∙
              ap (λ (v : Found). with_found v (all_given columns c ss)) k.same) ∙ m;
        }

-- nothing is left
pub none_left : {X : Type 0} (old new : List X) (n : ℕ) → n ≡ 0 → new ≡ take (n - 1) old → old ≡ new ++ [] → old ≡ []
none_left old new n e t i =
    let k : n - 1 ≡ 0 = omega (arith, e) in
    let z : new ≡ [] = t ∙ ap (λ (m : ℕ). take m old) k in i ∙ ap (λ (xs : List _). xs ++ []) z

pub left_done : (columns : List ℕ) (x : code_trees.Tree) (c : Claim) (y : code_claims.Claim) (s : TreeSpot) (left : List ℕ) (e : code.Exposed) → left ≡ [] →
    IsLeftToGive columns x c y s left (found_of e) → IsExposed (exposed columns c s.node s.branch s.tree) e
left_done columns x c y s left e l h = by_spots h.spots (sym (ap reverse l) ∙ h.nodes) h.same
  where
    by_spots : (ss : List TreeSpot) → [] ≡ map (λ z. z.node) ss → with_found (found_of e) (all_given columns c ss) ≡ numbers_of (exposed columns c s.node s.branch s.tree) →
        IsExposed (exposed columns c s.node s.branch s.tree) e
    by_spots [] q m =
        let k : found_of e ≡ numbers_of (exposed columns c s.node s.branch s.tree) = sym (found_last (found_of e)) ∙ m in
        record { leaves = ap (λ (f : Found). f.leaves) k; groups = ap (λ (f : Found). f.groups) k }
    by_spots (z ∷ ss) q m = absurd (no_cons z.node (map (λ (v : TreeSpot). v.node) ss) (sym q))
