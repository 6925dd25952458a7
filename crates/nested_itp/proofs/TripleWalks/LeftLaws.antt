-- What is left of a predicate at each node, which is read from the end of the nodes' list.
use Rattle.std.proofs.Common.{◌≡◌, ◌∙◌, ℕ, zero, suc, ◌+◌, ◌-◌, ◌<◌, ◌≤◌, ℤ, Bool, true, false, List, [], ◌∷◌, ◌++◌, length, map, drop, get_or, reverse, append_assoc, refl, sym, ap, arith, Option, None, Some}
use Rattle.std.specs.Prelude.{slice_get, if◌then◌else◌}
use Rattle.std.specs.Global.{Vec}
use Rattle.std.proofs.lemmas.List.{append-nil, drop_more, reverse-append, map-append}
use Rattle.farkas_check.specs.Nodes.{PlainNode}
use Rattle.farkas_check.specs.Trees.{Tree, leaf_tree, cut_tree, cases_tree}
use Rattle.triple_rows.specs.declared.predicates.PredNode.{PredNode}
use Rattle.triple_rows.specs.declared.predicates.PredNode.TheVariants.{And, Or}
use Rattle.triple_rows.specs.Predicates.{Formula}
use Rattle.nested_itp.specs.NestedPredicates.Stamps.{column_stamp}
use Rattle.nested_itp.specs.NestedPredicates.Positions.{Position, is_counted}
use Rattle.nested_itp.specs.NestedPredicates.Sums.{Branch, terms_from, coefficients_at, bound_at, inequality}
use Rattle.nested_itp.specs.NestedPredicates.Joins.{joined_formulas, joined_at, simplified}
use Rattle.nested_itp.specs.NestedPredicates.Bases.{node_of as sum_node}
use Rattle.nested_itp.specs.NestedPredicates.Layouts.{leaf_node}
use Rattle.nested_itp.specs.NestedPredicates.Tables.{cut_node_at, row_of_node}
use Rattle.nested_itp.specs.NestedRefutations.Refutations.{TreeSpot, Claim, truth_in, formula_at, low_side, high_side}
use Rattle.nested_itp.proofs.NestedRefutations.TruthLaws.{decided as decided_there, cut_truth}
use Rattle.nested_itp.specs.TripleWalks.Spots.{HasNoCases, listed, node_of, IsTree, in_row}
use Rattle.nested_itp.specs.TripleWalks.Claims.{lefts_of, decided, left_here, behind_here, left_in, behind_in}
use Rattle.nested_itp.specs.declared.triple_walks.trees.Tree as code

-- the nodes at a position
abbrev pub column : ℕ → List (Vec PredNode) → List (Option PredNode)
column p rows = map (λ r. slice_get r.items p) rows

-- what is left of the trees that a list spells
abbrev pub lefts_roots : List (Option PredNode) → List (Option Bool)
lefts_roots [] = []
lefts_roots (n ∷ ns) = left_in n (lefts_roots ns) ∷ behind_in n (lefts_roots ns)

-- what is left at each node
abbrev pub lefts_from : List (Option PredNode) → List (Option Bool)
lefts_from [] = []
lefts_from (n ∷ ns) = left_in n (lefts_roots ns) ∷ lefts_from ns

-- i nodes are read, from the end on
pub record AreLefts (rows : List (Vec PredNode)) (p i : ℕ) (lefts roots : List (Option Bool)) : Type 0 where
  pub those : reverse lefts ≡ lefts_from (drop (length rows - i) (column p rows))
  pub behind : reverse roots ≡ lefts_roots (drop (length rows - i) (column p rows))

in_column : (p : ℕ) (rows : List (Vec PredNode)) (at : ℕ) → in_row (slice_get rows at) p ≡ get_or (column p rows) at None
in_column p [] at = refl
in_column p (r ∷ rows) zero = refl
in_column p (r ∷ rows) (suc at) = in_column p rows at

column_long : (p : ℕ) (rows : List (Vec PredNode)) → length (column p rows) ≡ length rows
column_long p [] = refl
column_long p (r ∷ rows) = ap suc (column_long p rows)

front : (rows : List (Vec PredNode)) (p i at : ℕ) → i < length rows → at ≡ length rows - 1 - i →
    drop (length rows - (i + 1)) (column p rows) ≡ in_row (slice_get rows at) p ∷ drop (length rows - i) (column p rows)
front rows p i at l a =
    let k = column_long p rows in
    let x : length rows - (i + 1) ≡ at = omega (arith, a, l) in
    let y : at + 1 ≡ length rows - i = omega (arith, a, l) in
    ap (λ (n : ℕ). drop n (column p rows)) x ∙
    drop_more (column p rows) at None (omega (arith, k, a, l)) ∙
    ap (λ (o : Option PredNode). o ∷ drop (at + 1) (column p rows)) (sym (in_column p rows at)) ∙
    ap (λ (n : ℕ). in_row (slice_get rows at) p ∷ drop n (column p rows)) y

pub lefts_more : (rows : List (Vec PredNode)) (p i at : ℕ) (lefts more roots left after : List (Option Bool)) (value : Option Bool) →
    i < length rows → at ≡ length rows - 1 - i → AreLefts rows p i lefts roots →
    value ≡ left_in (in_row (slice_get rows at) p) (reverse roots) → reverse left ≡ behind_in (in_row (slice_get rows at) p) (reverse roots) →
    more ≡ lefts ++ value ∷ [] → after ≡ left ++ value ∷ [] → AreLefts rows p (i + 1) more after
lefts_more rows p i at lefts more roots left after value l a h v b m f =
    let o : Option PredNode = in_row (slice_get rows at) p in
    let rest : List (Option PredNode) = drop (length rows - i) (column p rows) in
    let fr : drop (length rows - (i + 1)) (column p rows) ≡ o ∷ rest = front rows p i at l a in
    let now : value ≡ left_in o (lefts_roots rest) = v ∙ ap (λ (rs : List (Option Bool)). left_in o rs) h.behind in
    record {
      those =
          ap reverse m ∙ reverse-append lefts (value ∷ []) ∙ ap (λ (x : Option Bool). x ∷ reverse lefts) now ∙
          ap (λ (y : List (Option Bool)). left_in o (lefts_roots rest) ∷ y) h.those ∙ sym (ap (λ (y : List (Option PredNode)). lefts_from y) fr);
      behind =
          ap reverse f ∙ reverse-append left (value ∷ []) ∙ ap (λ (x : Option Bool). x ∷ reverse left) now ∙
          ap (λ (y : List (Option Bool)). left_in o (lefts_roots rest) ∷ y) (b ∙ ap (λ (rs : List (Option Bool)). behind_in o rs) h.behind) ∙
          sym (ap (λ (y : List (Option PredNode)). lefts_roots y) fr);
    }

lefts_all : (rows : List (Vec PredNode)) (p i : ℕ) (lefts roots : List (Option Bool)) → length rows ≤ i → AreLefts rows p i lefts roots → reverse lefts ≡ lefts_from (column p rows)
lefts_all rows p i lefts roots l h =
    let z : length rows - i ≡ 0 = omega (arith, l) in
    h.those ∙ ap (λ (n : ℕ). lefts_from (drop n (column p rows))) z

-- ---- of a tree

-- the nodes of rows at a position
abbrev heads : ℕ → List (List PredNode) → List (Option PredNode)
heads p rows = map (λ r. slice_get r p) rows

heads_of_column : (p : ℕ) (rows : List (Vec PredNode)) → column p rows ≡ heads p (map (λ r. r.items) rows)
heads_of_column p [] = refl
heads_of_column p (r ∷ rows) = ap (λ (l : List (Option PredNode)). slice_get r.items p ∷ l) (heads_of_column p rows)

pub got_mapped : (f : Position → PredNode) (qs : List Position) (p : ℕ) (q : Position) → slice_get qs p ≡ Some q → slice_get (map f qs) p ≡ Some (f q)
got_mapped f [] p q e = absurd (cc)
got_mapped f (x ∷ qs) zero q e = ap (λ (y : Position). Some (f y)) (let k : x ≡ q = cc in k)
got_mapped f (x ∷ qs) (suc p) q e = got_mapped f qs p q e

same_decided : (x : Bool) (a b : Option Bool) → decided x a b ≡ decided_there x a b
same_decided x (Some v) b = refl
same_decided x None (Some v) = refl
same_decided x None None = refl

sum_left : (ts : List (ℕ × ℤ)) (z : ℤ) (rs : List (Option Bool)) →
    left_here (sum_node (inequality ts z)) rs ∷ behind_here (sum_node (inequality ts z)) rs ≡ truth_in (simplified (inequality ts z)) ∷ rs
sum_left [] z rs = refl
sum_left (t ∷ ts) z rs = refl

cut_left : (c : Bool) (x y : Formula) (rs : List (Option Bool)) →
    left_here (if c then Or 2 else And 2) (truth_in (simplified x) ∷ truth_in (simplified y) ∷ rs) ∷
    behind_here (if c then Or 2 else And 2) (truth_in (simplified x) ∷ truth_in (simplified y) ∷ rs) ≡ truth_in (simplified (joined_formulas c x y)) ∷ rs
cut_left true x y rs =
    ap (λ (o : Option Bool). o ∷ rs) (same_decided true (truth_in (simplified x)) (truth_in (simplified y)) ∙ sym (cut_truth true x y))
cut_left false x y rs =
    ap (λ (o : Option Bool). o ∷ rs) (same_decided false (truth_in (simplified x)) (truth_in (simplified y)) ∙ sym (cut_truth false x y))

-- the rows of a tree's nodes
abbrev rows_of : List ℕ → List Position → ℕ → Branch → Tree → List (List PredNode)
rows_of columns qs n b t = listed (λ s. row_of_node columns qs (node_of s.tree) s.branch) columns n b t

left_tree : (columns : List ℕ) (qs : List Position) (p : ℕ) (c : Claim) → slice_get qs p ≡ Some c.position → (n : ℕ) (b : Branch) (t : Tree) (ns : List (Option PredNode)) → HasNoCases t →
    lefts_roots (heads p (rows_of columns qs n b t) ++ ns) ≡ truth_in (formula_at columns c b t) ∷ lefts_roots ns
left_tree columns qs p c e n b (leaf_tree parts) ns h =
    let rs : List (Option Bool) = lefts_roots ns in
    ap (λ (o : Option PredNode). left_in o rs ∷ behind_in o rs) (got_mapped (leaf_node b parts) qs p c.position e) ∙
    sum_left (terms_from 0 (coefficients_at b parts c.position)) (bound_at b parts c.position) rs
left_tree columns qs p c e n b (cut_tree col k t u) ns h =
    let s : ℕ = column_stamp columns col in
    let low : TreeSpot = low_side columns n b col k t in
    let high : TreeSpot = high_side columns n b col k t u in
    let o : Option PredNode = slice_get (map (cut_node_at s) qs) p in
    let x : List (List PredNode) = rows_of columns qs low.node low.branch t in
    let y : List (List PredNode) = rows_of columns qs high.node high.branch u in
    let f : Formula = joined_at columns c.position low.branch t in
    let g : Formula = joined_at columns c.position high.branch u in
    let rs : List (Option Bool) = lefts_roots ns in
    let behind : lefts_roots (heads p (x ++ y) ++ ns) ≡ truth_in (simplified f) ∷ truth_in (simplified g) ∷ rs =
    ap (λ (l : List (Option PredNode)). lefts_roots (l ++ ns)) (map-append (λ r. slice_get r p) x y) ∙
    ap (λ (l : List (Option PredNode)). lefts_roots l) (append_assoc (heads p x) (heads p y) ns) ∙
    left_tree columns qs p c e low.node low.branch t (heads p y ++ ns) h.0 ∙
    ap (λ (l : List (Option Bool)). truth_in (simplified f) ∷ l) (left_tree columns qs p c e high.node high.branch u ns h.1) in
    ap (λ (l : List (Option Bool)). left_in o l ∷ behind_in o l) behind ∙
    ap (λ (m : Option PredNode). left_in m (truth_in (simplified f) ∷ truth_in (simplified g) ∷ rs) ∷ behind_in m (truth_in (simplified f) ∷ truth_in (simplified g) ∷ rs))
    (got_mapped (cut_node_at s) qs p c.position e) ∙
    cut_left (is_counted c.position s) f g rs
left_tree columns qs p c e n b (cases_tree ts) ns h = absurd h

same_head : {X : Type 0} (x y : X) (xs ys : List X) → x ∷ xs ≡ y ∷ ys → x ≡ y
same_head x y xs ys e = cc

lefts_tree : (columns : List ℕ) (qs : List Position) (p : ℕ) (c : Claim) → slice_get qs p ≡ Some c.position → (n : ℕ) (b : Branch) (t : Tree) (ns : List (Option PredNode)) → HasNoCases t →
    lefts_from (heads p (rows_of columns qs n b t) ++ ns) ≡ listed (λ s. truth_in (formula_at columns c s.branch s.tree)) columns n b t ++ lefts_from ns
lefts_tree columns qs p c e n b (leaf_tree parts) ns h =
    let rs : List (Option Bool) = lefts_roots ns in
    let o : Option PredNode = slice_get (map (leaf_node b parts) qs) p in
    ap (λ (v : Option Bool). v ∷ lefts_from ns)
    (same_head (left_in o rs) (truth_in (formula_at columns c b (leaf_tree parts))) (behind_in o rs) rs (left_tree columns qs p c e n b (leaf_tree parts) ns h))
lefts_tree columns qs p c e n b (cut_tree col k t u) ns h =
    let s : ℕ = column_stamp columns col in
    let low : TreeSpot = low_side columns n b col k t in
    let high : TreeSpot = high_side columns n b col k t u in
    let o : Option PredNode = slice_get (map (cut_node_at s) qs) p in
    let x : List (List PredNode) = rows_of columns qs low.node low.branch t in
    let y : List (List PredNode) = rows_of columns qs high.node high.branch u in
    let left = λ (z : TreeSpot). truth_in (formula_at columns c z.branch z.tree) in
    let l : List (Option Bool) = listed left columns low.node low.branch t in
    let r : List (Option Bool) = listed left columns high.node high.branch u in
    let all : List (Option PredNode) = heads p (x ++ y) ++ ns in
    let here : left_in o (lefts_roots all) ≡ truth_in (formula_at columns c b (cut_tree col k t u)) =
    same_head (left_in o (lefts_roots all)) (truth_in (formula_at columns c b (cut_tree col k t u))) (behind_in o (lefts_roots all)) (lefts_roots ns)
    (left_tree columns qs p c e n b (cut_tree col k t u) ns h) in
    let behind : lefts_from all ≡ (l ++ r) ++ lefts_from ns =
    ap (λ (z : List (Option PredNode)). lefts_from (z ++ ns)) (map-append (λ r. slice_get r p) x y) ∙
    ap (λ (z : List (Option PredNode)). lefts_from z) (append_assoc (heads p x) (heads p y) ns) ∙
    lefts_tree columns qs p c e low.node low.branch t (heads p y ++ ns) h.0 ∙
    ap (λ (z : List (Option Bool)). l ++ z) (lefts_tree columns qs p c e high.node high.branch u ns h.1) ∙ sym (append_assoc l r (lefts_from ns)) in
    ap (λ (v : Option Bool). v ∷ lefts_from all) here ∙ ap (λ (z : List (Option Bool)). truth_in (formula_at columns c b (cut_tree col k t u)) ∷ z) behind
lefts_tree columns qs p c e n b (cases_tree ts) ns h = absurd h

pub lefts_are : (x : code.Tree) (p i : ℕ) (lefts turned roots : List (Option Bool)) → length x.table.items ≤ i → AreLefts x.table.items p i lefts roots → turned ≡ reverse lefts →
    (columns : List ℕ) (qs : List Position) (b : Branch) (t : Tree) (nodes : List PlainNode) (c : Claim) → IsTree columns qs b t nodes x → slice_get qs p ≡ Some c.position → turned ≡ lefts_of columns c b t
lefts_are x p i lefts turned roots l h r columns qs b t nodes c k e =
    let rows : List (List PredNode) = rows_of columns qs 0 b t in
    r ∙ lefts_all x.table.items p i lefts roots l h ∙
    ap (λ (z : List (Option PredNode)). lefts_from z) (heads_of_column p x.table.items ∙ ap (λ (z : List (List PredNode)). heads p z) k.rows ∙ sym (append-nil (heads p rows))) ∙
    lefts_tree columns qs p c e 0 b t [] k.uncased ∙ append-nil (lefts_of columns c b t)
