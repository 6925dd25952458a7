-- What there is of each node of a tree stands at the node's number.
use Rattle.std.proofs.Common.{◌≡◌, ◌∙◌, ℕ, zero, suc, ◌+◌, List, [], ◌∷◌, ◌++◌, length, append_assoc, length-append, refl, sym, ap, arith, Option, Some}
use Rattle.std.specs.Prelude.{slice_get}
use Rattle.farkas_check.specs.Nodes.{PlainNode, cut}
use Rattle.farkas_check.specs.Trees.{Tree, leaf_tree, cut_tree, cases_tree, prefix_of}
use Rattle.triple_rows.specs.declared.predicates.PredNode.{PredNode}
use Rattle.nested_itp.specs.NestedPredicates.Positions.{Position}
use Rattle.nested_itp.specs.NestedPredicates.Sums.{Branch}
use Rattle.nested_itp.specs.NestedPredicates.Tables.{row_of_node, table_along}
use Rattle.nested_itp.specs.NestedRefutations.Refutations.{TreeSpot, low_side, high_side}
use Rattle.nested_itp.specs.TripleWalks.Spots.{HasNoCases, Everywhere, listed, node_of, second_of, seconds_of}

slice_at : {X : Type 0} (front : List X) (x : X) (rest : List X) (n : ℕ) → length front ≡ n → slice_get (front ++ x ∷ rest) n ≡ Some x
slice_at [] x rest zero e = refl
slice_at [] x rest (suc n) e = absurd (omega (arith, e))
slice_at (y ∷ front) x rest zero e = absurd (omega (arith, e))
slice_at (y ∷ front) x rest (suc n) e = slice_at front x rest n (omega (arith, e))

pub listed_long : {X : Type 0} (f : TreeSpot → X) (columns : List ℕ) (n : ℕ) (b : Branch) (t : Tree) → HasNoCases t → length (listed f columns n b t) ≡ length (prefix_of t)
listed_long f columns n b (leaf_tree parts) h = refl
listed_long f columns n b (cut_tree c k t u) h =
    let low : TreeSpot = low_side columns n b c k t in
    let high : TreeSpot = high_side columns n b c k t u in
    let x : List _ = listed f columns low.node low.branch t in
    let y : List _ = listed f columns high.node high.branch u in
    let i = listed_long f columns low.node low.branch t h.0 in
    let j = listed_long f columns high.node high.branch u h.1 in
    let p = length-append x y in
    let q = length-append (prefix_of t) (prefix_of u) in
    ap suc (p ∙ (let e : length x + length y ≡ length (prefix_of t) + length (prefix_of u) = omega (arith, i, j) in e) ∙ sym q)
listed_long f columns n b (cases_tree ts) h = absurd h

pub everywhere_listed : {X : Type 0} (f : TreeSpot → X) (columns : List ℕ) (all front rest : List X) (n : ℕ) (b : Branch) (t : Tree) → HasNoCases t →
    all ≡ front ++ (listed f columns n b t ++ rest) → length front ≡ n → Everywhere (λ s. slice_get all s.node ≡ Some (f s)) columns n b t
everywhere_listed f columns all front rest n b (leaf_tree parts) h e l =
    ap (λ (xs : List _). slice_get xs n) e ∙ slice_at front (f (record { node = n; branch = b; tree = leaf_tree parts })) rest n l
everywhere_listed f columns all front rest n b (cut_tree c k t u) h e l =
    let s : TreeSpot = record { node = n; branch = b; tree = cut_tree c k t u } in
    let low : TreeSpot = low_side columns n b c k t in
    let high : TreeSpot = high_side columns n b c k t u in
    let x : List _ = listed f columns low.node low.branch t in
    let y : List _ = listed f columns high.node high.branch u in
    let first : List _ = front ++ f s ∷ [] in
    let second : List _ = first ++ x in
    let i = listed_long f columns low.node low.branch t h.0 in
    let p : length first ≡ length front + 1 = length-append front (f s ∷ []) in
    let q : length second ≡ length first + length x = length-append first x in
    let whole : front ++ (f s ∷ ((x ++ y) ++ rest)) ≡ first ++ (x ++ (y ++ rest)) =
    ap (λ (xs : List _). front ++ (f s ∷ xs)) (append_assoc x y rest) ∙ sym (append_assoc front (f s ∷ []) (x ++ (y ++ rest))) in (
      ap (λ (xs : List _). slice_get xs n) e ∙ slice_at front (f s) ((x ++ y) ++ rest) n l,
      everywhere_listed f columns all first (y ++ rest) low.node low.branch t h.0 (e ∙ whole) (omega (arith, p, l)),
      everywhere_listed f columns all second rest high.node high.branch u h.1 (e ∙ whole ∙ sym (append_assoc first x (y ++ rest))) (omega (arith, p, q, l, i)),
    )
everywhere_listed f columns all front rest n b (cases_tree ts) h e l = absurd h

-- ---- the lists

pub prefix_listed : (columns : List ℕ) (n : ℕ) (b : Branch) (t : Tree) → HasNoCases t → prefix_of t ≡ listed (λ s. node_of s.tree) columns n b t
prefix_listed columns n b (leaf_tree parts) h = refl
prefix_listed columns n b (cut_tree c k t u) h =
    let low : TreeSpot = low_side columns n b c k t in
    let high : TreeSpot = high_side columns n b c k t u in
    let x : List PlainNode = listed (λ s. node_of s.tree) columns low.node low.branch t in
    ap (λ (l : List PlainNode). cut c k ∷ (l ++ prefix_of u)) (prefix_listed columns low.node low.branch t h.0) ∙
    ap (λ (l : List PlainNode). cut c k ∷ (x ++ l)) (prefix_listed columns high.node high.branch u h.1)
prefix_listed columns n b (cases_tree ts) h = absurd h

pub seconds_listed : (columns : List ℕ) (n : ℕ) (b : Branch) (t : Tree) → HasNoCases t → seconds_of n t ≡ listed (λ s. second_of s.node s.tree) columns n b t
seconds_listed columns n b (leaf_tree parts) h = refl
seconds_listed columns n b (cut_tree c k t u) h =
    let low : TreeSpot = low_side columns n b c k t in
    let high : TreeSpot = high_side columns n b c k t u in
    let x : List (Option ℕ) = listed (λ s. second_of s.node s.tree) columns low.node low.branch t in
    ap (λ (l : List (Option ℕ)). Some high.node ∷ (l ++ seconds_of high.node u)) (seconds_listed columns low.node low.branch t h.0) ∙
    ap (λ (l : List (Option ℕ)). Some high.node ∷ (x ++ l)) (seconds_listed columns high.node high.branch u h.1)
seconds_listed columns n b (cases_tree ts) h = absurd h

pub table_listed : (columns : List ℕ) (qs : List Position) (n : ℕ) (b : Branch) (t : Tree) (ns : List PlainNode) (bs : List Branch) → HasNoCases t →
    table_along columns qs (prefix_of t ++ ns) (b ∷ bs) ≡ listed (λ s. row_of_node columns qs (node_of s.tree) s.branch) columns n b t ++ table_along columns qs ns bs
table_listed columns qs n b (leaf_tree parts) ns bs h = refl
table_listed columns qs n b (cut_tree c k t u) ns bs h =
    let row = λ (s : TreeSpot). row_of_node columns qs (node_of s.tree) s.branch in
    let low : TreeSpot = low_side columns n b c k t in
    let high : TreeSpot = high_side columns n b c k t u in
    let x : List (List PredNode) = listed row columns low.node low.branch t in
    let y : List (List PredNode) = listed row columns high.node high.branch u in
    let here : List PredNode = row_of_node columns qs (cut c k) b in
    ap (λ (l : List (List PredNode)). here ∷ l)
    (ap (λ (l : List PlainNode). table_along columns qs l (low.branch ∷ high.branch ∷ bs)) (append_assoc (prefix_of t) (prefix_of u) ns) ∙
    table_listed columns qs low.node low.branch t (prefix_of u ++ ns) (high.branch ∷ bs) h.0 ∙
    ap (λ (l : List (List PredNode)). x ++ l) (table_listed columns qs high.node high.branch u ns bs h.1) ∙ sym (append_assoc x y (table_along columns qs ns bs)))
table_listed columns qs n b (cases_tree ts) ns bs h = absurd h

pub everywhere_both : (P Q : TreeSpot → Type 0) (columns : List ℕ) (n : ℕ) (b : Branch) (t : Tree) → Everywhere P columns n b t → Everywhere Q columns n b t → Everywhere (λ s. P s × Q s) columns n b t
everywhere_both P Q columns n b (leaf_tree parts) p q = (p, q)
everywhere_both P Q columns n b (cut_tree c k t u) p q =
    let low : TreeSpot = low_side columns n b c k t in
    let high : TreeSpot = high_side columns n b c k t u in (
      (p.0, q.0),
      everywhere_both P Q columns low.node low.branch t p.1 q.1,
      everywhere_both P Q columns high.node high.branch u p.2 q.2,
    )
everywhere_both P Q columns n b (cases_tree ts) p q = absurd p
