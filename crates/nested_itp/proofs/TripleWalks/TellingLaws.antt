-- What is read of the word's tree, and of the claims on it, from a node on and from the nodes below it on.
use Rattle.std.proofs.Common.{◌≡◌, ◌∙◌, ℕ, zero, suc, ℤ, Bool, true, false, List, [], ◌∷◌, ◌++◌, map, refl, sym, ap, subst, Option, None, Some}
use Rattle.std.specs.Prelude.{unwrap_or, slice_get, if◌then◌else◌}
use Rattle.std.specs.Global.{Vec}
use Rattle.std.specs.List.{AllByRecursion}
use Rattle.std.proofs.lemmas.List.{append-nil}
use Rattle.farkas_check.specs.Nodes.{PlainNode}
use Rattle.farkas_check.specs.Trees.{Tree, leaf_tree, cut_tree, cases_tree}
use Rattle.triple_rows.specs.declared.predicates.PredNode.{PredNode}
use Rattle.triple_rows.specs.declared.predicates.PredNode.TheVariants.{And, Or}
use Rattle.nested_itp.specs.NestedPredicates.Stamps.{column_stamp}
use Rattle.nested_itp.specs.NestedPredicates.Positions.{Position, is_counted}
use Rattle.nested_itp.specs.NestedPredicates.Sums.{Branch}
use Rattle.nested_itp.specs.NestedPredicates.Layouts.{leaf_node}
use Rattle.nested_itp.specs.NestedPredicates.Tables.{cut_node_at, row_of_node}
use Rattle.nested_itp.specs.NestedRefutations.Refutations.{TreeSpot, Claim, low_side, high_side, truth_in, formula_at, Asked, one_part, both_parts, some_part, asked_at, Exposed, parts_exposed, unless_truth, atom_exposed, exposed}
use Rattle.nested_itp.specs.TripleWalks.Spots.{HasNoCases, Everywhere, listed, node_of, second_of, IsTree, in_row, node_in, is_counted_in, with_second, sides_in}
use Rattle.nested_itp.specs.TripleWalks.Claims.{IsClaim, AreClaims, left_of, asked_where, asked_in}
use Rattle.nested_itp.specs.TripleWalks.Telling.{node_at, IsNode, Tells, AllTell, IsKnown}
use Rattle.nested_itp.proofs.TripleWalks.LeftLaws.{got_mapped}
use Rattle.nested_itp.proofs.TripleWalks.ListedLaws.{everywhere_listed, prefix_listed, seconds_listed, everywhere_both}
use Rattle.nested_itp.specs.declared.triple_walks.trees.Tree as code_trees
use Rattle.nested_itp.specs.declared.triple_walks.claims.Claim as code

abbrev pub spot : ℕ → Branch → Tree → TreeSpot
spot n b t = record { node = n; branch = b; tree = t }

-- ---- of the root

pub everywhere_map : (P Q : TreeSpot → Type 0) → ((s : TreeSpot) → P s → Q s) → (columns : List ℕ) (n : ℕ) (b : Branch) (t : Tree) → Everywhere P columns n b t → Everywhere Q columns n b t
everywhere_map P Q f columns n b (leaf_tree parts) h = f (record { node = n; branch = b; tree = leaf_tree parts }) h
everywhere_map P Q f columns n b (cut_tree c k t u) h =
    let low : TreeSpot = low_side columns n b c k t in
    let high : TreeSpot = high_side columns n b c k t u in (
      f (record { node = n; branch = b; tree = cut_tree c k t u }) h.0,
      everywhere_map P Q f columns low.node low.branch t h.1,
      everywhere_map P Q f columns high.node high.branch u h.2,
    )
everywhere_map P Q f columns n b (cases_tree ts) h = absurd h

listed_whole : {X : Type 0} (f : TreeSpot → X) (columns : List ℕ) (all : List X) (b : Branch) (t : Tree) → HasNoCases t → all ≡ listed f columns 0 b t →
    Everywhere (λ s. slice_get all s.node ≡ Some (f s)) columns 0 b t
listed_whole f columns all b t h e = everywhere_listed f columns all [] [] 0 b t h (e ∙ sym (append-nil (listed f columns 0 b t))) refl

in_mapped : (rows : List (Vec PredNode)) (node p : ℕ) (row : List PredNode) → slice_get (map (λ r. r.items) rows) node ≡ Some row → in_row (slice_get rows node) p ≡ slice_get row p
in_mapped [] node p row e = absurd (cc)
in_mapped (r ∷ rows) zero p row e = ap (λ (l : List PredNode). slice_get l p) (let k : r.items ≡ row = cc in k)
in_mapped (r ∷ rows) (suc node) p row e = in_mapped rows node p row e

row_at : (columns : List ℕ) (qs : List Position) (p : ℕ) (q : Position) → slice_get qs p ≡ Some q → (b : Branch) (t : Tree) → HasNoCases t →
    slice_get (row_of_node columns qs (node_of t) b) p ≡ Some (node_at columns q b t)
row_at columns qs p q e b (leaf_tree parts) h = got_mapped (leaf_node b parts) qs p q e
row_at columns qs p q e b (cut_tree c k t u) h = got_mapped (cut_node_at (column_stamp columns c)) qs p q e
row_at columns qs p q e b (cases_tree ts) h = absurd h

-- no node has cases
uncased : (columns : List ℕ) (n : ℕ) (b : Branch) (t : Tree) → HasNoCases t → Everywhere (λ s. HasNoCases s.tree) columns n b t
uncased columns n b (leaf_tree parts) h = tt
uncased columns n b (cut_tree c k t u) h =
    let low : TreeSpot = low_side columns n b c k t in
    let high : TreeSpot = high_side columns n b c k t u in (
      h,
      uncased columns low.node low.branch t h.0,
      uncased columns high.node high.branch u h.1,
    )
uncased columns n b (cases_tree ts) h = absurd h

abbrev HasSecond : code_trees.Tree → TreeSpot → Type 0
HasSecond x s = slice_get x.seconds.items s.node ≡ Some (second_of s.node s.tree)

abbrev HasRow : List ℕ → List Position → code_trees.Tree → TreeSpot → Type 0
HasRow columns qs x s = slice_get (map (λ r. r.items) x.table.items) s.node ≡ Some (row_of_node columns qs (node_of s.tree) s.branch)

abbrev HasLeft : List ℕ → Claim → List (Option Bool) → TreeSpot → Type 0
HasLeft columns c lefts s = slice_get lefts s.node ≡ Some (truth_in (formula_at columns c s.branch s.tree))

abbrev IsUncased : TreeSpot → Type 0
IsUncased s = HasNoCases s.tree

pub root_tells : (columns : List ℕ) (qs : List Position) (b : Branch) (t : Tree) (nodes : List PlainNode) (x : code_trees.Tree) (c : Claim) (y : code.Claim) → IsTree columns qs b t nodes x →
    IsClaim columns qs b t c y → Tells columns x (record { node = 0; branch = b; tree = t }) c y
root_tells columns qs b t nodes x c y h k =
    let second = λ (s : TreeSpot). second_of s.node s.tree in
    let row = λ (s : TreeSpot). row_of_node columns qs (node_of s.tree) s.branch in
    let left = λ (s : TreeSpot). truth_in (formula_at columns c s.branch s.tree) in
    let a : Everywhere (HasSecond x) columns 0 b t = listed_whole second columns x.seconds.items b t h.uncased (h.seconds ∙ seconds_listed columns 0 b t h.uncased) in
    let r : Everywhere (HasRow columns qs x) columns 0 b t = listed_whole row columns (map (λ r. r.items) x.table.items) b t h.uncased h.rows in
    let l : Everywhere (HasLeft columns c y.left.items) columns 0 b t = listed_whole left columns y.left.items b t h.uncased k.lefts in
    let all = everywhere_both (HasSecond x) (λ (s : TreeSpot). HasRow columns qs x s × (HasLeft columns c y.left.items s × IsUncased s)) columns 0 b t a
    (everywhere_both (HasRow columns qs x) (λ (s : TreeSpot). HasLeft columns c y.left.items s × IsUncased s) columns 0 b t r
    (everywhere_both (HasLeft columns c y.left.items) IsUncased columns 0 b t l (uncased columns 0 b t h.uncased))) in
    record {
      is_denied = k.is_denied;
      nodes = everywhere_map (λ (s : TreeSpot). HasSecond x s × (HasRow columns qs x s × (HasLeft columns c y.left.items s × IsUncased s))) (IsNode columns x c y)
          (λ (s : TreeSpot) (f : HasSecond x s × (HasRow columns qs x s × (HasLeft columns c y.left.items s × IsUncased s))). record {
            sides = ap (λ (o : Option (Option ℕ)). with_second s.node (unwrap_or o None)) f.0;
            node = in_mapped x.table.items s.node y.position (row_of_node columns qs (node_of s.tree) s.branch) f.1.0 ∙
                row_at columns qs y.position c.position k.position s.branch s.tree f.1.1.1;
            left = ap (λ (o : Option (Option Bool)). unwrap_or o None) f.1.1.0;
          })
          columns 0 b t all;
    }

all_root : (columns : List ℕ) (qs : List Position) (b : Branch) (t : Tree) (nodes : List PlainNode) (x : code_trees.Tree) (cs : List Claim) (ys : List code.Claim) → IsTree columns qs b t nodes x →
    AreClaims columns qs b t cs ys → AllTell columns x (record { node = 0; branch = b; tree = t }) cs ys
all_root columns qs b t nodes x [] [] h k = tt
all_root columns qs b t nodes x [] (y ∷ ys) h k = absurd k
all_root columns qs b t nodes x (c ∷ cs) [] h k = absurd k
all_root columns qs b t nodes x (c ∷ cs) (y ∷ ys) h k = (root_tells columns qs b t nodes x c y h k.0, all_root columns qs b t nodes x cs ys h k.1)

pub root_known : (columns : List ℕ) (qs : List Position) (b : Branch) (t : Tree) (nodes : List PlainNode) (x : code_trees.Tree) (cs : List Claim) (ys : List code.Claim) →
    IsTree columns qs b t nodes x → AreClaims columns qs b t cs ys → IsKnown columns nodes x cs ys (record { node = 0; branch = b; tree = t })
root_known columns qs b t nodes x cs ys h k = record {
  spelled = listed_whole (λ (s : TreeSpot). node_of s.tree) columns nodes b t h.uncased (h.spelled ∙ prefix_listed columns 0 b t h.uncased);
  sides = everywhere_map (HasSecond x) (λ (s : TreeSpot). sides_in x s.node ≡ with_second s.node (second_of s.node s.tree))
      (λ (s : TreeSpot) (f : HasSecond x s). ap (λ (o : Option (Option ℕ)). with_second s.node (unwrap_or o None)) f) columns 0 b t
      (listed_whole (λ (s : TreeSpot). second_of s.node s.tree) columns x.seconds.items b t h.uncased (h.seconds ∙ seconds_listed columns 0 b t h.uncased));
  claims = all_root columns qs b t nodes x cs ys h k;
}

-- ---- of the sides of a cut

all_low : (columns : List ℕ) (x : code_trees.Tree) (cs : List Claim) (ys : List code.Claim) (n : ℕ) (b : Branch) (c : ℕ) (k : ℤ) (t u : Tree) →
    AllTell columns x (record { node = n; branch = b; tree = cut_tree c k t u }) cs ys → AllTell columns x (low_side columns n b c k t) cs ys
all_low columns x [] [] n b c k t u h = tt
all_low columns x [] (y ∷ ys) n b c k t u h = absurd h
all_low columns x (d ∷ cs) [] n b c k t u h = absurd h
all_low columns x (d ∷ cs) (y ∷ ys) n b c k t u h = (
  record { is_denied = h.0.is_denied; nodes = h.0.nodes.1 },
  all_low columns x cs ys n b c k t u h.1,
)

all_high : (columns : List ℕ) (x : code_trees.Tree) (cs : List Claim) (ys : List code.Claim) (n : ℕ) (b : Branch) (c : ℕ) (k : ℤ) (t u : Tree) →
    AllTell columns x (record { node = n; branch = b; tree = cut_tree c k t u }) cs ys → AllTell columns x (high_side columns n b c k t u) cs ys
all_high columns x [] [] n b c k t u h = tt
all_high columns x [] (y ∷ ys) n b c k t u h = absurd h
all_high columns x (d ∷ cs) [] n b c k t u h = absurd h
all_high columns x (d ∷ cs) (y ∷ ys) n b c k t u h = (
  record { is_denied = h.0.is_denied; nodes = h.0.nodes.2 },
  all_high columns x cs ys n b c k t u h.1,
)

pub known_low : (columns : List ℕ) (nodes : List PlainNode) (x : code_trees.Tree) (cs : List Claim) (ys : List code.Claim) (n : ℕ) (b : Branch) (c : ℕ) (k : ℤ) (t u : Tree) →
    IsKnown columns nodes x cs ys (record { node = n; branch = b; tree = cut_tree c k t u }) → IsKnown columns nodes x cs ys (low_side columns n b c k t)
known_low columns nodes x cs ys n b c k t u h = record { spelled = h.spelled.1; sides = h.sides.1; claims = all_low columns x cs ys n b c k t u h.claims }

pub known_high : (columns : List ℕ) (nodes : List PlainNode) (x : code_trees.Tree) (cs : List Claim) (ys : List code.Claim) (n : ℕ) (b : Branch) (c : ℕ) (k : ℤ) (t u : Tree) →
    IsKnown columns nodes x cs ys (record { node = n; branch = b; tree = cut_tree c k t u }) → IsKnown columns nodes x cs ys (high_side columns n b c k t u)
known_high columns nodes x cs ys n b c k t u h = record { spelled = h.spelled.2; sides = h.sides.2; claims = all_high columns x cs ys n b c k t u h.claims }

-- ---- of the groups that a claim gives

pub all_with : (P : TreeSpot → Type 0) (xs ys : List TreeSpot) → AllByRecursion P xs → AllByRecursion P ys → AllByRecursion P (xs ++ ys)
all_with P [] ys a b = b
all_with P (x ∷ xs) ys a b = (a.0, all_with P xs ys a.1 b)

atom_groups : (P : TreeSpot → Type 0) (n : ℕ) (o : Option Bool) → AllByRecursion P (atom_exposed n o).groups
atom_groups P n None = tt
atom_groups P n (Some v) = tt

part_groups : (P : TreeSpot → Type 0) (asked : Asked) (s : TreeSpot) (e f : Exposed) → P s → AllByRecursion P e.groups → AllByRecursion P f.groups → AllByRecursion P (parts_exposed asked s e f).groups
part_groups P (one_part false) s e f h a b = a
part_groups P (one_part true) s e f h a b = b
part_groups P both_parts s e f h a b = all_with P e.groups f.groups a b
part_groups P some_part s e f h a b = (h, tt)

left_groups : (P : TreeSpot → Type 0) (o : Option Bool) (e : Exposed) → AllByRecursion P e.groups → AllByRecursion P (unless_truth o e).groups
left_groups P None e h = h
left_groups P (Some v) e h = tt

known_exposed : (columns : List ℕ) (nodes : List PlainNode) (x : code_trees.Tree) (cs : List Claim) (ys : List code.Claim) (c : Claim) (n : ℕ) (b : Branch) (t : Tree) →
    IsKnown columns nodes x cs ys (record { node = n; branch = b; tree = t }) → AllByRecursion (IsKnown columns nodes x cs ys) (exposed columns c n b t).groups
known_exposed columns nodes x cs ys c n b (leaf_tree parts) h = atom_groups (IsKnown columns nodes x cs ys) n (truth_in (formula_at columns c b (leaf_tree parts)))
known_exposed columns nodes x cs ys c n b (cut_tree col k t u) h =
    let low : TreeSpot = low_side columns n b col k t in
    let high : TreeSpot = high_side columns n b col k t u in
    let asked : Asked = asked_at c (column_stamp columns col) (truth_in (formula_at columns c low.branch t)) (truth_in (formula_at columns c high.branch u)) in
    let e : Exposed = exposed columns c low.node low.branch t in
    let f : Exposed = exposed columns c high.node high.branch u in
    left_groups (IsKnown columns nodes x cs ys) (truth_in (formula_at columns c b (cut_tree col k t u))) (parts_exposed asked (spot n b (cut_tree col k t u)) e f)
    (part_groups (IsKnown columns nodes x cs ys) asked (spot n b (cut_tree col k t u)) e f h
    (known_exposed columns nodes x cs ys c low.node low.branch t (known_low columns nodes x cs ys n b col k t u h))
    (known_exposed columns nodes x cs ys c high.node high.branch u (known_high columns nodes x cs ys n b col k t u h)))
known_exposed columns nodes x cs ys c n b (cases_tree ts) h = tt

pub known_groups : (columns : List ℕ) (nodes : List PlainNode) (x : code_trees.Tree) (cs : List Claim) (ys : List code.Claim) (c : Claim) (s : TreeSpot) → IsKnown columns nodes x cs ys s →
    AllByRecursion (IsKnown columns nodes x cs ys) (exposed columns c s.node s.branch s.tree).groups
known_groups columns nodes x cs ys c s h = known_exposed columns nodes x cs ys c s.node s.branch s.tree (record { spelled = h.spelled; sides = h.sides; claims = h.claims })

-- the tree is a cut
pub record IsCut (t : Tree) : Type 0 where
  pub column : ℕ
  pub bound : ℤ
  pub first : Tree
  pub second : Tree
  pub is_cut : t ≡ cut_tree column bound first second

abbrev pub HasCut : TreeSpot → Type 0
HasCut s = IsCut s.tree

cut_groups : (columns : List ℕ) (c : Claim) (n : ℕ) (b : Branch) (t : Tree) → AllByRecursion HasCut (exposed columns c n b t).groups
cut_groups columns c n b (leaf_tree parts) = atom_groups HasCut n (truth_in (formula_at columns c b (leaf_tree parts)))
cut_groups columns c n b (cut_tree col k t u) =
    let low : TreeSpot = low_side columns n b col k t in
    let high : TreeSpot = high_side columns n b col k t u in
    let asked : Asked = asked_at c (column_stamp columns col) (truth_in (formula_at columns c low.branch t)) (truth_in (formula_at columns c high.branch u)) in
    let e : Exposed = exposed columns c low.node low.branch t in
    let f : Exposed = exposed columns c high.node high.branch u in
    left_groups HasCut (truth_in (formula_at columns c b (cut_tree col k t u))) (parts_exposed asked (spot n b (cut_tree col k t u)) e f)
    (part_groups HasCut asked (spot n b (cut_tree col k t u)) e f (record { column = col; bound = k; first = t; second = u; is_cut = refl })
    (cut_groups columns c low.node low.branch t)
    (cut_groups columns c high.node high.branch u))
cut_groups columns c n b (cases_tree ts) = tt

pub groups_are_cuts : (columns : List ℕ) (c : Claim) (s : TreeSpot) → AllByRecursion HasCut (exposed columns c s.node s.branch s.tree).groups
groups_are_cuts columns c s = cut_groups columns c s.node s.branch s.tree

-- ---- of one claim

pub told_at : (columns : List ℕ) (x : code_trees.Tree) (s : TreeSpot) (cs : List Claim) (ys : List code.Claim) (i : ℕ) (c : Claim) → AllTell columns x s cs ys → slice_get cs i ≡ Some c →
    (y : code.Claim) × (slice_get ys i ≡ Some y) × Tells columns x s c y
told_at columns x s [] [] i c h e = absurd (cc)
told_at columns x s [] (y ∷ ys) i c h e = absurd h
told_at columns x s (d ∷ cs) [] i c h e = absurd h
told_at columns x s (d ∷ cs) (y ∷ ys) zero c h e = (y, refl, told_as d c (let k : d ≡ c = cc in k) h.0)
  where
    told_as : (d c : Claim) → d ≡ c → Tells columns x s d y → Tells columns x s c y
    told_as d c k t = subst (λ (z : Claim). Tells columns x s z y) k t
told_at columns x s (d ∷ cs) (y ∷ ys) (suc i) c h e = told_at columns x s cs ys i c h.1 e

-- ---- of one claim at a node

pub everywhere_here : (P : TreeSpot → Type 0) (columns : List ℕ) (n : ℕ) (b : Branch) (t : Tree) → Everywhere P columns n b t → P (spot n b t)
everywhere_here P columns n b (leaf_tree parts) h = h
everywhere_here P columns n b (cut_tree c k t u) h = h.0
everywhere_here P columns n b (cases_tree ts) h = absurd h

pub tells_here : (columns : List ℕ) (x : code_trees.Tree) (s : TreeSpot) (c : Claim) (y : code.Claim) → Tells columns x s c y → IsNode columns x c y s
tells_here columns x s c y h = everywhere_here (IsNode columns x c y) columns s.node s.branch s.tree h.nodes

cut_counted : (b : Bool) → is_counted_in (Some (if b then Or 2 else And 2)) ≡ b
cut_counted true = refl
cut_counted false = refl

-- whether a cut is counted
pub counted_told : (columns : List ℕ) (x : code_trees.Tree) (n : ℕ) (b : Branch) (col : ℕ) (k : ℤ) (t u : Tree) (c : Claim) (y : code.Claim) → Tells columns x (spot n b (cut_tree col k t u)) c y →
    is_counted_in (node_in x n y.position) ≡ is_counted c.position (column_stamp columns col)
counted_told columns x n b col k t u c y h = ap is_counted_in h.nodes.0.node ∙ cut_counted (is_counted c.position (column_stamp columns col))

-- what is asked there
pub asked_told : (columns : List ℕ) (x : code_trees.Tree) (n : ℕ) (b : Branch) (col : ℕ) (k : ℤ) (t u : Tree) (c : Claim) (y : code.Claim) → Tells columns x (spot n b (cut_tree col k t u)) c y →
    asked_in x y n ((low_side columns n b col k t).node, (high_side columns n b col k t u).node) ≡
    asked_at c (column_stamp columns col) (truth_in (formula_at columns c (low_side columns n b col k t).branch t)) (truth_in (formula_at columns c (high_side columns n b col k t u).branch u))
asked_told columns x n b col k t u c y h =
    let low : TreeSpot = low_side columns n b col k t in
    let high : TreeSpot = high_side columns n b col k t u in
    let first : left_of y low.node ≡ truth_in (formula_at columns c low.branch t) = (everywhere_here (IsNode columns x c y) columns low.node low.branch t h.nodes.1).left in
    let second : left_of y high.node ≡ truth_in (formula_at columns c high.branch u) = (everywhere_here (IsNode columns x c y) columns high.node high.branch u h.nodes.2).left in
    ap (λ (z : Bool). asked_where z y.denied (left_of y low.node) (left_of y high.node)) (counted_told columns x n b col k t u c y h) ∙
    ap (λ (z : Bool). asked_where (is_counted c.position (column_stamp columns col)) z (left_of y low.node) (left_of y high.node)) h.is_denied ∙
    ap (λ (o : Option Bool). asked_where (is_counted c.position (column_stamp columns col)) c.is_denied o (left_of y high.node)) first ∙
    ap (λ (o : Option Bool). asked_where (is_counted c.position (column_stamp columns col)) c.is_denied (truth_in (formula_at columns c low.branch t)) o) second
