-- The rows that a predicate gives, and what is exposed of it: an atom for each row, at a leaf.
use Rattle.std.proofs.Common.{◌≡◌, ◌∙◌, ℕ, suc, ℤ, Bool, true, false, List, [], ◌∷◌, ◌++◌, length, map, refl, sym, ap, subst, Option, None, Some}
use Rattle.std.specs.Prelude.{not, if◌then◌else◌}
use Rattle.std.specs.List.{AllByRecursion}
use Rattle.std.proofs.lemmas.List.{append-nil}
use Rattle.lin_rows.specs.declared.types.RowKind.TheVariants.{Le}
use Rattle.lin_rows.specs.Rows.{LinearRow}
use Rattle.lin_rows.specs.Negating.{negated}
use Rattle.farkas_check.specs.Refutes.{at_most, above}
use Rattle.farkas_check.specs.Trees.{Tree, leaf_tree, cut_tree, cases_tree}
use Rattle.triple_rows.specs.Predicates.{Formula, truth, atom, and_of, or_of}
use Rattle.triple_rows.specs.Systems.{PlainSystem, plain_system, both_systems, only_rows, said, denied}
use Rattle.letter_acts.specs.FrameRows.Rows.{renamed}
use Rattle.nested_itp.specs.NestedPredicates.Stamps.{column_stamp}
use Rattle.nested_itp.specs.NestedPredicates.Positions.{is_counted}
use Rattle.nested_itp.specs.NestedPredicates.Sums.{Branch, with_cut, terms_from, inequality, coefficients_at, bound_at}
use Rattle.nested_itp.specs.NestedPredicates.Joins.{joined_formulas, joined_at, and_before, and_joined, or_before, or_joined, simplified}
use Rattle.nested_itp.specs.NestedPredicates.Simplifying.{is_same}
use Rattle.nested_itp.specs.NestedRefutations.Refutations.{Claim, TreeSpot, low_side, high_side, truth_in, formula_at, Asked, one_part, both_parts, some_part, each_asked, some_asked, asked_at, Exposed, atom_exposed, parts_exposed, unless_truth, exposed, rows_in}
use Rattle.nested_itp.proofs.NestedRefutations.TruthLaws.{decided, join_simplified, AskedOpen, asked_open}
use Rattle.nested_itp.proofs.NestedRefutations.SpotLaws.{spot, StandsIn, IsUncased, sides_stand}
use Rattle.nested_itp.proofs.NestedRefutations.HeldLaws.{truth_at, truth_of_cut}

-- both lists have as many, and each two in one place are so
abbrev pub AllPairs : {X Y : Type 0} → (X → Y → Type 0) → List X → List Y → Type 0
AllPairs P [] [] = Unit {0}
AllPairs P [] (y ∷ ys) = ⊥
AllPairs P (x ∷ xs) [] = ⊥
AllPairs P (x ∷ xs) (y ∷ ys) = P x y × AllPairs P xs ys

pub pairs_joined : {X Y : Type 0} (P : X → Y → Type 0) (xs : List X) (ys : List Y) (us : List X) (vs : List Y) → AllPairs P xs ys → AllPairs P us vs → AllPairs P (xs ++ us) (ys ++ vs)
pairs_joined P [] [] us vs h k = k
pairs_joined P [] (y ∷ ys) us vs h k = absurd h
pairs_joined P (x ∷ xs) [] us vs h k = absurd h
pairs_joined P (x ∷ xs) (y ∷ ys) us vs h k = (h.0, pairs_joined P xs ys us vs h.1 k)

pub pairs_weaker : {X Y : Type 0} (P Q : X → Y → Type 0) → ((x : X) (y : Y) → P x y → Q x y) → (xs : List X) (ys : List Y) → AllPairs P xs ys → AllPairs Q xs ys
pairs_weaker P Q f [] [] h = tt
pairs_weaker P Q f [] (y ∷ ys) h = absurd h
pairs_weaker P Q f (x ∷ xs) [] h = absurd h
pairs_weaker P Q f (x ∷ xs) (y ∷ ys) h = (f x y h.0, pairs_weaker P Q f xs ys h.1)

pub pairs_counted : {X Y : Type 0} (P : X → Y → Type 0) (xs : List X) (ys : List Y) → AllPairs P xs ys → length xs ≡ length ys
pairs_counted P [] [] h = refl
pairs_counted P [] (y ∷ ys) h = absurd h
pairs_counted P (x ∷ xs) [] h = absurd h
pairs_counted P (x ∷ xs) (y ∷ ys) h = ap suc (pairs_counted P xs ys h.1)

pub pairs_mapped : {X Y U V : Type 0} (P : X → Y → Type 0) (Q : U → V → Type 0) (f : X → U) (g : Y → V) → ((x : X) (y : Y) → P x y → Q (f x) (g y)) →
    (xs : List X) (ys : List Y) → AllPairs P xs ys → AllPairs Q (map f xs) (map g ys)
pairs_mapped P Q f g h [] [] k = tt
pairs_mapped P Q f g h [] (y ∷ ys) k = absurd k
pairs_mapped P Q f g h (x ∷ xs) [] k = absurd k
pairs_mapped P Q f g h (x ∷ xs) (y ∷ ys) k = (h x y k.0, pairs_mapped P Q f g h xs ys k.1)

-- ---- what is left of a cut

-- that it holds, or that it does not
abbrev pub says : Bool → (ℕ → ℕ) → Formula → PlainSystem
says is_denied to f = if is_denied then denied to f else said to f

abbrev pub join : Bool → Formula → Formula → Formula
join c a b = if c then or_joined a b else and_joined a b

pub is_truth : (f : Formula) (v : Bool) → truth_in f ≡ Some v → f ≡ truth v
is_truth (truth w) v e = ap truth (same_some w v e)
  where
    same_some : (x y : Bool) → Some x ≡ Some y → x ≡ y
    same_some x y e = cc
is_truth (atom r) v e = absurd (cc)
is_truth (and_of fs) v e = absurd (cc)
is_truth (or_of fs) v e = absurd (cc)

join_apart : (c : Bool) (a b : Formula) → truth_in a ≡ None → join c a b ≡ (if c then or_before a b else and_before a b)
join_apart true (truth v) b e = absurd (cc)
join_apart true (atom r) b e = refl
join_apart true (and_of fs) b e = refl
join_apart true (or_of fs) b e = refl
join_apart false (truth v) b e = absurd (cc)
join_apart false (atom r) b e = refl
join_apart false (and_of fs) b e = refl
join_apart false (or_of fs) b e = refl

join_both : (c : Bool) (a b : Formula) → truth_in b ≡ None → (if c then or_before a b else and_before a b) ≡ joined_formulas c a b
join_both true a (truth v) e = absurd (cc)
join_both true a (atom r) e = refl
join_both true a (and_of fs) e = refl
join_both true a (or_of fs) e = refl
join_both false a (truth v) e = absurd (cc)
join_both false a (atom r) e = refl
join_both false a (and_of fs) e = refl
join_both false a (or_of fs) e = refl

-- the part that is no truth value, or both
abbrev pub open_join : Bool → Option Bool → Option Bool → Formula → Formula → Formula
open_join c (Some v) q a b = b
open_join c None (Some v) a b = a
open_join c None None a b = joined_formulas c a b

pub join_open : (c : Bool) (p q : Option Bool) (a b : Formula) → truth_in a ≡ p → truth_in b ≡ q → decided c p q ≡ None → join c a b ≡ open_join c p q a b
join_open true (Some true) q a b e f d = absurd (cc)
join_open true (Some false) q a b e f d = ap (λ (x : Formula). or_joined x b) (is_truth a false e)
join_open false (Some true) q a b e f d = ap (λ (x : Formula). and_joined x b) (is_truth a true e)
join_open false (Some false) q a b e f d = absurd (cc)
join_open true None (Some true) a b e f d = absurd (cc)
join_open true None (Some false) a b e f d = join_apart true a b e ∙ ap (λ (x : Formula). or_before a x) (is_truth b false f)
join_open false None (Some true) a b e f d = join_apart false a b e ∙ ap (λ (x : Formula). and_before a x) (is_truth b true f)
join_open false None (Some false) a b e f d = absurd (cc)
join_open c None None a b e f d = join_apart c a b e ∙ join_both c a b f

-- ---- its rows

-- those of the parts that are asked
abbrev pub asked_rows : Asked → List LinearRow → List LinearRow → List LinearRow
asked_rows (one_part false) xs ys = xs
asked_rows (one_part true) xs ys = ys
asked_rows both_parts xs ys = xs ++ ys
asked_rows some_part xs ys = []

abbrev pub asked_by : Bool → Bool → Option Bool → Option Bool → Asked
asked_by counted is_denied p q = if is_same counted is_denied then each_asked p q else some_asked (not is_denied) p q

rows_of_both : (x y : PlainSystem) → rows_in (both_systems x (both_systems y (only_rows []))) ≡ rows_in x ++ rows_in y
rows_of_both (plain_system xs gs) (plain_system ys hs) = ap (λ (l : List LinearRow). xs ++ l) (append-nil ys)

joined_rows : (c d : Bool) (to : ℕ → ℕ) (a b : Formula) → rows_in (says d to (joined_formulas c a b)) ≡ asked_rows (asked_by c d None None) (rows_in (says d to a)) (rows_in (says d to b))
joined_rows true true to a b = rows_of_both (denied to a) (denied to b)
joined_rows true false to a b = refl
joined_rows false true to a b = refl
joined_rows false false to a b = rows_of_both (said to a) (said to b)

open_rows : (c d : Bool) (to : ℕ → ℕ) (p q : Option Bool) (a b : Formula) → decided c p q ≡ None →
    rows_in (says d to (open_join c p q a b)) ≡ asked_rows (asked_by c d p q) (rows_in (says d to a)) (rows_in (says d to b))
open_rows true d to (Some true) q a b e = absurd (cc)
open_rows true true to (Some false) q a b e = refl
open_rows true false to (Some false) q a b e = refl
open_rows false true to (Some true) q a b e = refl
open_rows false false to (Some true) q a b e = refl
open_rows false d to (Some false) q a b e = absurd (cc)
open_rows true d to None (Some true) a b e = absurd (cc)
open_rows true true to None (Some false) a b e = refl
open_rows true false to None (Some false) a b e = refl
open_rows false true to None (Some true) a b e = refl
open_rows false false to None (Some true) a b e = refl
open_rows false d to None (Some false) a b e = absurd (cc)
open_rows c d to None None a b e = joined_rows c d to a b

-- the rows of what is left of a cut are those of the parts that are asked
pub cut_rows : (c d : Bool) (to : ℕ → ℕ) (a b : Formula) → decided c (truth_in a) (truth_in b) ≡ None →
    rows_in (says d to (join c a b)) ≡ asked_rows (asked_by c d (truth_in a) (truth_in b)) (rows_in (says d to a)) (rows_in (says d to b))
cut_rows c d to a b e = ap (λ (f : Formula). rows_in (says d to f)) (join_open c (truth_in a) (truth_in b) a b refl refl e) ∙ open_rows c d to (truth_in a) (truth_in b) a b e

-- ---- rows of atoms

-- the sum of a leaf at a claim's position, over the system's columns: that it holds, or that it does not
abbrev pub claim_row : Claim → Branch → List (ℕ × ℤ) → LinearRow
claim_row c b parts =
    let sum = renamed c.column (record { terms = terms_from 0 (coefficients_at b parts c.position); kind = Le; bound = bound_at b parts c.position }) in
    if c.is_denied then negated sum else sum

-- the row is that of a claim at the leaf with this number
pub record IsAtomRow (columns : List ℕ) (root : TreeSpot) (c : Claim) (n : ℕ) (row : LinearRow) : Type 0 where
  pub branch : Branch
  pub parts : List (ℕ × ℤ)
  pub stands : StandsIn columns root.node root.branch root.tree (spot n branch (leaf_tree parts))
  pub row_is : row ≡ claim_row c branch parts

one_row : (d : Bool) (to : ℕ → ℕ) (ts : List (ℕ × ℤ)) (bound : ℤ) → truth_in (simplified (inequality ts bound)) ≡ None →
    rows_in (says d to (simplified (inequality ts bound))) ≡
    (let sum = renamed to (record { terms = ts; kind = Le; bound = bound }) in if d then negated sum else sum) ∷ []
one_row d to [] bound e = absurd (cc)
one_row true to (t ∷ ts) bound e = refl
one_row false to (t ∷ ts) bound e = refl

leaf_pairs : (columns : List ℕ) (root : TreeSpot) (c : Claim) (n : ℕ) (o : Option Bool) (row : LinearRow) → o ≡ None → IsAtomRow columns root c n row →
    AllPairs (IsAtomRow columns root c) (atom_exposed n o).leaves (row ∷ [])
leaf_pairs columns root c n None row e h = (h, tt)
leaf_pairs columns root c n (Some v) row e h = absurd (cc)

parts_pairs : (P : ℕ → LinearRow → Type 0) (a : Asked) (s : TreeSpot) (x y : Exposed) (xs ys : List LinearRow) (p q : Option Bool) → AskedOpen a p q →
    (p ≡ None → AllPairs P x.leaves xs) → (q ≡ None → AllPairs P y.leaves ys) → AllPairs P (parts_exposed a s x y).leaves (asked_rows a xs ys)
parts_pairs P (one_part false) s x y xs ys p q o f g = f o
parts_pairs P (one_part true) s x y xs ys p q o f g = g o
parts_pairs P both_parts s x y xs ys p q o f g = pairs_joined P x.leaves xs y.leaves ys (f o.0) (g o.1)
parts_pairs P some_part s x y xs ys p q o f g = tt

pub unless_open : (o : Option Bool) (x : Exposed) → o ≡ None → unless_truth o x ≡ x
unless_open None x e = refl
unless_open (Some v) x e = absurd (cc)

-- what is exposed of a claim that is no truth value has a row each, that of its atom
pub exposed_rows : (columns : List ℕ) (root : TreeSpot) → IsUncased root.tree → (c : Claim) (n : ℕ) (b : Branch) (t : Tree) → StandsIn columns root.node root.branch root.tree (spot n b t) →
    truth_at columns c b t ≡ None → AllPairs (IsAtomRow columns root c) (exposed columns c n b t).leaves (rows_in (says c.is_denied c.column (formula_at columns c b t)))
exposed_rows columns root un c n b (leaf_tree parts) st e =
    subst (AllPairs (IsAtomRow columns root c) (atom_exposed n (truth_at columns c b (leaf_tree parts))).leaves)
    (sym (one_row c.is_denied c.column (terms_from 0 (coefficients_at b parts c.position)) (bound_at b parts c.position) e))
    (leaf_pairs columns root c n (truth_at columns c b (leaf_tree parts)) (claim_row c b parts) e (record { branch = b; parts = parts; stands = st; row_is = refl }))
exposed_rows columns root un c n b (cut_tree col k t u) st e =
    let low : TreeSpot = low_side columns n b col k t in
    let high : TreeSpot = high_side columns n b col k t u in
    let stamp : ℕ = column_stamp columns col in
    let x : Formula = formula_at columns c low.branch t in
    let y : Formula = formula_at columns c high.branch u in
    let counted : Bool = is_counted c.position stamp in
    let ss = sides_stand columns root.node root.branch root.tree un n b col k t u st in
    let d : decided counted (truth_in x) (truth_in y) ≡ None = sym (truth_of_cut columns c b col k t u) ∙ e in
    let rows : rows_in (says c.is_denied c.column (formula_at columns c b (cut_tree col k t u))) ≡
    asked_rows (asked_by counted c.is_denied (truth_in x) (truth_in y)) (rows_in (says c.is_denied c.column x)) (rows_in (says c.is_denied c.column y)) =
    ap (λ (f : Formula). rows_in (says c.is_denied c.column f))
    (join_simplified counted (joined_at columns c.position low.branch t) (joined_at columns c.position high.branch u)) ∙
    cut_rows counted c.is_denied c.column x y d in
    let there : Exposed = parts_exposed (asked_at c stamp (truth_in x) (truth_in y)) (spot n b (cut_tree col k t u)) (exposed columns c low.node low.branch t) (exposed columns c high.node high.branch u) in
    let leaves : (exposed columns c n b (cut_tree col k t u)).leaves ≡ there.leaves =
    ap (λ (z : Exposed). z.leaves) (unless_open (truth_at columns c b (cut_tree col k t u)) there e) in
    subst (λ (l : List ℕ). AllPairs (IsAtomRow columns root c) l (rows_in (says c.is_denied c.column (formula_at columns c b (cut_tree col k t u))))) (sym leaves)
    (subst (AllPairs (IsAtomRow columns root c) there.leaves) (sym rows)
    (parts_pairs (IsAtomRow columns root c) (asked_at c stamp (truth_in x) (truth_in y)) (spot n b (cut_tree col k t u)) (exposed columns c low.node low.branch t)
    (exposed columns c high.node high.branch u) (rows_in (says c.is_denied c.column x)) (rows_in (says c.is_denied c.column y)) (truth_in x) (truth_in y)
    (asked_open counted c.is_denied (truth_in x) (truth_in y) d)
    (exposed_rows columns root un c low.node low.branch t ss.low_stands) (exposed_rows columns root un c high.node high.branch u ss.high_stands)))
exposed_rows columns root un c n b (cases_tree ts) st e = absurd (cc)

-- ---- groups

-- a cut of which each part is left, no truth value
pub record IsOpenCut (columns : List ℕ) (root : TreeSpot) (c : Claim) (s : TreeSpot) : Type 0 where
  pub column : ℕ
  pub bound : ℤ
  pub low : Tree
  pub high : Tree
  pub tree : s.tree ≡ cut_tree column bound low high
  pub stands : StandsIn columns root.node root.branch root.tree (spot s.node s.branch (cut_tree column bound low high))
  pub low_open : truth_at columns c (with_cut s.branch (column_stamp columns column) (at_most column bound)) low ≡ None
  pub high_open : truth_at columns c (with_cut s.branch (column_stamp columns column) (above column bound)) high ≡ None

all_joined : {X : Type 0} (P : X → Type 0) (xs ys : List X) → AllByRecursion P xs → AllByRecursion P ys → AllByRecursion P (xs ++ ys)
all_joined P [] ys h k = k
all_joined P (x ∷ xs) ys h k = (h.0, all_joined P xs ys h.1 k)

parts_groups : (P : TreeSpot → Type 0) (a : Asked) (s : TreeSpot) (x y : Exposed) (p q : Option Bool) → AskedOpen a p q → (p ≡ None → q ≡ None → P s) →
    (p ≡ None → AllByRecursion P x.groups) → (q ≡ None → AllByRecursion P y.groups) → AllByRecursion P (parts_exposed a s x y).groups
parts_groups P (one_part false) s x y p q o h f g = f o
parts_groups P (one_part true) s x y p q o h f g = g o
parts_groups P both_parts s x y p q o h f g = all_joined P x.groups y.groups (f o.0) (g o.1)
parts_groups P some_part s x y p q o h f g = (h o.0 o.1, tt)

atom_groups : (P : TreeSpot → Type 0) (n : ℕ) (o : Option Bool) → AllByRecursion P (atom_exposed n o).groups
atom_groups P n None = tt
atom_groups P n (Some v) = tt

-- each group that is exposed of a claim is an open cut
pub exposed_groups : (columns : List ℕ) (root : TreeSpot) → IsUncased root.tree → (c : Claim) (n : ℕ) (b : Branch) (t : Tree) → StandsIn columns root.node root.branch root.tree (spot n b t) →
    truth_at columns c b t ≡ None → AllByRecursion (IsOpenCut columns root c) (exposed columns c n b t).groups
exposed_groups columns root un c n b (leaf_tree parts) st e = atom_groups (IsOpenCut columns root c) n (truth_at columns c b (leaf_tree parts))
exposed_groups columns root un c n b (cut_tree col k t u) st e =
    let low : TreeSpot = low_side columns n b col k t in
    let high : TreeSpot = high_side columns n b col k t u in
    let stamp : ℕ = column_stamp columns col in
    let x : Option Bool = truth_at columns c low.branch t in
    let y : Option Bool = truth_at columns c high.branch u in
    let counted : Bool = is_counted c.position stamp in
    let ss = sides_stand columns root.node root.branch root.tree un n b col k t u st in
    let d : decided counted x y ≡ None = sym (truth_of_cut columns c b col k t u) ∙ e in
    let there : Exposed = parts_exposed (asked_at c stamp x y) (spot n b (cut_tree col k t u)) (exposed columns c low.node low.branch t) (exposed columns c high.node high.branch u) in
    subst (λ (z : Exposed). AllByRecursion (IsOpenCut columns root c) z.groups) (sym (unless_open (truth_at columns c b (cut_tree col k t u)) there e))
    (parts_groups (IsOpenCut columns root c) (asked_at c stamp x y) (spot n b (cut_tree col k t u)) (exposed columns c low.node low.branch t) (exposed columns c high.node high.branch u) x y
    (asked_open counted c.is_denied x y d)
    (λ p q. record { column = col; bound = k; low = t; high = u; tree = refl; stands = st; low_open = p; high_open = q })
    (exposed_groups columns root un c low.node low.branch t ss.low_stands) (exposed_groups columns root un c high.node high.branch u ss.high_stands))
exposed_groups columns root un c n b (cases_tree ts) st e = absurd (cc)
