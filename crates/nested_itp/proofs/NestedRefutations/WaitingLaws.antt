-- The groups of a triple's system, and those of its members, are those that wait while its refutation goes along the word's tree.
use Rattle.std.proofs.Common.{◌≡◌, ◌∙◌, ℕ, suc, ◌+◌, Bool, true, false, List, [], ◌∷◌, ◌++◌, map, refl, sym, ap, arith, append-nil, Option, None, Some}
use Rattle.std.specs.Prelude.{slice_get, ℤ}
use Rattle.lin_rows.specs.declared.systems.System.{System}
use Rattle.lin_rows.specs.Systems.{rows_of, groups_of}
use Rattle.lin_rows.specs.Tightening.{tightened}
use Rattle.farkas_check.specs.Trees.{Tree, leaf_tree, cut_tree, cases_tree}
use Rattle.nwa_base.specs.declared.letters.Letter.{Letter}
use Rattle.letter_acts.specs.Invariant.{Graph}
use Rattle.triple_rows.specs.Predicates.{Formula, truth}
use Rattle.triple_rows.specs.Systems.{PlainSystem, plain_system, Groups, no_group, one_group, Members, no_member, one_member, groups_joined, both_systems, only_rows, said, denied, IsSystem, AreGroups}
use Rattle.nested_itp.specs.NestedPredicates.Stamps.{column_stamp}
use Rattle.nested_itp.specs.NestedPredicates.Positions.{is_counted}
use Rattle.nested_itp.specs.NestedPredicates.Sums.{Branch, root_of, is_not_negative, terms_from, inequality, coefficients_at, bound_at}
use Rattle.nested_itp.specs.NestedPredicates.Joins.{joined_formulas, joined_at, simplified}
use Rattle.nested_itp.specs.NestedRefutations.Refutations.{Claim, TreeSpot, low_side, high_side, truth_in, formula_at, Asked, one_part, both_parts, some_part, asked_at, Exposed, atom_exposed, parts_exposed, exposed, View, Gathered, rows_in, said_at, of_claim, side_at, member_taken}
use Rattle.nested_itp.specs.NestedRefutations.Numbers.{groups_from}
use Rattle.nested_itp.proofs.NestedRefutations.TruthLaws.{decided, join_simplified}
use Rattle.nested_itp.proofs.NestedRefutations.HeldLaws.{truth_at, truth_of_cut}
use Rattle.nested_itp.proofs.NestedRefutations.RowsLaws.{says, is_truth, join, open_join, join_open, asked_by, unless_open}
use Rattle.nested_itp.proofs.NestedRefutations.BeginLaws.{exposed_none}

-- ---- groups of systems

abbrev pub groups_in : PlainSystem → Groups
groups_in (plain_system rows groups) = groups

pub both_groups : (x y : PlainSystem) → groups_in (both_systems x y) ≡ groups_joined (groups_in x) (groups_in y)
both_groups (plain_system xs gs) (plain_system ys hs) = refl

joined_none : (gs : Groups) → groups_joined gs no_group ≡ gs
joined_none no_group = refl
joined_none (one_group ms gs) = ap (one_group ms) (joined_none gs)

pub system_rows : (p : PlainSystem) (s : System) → IsSystem p s → rows_of s ≡ rows_in p
system_rows (plain_system rows groups) s h = h.0

pub system_groups : (p : PlainSystem) (s : System) → IsSystem p s → AreGroups (groups_in p) (groups_of s)
system_groups (plain_system rows groups) s h = h.1

pub groups_beside : (a b : Groups) (gs hs : List (List System)) → AreGroups a gs → AreGroups b hs → AreGroups (groups_joined a b) (gs ++ hs)
groups_beside no_group b [] hs h k = k
groups_beside no_group b (g ∷ gs) hs h k = absurd h
groups_beside (one_group ms a) b [] hs h k = absurd h
groups_beside (one_group ms a) b (g ∷ gs) hs h k = (h.0, groups_beside a b gs hs h.1 k)

-- two members
abbrev pub two : PlainSystem → PlainSystem → Members
two a b = one_member a (one_member b no_member)

-- ---- groups that wait

-- what is said of a claim at a node
abbrev pub system_at : List ℕ → Option Claim → Option TreeSpot → PlainSystem
system_at columns None s = only_rows []
system_at columns (Some c) None = only_rows []
system_at columns (Some c) (Some s) = said_at columns c s

-- a member of a claim's group at a cut
abbrev pub member_at : List ℕ → Option Claim → TreeSpot → Bool → PlainSystem
member_at columns c s side = system_at columns c (side_at columns s.node s.branch s.tree side)

-- a claim's groups at these cuts
abbrev pub claim_groups : List ℕ → Option Claim → List TreeSpot → Groups
claim_groups columns c [] = no_group
claim_groups columns c (s ∷ ss) = one_group (two (member_at columns c s false) (member_at columns c s true)) (claim_groups columns c ss)

-- the groups that wait
abbrev pub waiting : View → List (ℕ × TreeSpot) → Groups
waiting v [] = no_group
waiting v (p ∷ ps) =
    one_group (two (member_at v.columns (slice_get v.claims p.0) p.1 false) (member_at v.columns (slice_get v.claims p.0) p.1 true)) (waiting v ps)

waiting_joined : (v : View) (xs ys : List (ℕ × TreeSpot)) → waiting v (xs ++ ys) ≡ groups_joined (waiting v xs) (waiting v ys)
waiting_joined v [] ys = refl
waiting_joined v (p ∷ xs) ys =
    ap (one_group (two (member_at v.columns (slice_get v.claims p.0) p.1 false) (member_at v.columns (slice_get v.claims p.0) p.1 true))) (waiting_joined v xs ys)

waiting_of_claim : (v : View) (i : ℕ) (ss : List TreeSpot) → waiting v (of_claim i ss) ≡ claim_groups v.columns (slice_get v.claims i) ss
waiting_of_claim v i [] = refl
waiting_of_claim v i (s ∷ ss) =
    ap (one_group (two (member_at v.columns (slice_get v.claims i) s false) (member_at v.columns (slice_get v.claims i) s true))) (waiting_of_claim v i ss)

-- ---- the groups of a claim at a node are exposed there

truth_groups : (d z : Bool) (to : ℕ → ℕ) → groups_in (says d to (truth z)) ≡ no_group
truth_groups true true to = refl
truth_groups true false to = refl
truth_groups false true to = refl
truth_groups false false to = refl

sum_groups : (d : Bool) (to : ℕ → ℕ) (ts : List (ℕ × ℤ)) (bound : ℤ) → groups_in (says d to (simplified (inequality ts bound))) ≡ no_group
sum_groups d to [] bound = truth_groups d (is_not_negative bound) to
sum_groups true to (t ∷ ts) bound = refl
sum_groups false to (t ∷ ts) bound = refl

atom_groups : (columns : List ℕ) (c : Claim) (n : ℕ) (o : Option Bool) → claim_groups columns (Some c) (atom_exposed n o).groups ≡ no_group
atom_groups columns c n None = refl
atom_groups columns c n (Some v) = refl

-- those of the parts that are asked, or the group
abbrev asked_groups : Asked → Groups → Groups → Groups → Groups
asked_groups (one_part false) group xs ys = xs
asked_groups (one_part true) group xs ys = ys
asked_groups both_parts group xs ys = groups_joined xs ys
asked_groups some_part group xs ys = group

groups_of_both : (x y : PlainSystem) → groups_in (both_systems x (both_systems y (only_rows []))) ≡ groups_joined (groups_in x) (groups_in y)
groups_of_both (plain_system xs gs) (plain_system ys hs) = ap (groups_joined gs) (joined_none hs)

abbrev one_of_both : PlainSystem → PlainSystem → Groups
one_of_both a b = one_group (two a b) no_group

joined_groups : (c d : Bool) (to : ℕ → ℕ) (a b : Formula) → groups_in (says d to (joined_formulas c a b)) ≡
    asked_groups (asked_by c d None None) (one_of_both (says d to a) (says d to b)) (groups_in (says d to a)) (groups_in (says d to b))
joined_groups true true to a b = groups_of_both (denied to a) (denied to b)
joined_groups true false to a b = refl
joined_groups false true to a b = refl
joined_groups false false to a b = groups_of_both (said to a) (said to b)

open_groups : (c d : Bool) (to : ℕ → ℕ) (p q : Option Bool) (a b : Formula) → decided c p q ≡ None → groups_in (says d to (open_join c p q a b)) ≡
    asked_groups (asked_by c d p q) (one_of_both (says d to a) (says d to b)) (groups_in (says d to a)) (groups_in (says d to b))
open_groups true d to (Some true) q a b e = absurd (cc)
open_groups true true to (Some false) q a b e = refl
open_groups true false to (Some false) q a b e = refl
open_groups false true to (Some true) q a b e = refl
open_groups false false to (Some true) q a b e = refl
open_groups false d to (Some false) q a b e = absurd (cc)
open_groups true d to None (Some true) a b e = absurd (cc)
open_groups true true to None (Some false) a b e = refl
open_groups true false to None (Some false) a b e = refl
open_groups false true to None (Some true) a b e = refl
open_groups false false to None (Some true) a b e = refl
open_groups false d to None (Some false) a b e = absurd (cc)
open_groups c d to None None a b e = joined_groups c d to a b

cut_groups : (c d : Bool) (to : ℕ → ℕ) (a b : Formula) → decided c (truth_in a) (truth_in b) ≡ None → groups_in (says d to (join c a b)) ≡
    asked_groups (asked_by c d (truth_in a) (truth_in b)) (one_of_both (says d to a) (says d to b)) (groups_in (says d to a)) (groups_in (says d to b))
cut_groups c d to a b e =
    ap (λ (f : Formula). groups_in (says d to f)) (join_open c (truth_in a) (truth_in b) a b refl refl e) ∙ open_groups c d to (truth_in a) (truth_in b) a b e

claim_joined : (columns : List ℕ) (c : Option Claim) (xs ys : List TreeSpot) → claim_groups columns c (xs ++ ys) ≡ groups_joined (claim_groups columns c xs) (claim_groups columns c ys)
claim_joined columns c [] ys = refl
claim_joined columns c (s ∷ xs) ys = ap (one_group (two (member_at columns c s false) (member_at columns c s true))) (claim_joined columns c xs ys)

parts_groups : (columns : List ℕ) (c : Claim) (a : Asked) (s : TreeSpot) (x y : Exposed) (gs hs : Groups) → gs ≡ claim_groups columns (Some c) x.groups → hs ≡ claim_groups columns (Some c) y.groups →
    asked_groups a (claim_groups columns (Some c) (s ∷ [])) gs hs ≡ claim_groups columns (Some c) (parts_exposed a s x y).groups
parts_groups columns c (one_part false) s x y gs hs e f = e
parts_groups columns c (one_part true) s x y gs hs e f = f
parts_groups columns c both_parts s x y gs hs e f =
    ap (λ (l : Groups). groups_joined l hs) e ∙ ap (groups_joined (claim_groups columns (Some c) x.groups)) f ∙ sym (claim_joined columns (Some c) x.groups y.groups)
parts_groups columns c some_part s x y gs hs e f = refl

-- at a cut, where those of its parts are so
cut_exposed : (columns : List ℕ) (c : Claim) (n : ℕ) (b : Branch) (col : ℕ) (k : ℤ) (t u : Tree) →
    (let low = low_side columns n b col k t in groups_in (says c.is_denied c.column (formula_at columns c low.branch t)) ≡ claim_groups columns (Some c) (exposed columns c low.node low.branch t).groups) →
    (let high = high_side columns n b col k t u in groups_in (says c.is_denied c.column (formula_at columns c high.branch u)) ≡ claim_groups columns (Some c) (exposed columns c high.node high.branch u).groups) →
    (o : Option Bool) → truth_at columns c b (cut_tree col k t u) ≡ o →
    groups_in (says c.is_denied c.column (formula_at columns c b (cut_tree col k t u))) ≡ claim_groups columns (Some c) (exposed columns c n b (cut_tree col k t u)).groups
cut_exposed columns c n b col k t u f g (Some z) e =
    ap (λ (h : Formula). groups_in (says c.is_denied c.column h)) (is_truth (formula_at columns c b (cut_tree col k t u)) z e) ∙ truth_groups c.is_denied z c.column ∙
    sym (ap (λ (x : Exposed). claim_groups columns (Some c) x.groups) (exposed_none columns c n b (cut_tree col k t u) z e))
cut_exposed columns c n b col k t u f g None e =
    let low : TreeSpot = low_side columns n b col k t in
    let high : TreeSpot = high_side columns n b col k t u in
    let s : TreeSpot = record { node = n; branch = b; tree = cut_tree col k t u } in
    let stamp : ℕ = column_stamp columns col in
    let counted : Bool = is_counted c.position stamp in
    let x : Formula = formula_at columns c low.branch t in
    let y : Formula = formula_at columns c high.branch u in
    let asked : Asked = asked_at c stamp (truth_in x) (truth_in y) in
    let at_low : Exposed = exposed columns c low.node low.branch t in
    let at_high : Exposed = exposed columns c high.node high.branch u in
    let apart : decided counted (truth_in x) (truth_in y) ≡ None = sym (truth_of_cut columns c b col k t u) ∙ e in
    ap (λ (h : Formula). groups_in (says c.is_denied c.column h)) (join_simplified counted (joined_at columns c.position low.branch t) (joined_at columns c.position high.branch u)) ∙
    cut_groups counted c.is_denied c.column x y apart ∙
    parts_groups columns c asked s at_low at_high (groups_in (says c.is_denied c.column x)) (groups_in (says c.is_denied c.column y)) f g ∙
    sym (ap (λ (z : Exposed). claim_groups columns (Some c) z.groups) (unless_open (truth_at columns c b (cut_tree col k t u)) (parts_exposed asked s at_low at_high) e))

exposed_groups_are : (columns : List ℕ) (c : Claim) (n : ℕ) (b : Branch) (t : Tree) →
    groups_in (says c.is_denied c.column (formula_at columns c b t)) ≡ claim_groups columns (Some c) (exposed columns c n b t).groups
exposed_groups_are columns c n b (leaf_tree parts) =
    sum_groups c.is_denied c.column (terms_from 0 (coefficients_at b parts c.position)) (bound_at b parts c.position) ∙
    sym (atom_groups columns c n (truth_at columns c b (leaf_tree parts)))
exposed_groups_are columns c n b (cut_tree col k t u) =
    let low : TreeSpot = low_side columns n b col k t in
    let high : TreeSpot = high_side columns n b col k t u in
    cut_exposed columns c n b col k t u (exposed_groups_are columns c low.node low.branch t) (exposed_groups_are columns c high.node high.branch u) (truth_at columns c b (cut_tree col k t u)) refl
exposed_groups_are columns c n b (cases_tree ts) = truth_groups c.is_denied false c.column

-- ---- a group that is opened

-- with a member that is taken come its rows
pub taken_rows : (v : View) (i : ℕ) (c : Option Claim) (n : ℕ) (side : Bool) (s : Option TreeSpot) (g : Gathered) →
    (member_taken v i c n side s g).rows ≡ g.rows ++ map tightened (rows_in (system_at v.columns c s))
taken_rows v i None n side s g = sym (append-nil g.rows)
taken_rows v i (Some c) n side None g = sym (append-nil g.rows)
taken_rows v i (Some c) n side (Some s) g = refl

-- and its groups
pub taken_groups : (v : View) (i : ℕ) (c : Option Claim) (n : ℕ) (side : Bool) (s : Option TreeSpot) (g : Gathered) → slice_get v.claims i ≡ c →
    waiting v (member_taken v i c n side s g).groups ≡ groups_joined (waiting v g.groups) (groups_in (system_at v.columns c s))
taken_groups v i None n side s g e = sym (joined_none (waiting v g.groups))
taken_groups v i (Some c) n side None g e = sym (joined_none (waiting v g.groups))
taken_groups v i (Some c) n side (Some s) g e =
    let more : List TreeSpot = (exposed v.columns c s.node s.branch s.tree).groups in
    waiting_joined v g.groups (of_claim i more) ∙
    ap (groups_joined (waiting v g.groups))
    (waiting_of_claim v i more ∙ ap (λ (o : Option Claim). claim_groups v.columns o more) e ∙ sym (exposed_groups_are v.columns c s.node s.branch s.tree))

-- ---- where it begins

-- the groups of what is said of claims at the root
abbrev pub groups_said : Graph → List Letter → Tree → View → List Claim → Groups
groups_said g w t v [] = no_group
groups_said g w t v (c ∷ cs) = groups_joined (groups_in (says c.is_denied c.column (formula_at v.columns c (root_of g w) t))) (groups_said g w t v cs)

-- those of the claims with numbers from k on wait
pub groups_begin : (g : Graph) (w : List Letter) (t : Tree) (v : View) (k : ℕ) (cs : List Claim) → ((p : ℕ) (c : Claim) → slice_get cs p ≡ Some c → slice_get v.claims (k + p) ≡ Some c) →
    groups_said g w t v cs ≡ waiting v (groups_from g w t v k cs)
groups_begin g w t v k [] f = refl
groups_begin g w t v k (c ∷ cs) f =
    let more : List TreeSpot = (exposed v.columns c 0 (root_of g w) t).groups in
    let found : slice_get v.claims k ≡ Some c = ap (slice_get v.claims) (let q : k ≡ k + 0 = omega arith in q) ∙ f 0 c refl in
    let first : groups_in (says c.is_denied c.column (formula_at v.columns c (root_of g w) t)) ≡ waiting v (of_claim k more) =
    exposed_groups_are v.columns c 0 (root_of g w) t ∙ sym (ap (λ (o : Option Claim). claim_groups v.columns o more) found) ∙ sym (waiting_of_claim v k more) in
    ap (λ (l : Groups). groups_joined l (groups_said g w t v cs)) first ∙
    ap (groups_joined (waiting v (of_claim k more)))
    (groups_begin g w t v (suc k) cs (λ p d e. ap (slice_get v.claims) (let q : suc k + p ≡ k + suc p = omega arith in q) ∙ f (suc p) d e)) ∙
    sym (waiting_joined v (of_claim k more) (groups_from g w t v (suc k) cs))
