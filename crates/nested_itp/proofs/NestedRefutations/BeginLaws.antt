-- Where the refutation of a triple begins: the groups of its system's predicates, and what is held of them.
use Rattle.std.proofs.Common.{◌≡◌, ◌∙◌, inl, inr, ℕ, zero, suc, ◌+◌, Bool, true, false, IsTrue, List, [], ◌∷◌, ◌++◌, map, refl, sym, ap, subst, arith, Option, None, Some}
use Rattle.std.specs.Prelude.{slice_get}
use Rattle.std.specs.List.{AllByRecursion}
use Rattle.lin_rows.specs.Rows.{LinearRow}
use Rattle.lin_rows.specs.Tightening.{tightened}
use Rattle.farkas_check.specs.Trees.{Tree, leaf_tree, cut_tree, cases_tree}
use Rattle.nwa_base.specs.declared.letters.Letter.{Letter}
use Rattle.nwa_base.specs.Members.{Member}
use Rattle.letter_acts.specs.Invariant.{Graph}
use Rattle.triple_rows.specs.Predicates.{Formula, truth, atom, and_of, or_of}
use Rattle.triple_rows.specs.Systems.{said, denied}
use Rattle.nested_itp.specs.NestedPredicates.Sums.{Branch, root_of}
use Rattle.nested_itp.specs.NestedRefutations.Refutations.{Claim, TreeSpot, truth_in, formula_at, Exposed, nothing, atom_exposed, unless_truth, exposed, View, Gathered, stands, atom_roles, is_used, of_claim, rows_in, said_at}
use Rattle.nested_itp.specs.NestedRefutations.Numbers.{IsFalse, groups_from}
use Rattle.nested_itp.proofs.NestedRefutations.TruthLaws.{IsOpen}
use Rattle.nested_itp.proofs.NestedRefutations.SpotLaws.{spot, StandsIn, IsUncased}
use Rattle.nested_itp.proofs.NestedRefutations.HeldLaws.{truth_at, Held, exposed_held}
use Rattle.nested_itp.proofs.NestedRefutations.RowsLaws.{AllPairs, says, exposed_rows, IsOpenCut, exposed_groups}
use Rattle.nested_itp.proofs.NestedRefutations.WayLaws.{RoleFits}
use Rattle.nested_itp.proofs.NestedRefutations.LeafLaws.{GroupFits, groups_fit, member_pairs}

none_some : {X : Type 0} (x : X) → None ≡ Some x → ⊥
none_some x e = absurd (cc)

same_some : {X : Type 0} (x y : X) → Some x ≡ Some y → x ≡ y
same_some x y e = cc

member_left : {X : Type 0} (xs ys : List X) (x : X) → Member xs x → Member (xs ++ ys) x
member_left [] ys x h = absurd h
member_left (z ∷ zs) ys x (inl e) = inl e
member_left (z ∷ zs) ys x (inr m) = inr (member_left zs ys x m)

member_right : {X : Type 0} (xs ys : List X) (x : X) → Member ys x → Member (xs ++ ys) x
member_right [] ys x h = h
member_right (z ∷ zs) ys x h = inr (member_right zs ys x h)

member_of_claim : (i : ℕ) (groups : List TreeSpot) (s : TreeSpot) → Member groups s → Member (of_claim i groups) (i, s)
member_of_claim i [] s h = absurd h
member_of_claim i (x ∷ groups) s (inl e) = inl (ap (λ (y : TreeSpot). (i, y)) e)
member_of_claim i (x ∷ groups) s (inr m) = inr (member_of_claim i groups s m)

all_joined : {X : Type 0} (P : X → Type 0) (xs ys : List X) → AllByRecursion P xs → AllByRecursion P ys → AllByRecursion P (xs ++ ys)
all_joined P [] ys h k = k
all_joined P (x ∷ xs) ys h k = (h.0, all_joined P xs ys h.1 k)

-- the groups of each claim are among all
pub claim_groups : (g : Graph) (w : List Letter) (t : Tree) (v : View) (k : ℕ) (cs : List Claim) (p i : ℕ) (c : Claim) (s : TreeSpot) → slice_get cs p ≡ Some c → i ≡ k + p →
    Member (exposed v.columns c 0 (root_of g w) t).groups s → Member (groups_from g w t v k cs) (i, s)
claim_groups g w t v k [] p i c s e q m = absurd (none_some c e)
claim_groups g w t v k (d ∷ cs) zero i c s e q m =
    let same : k ≡ i = omega (arith, q) in
    member_left (of_claim k (exposed v.columns d 0 (root_of g w) t).groups) (groups_from g w t v (suc k) cs) (i, s)
    (subst (λ (n : ℕ). Member (of_claim n (exposed v.columns d 0 (root_of g w) t).groups) (i, s)) (sym same)
    (member_of_claim i (exposed v.columns d 0 (root_of g w) t).groups s (subst (λ (x : Claim). Member (exposed v.columns x 0 (root_of g w) t).groups s) (sym (same_some d c e)) m)))
claim_groups g w t v k (d ∷ cs) (suc p) i c s e q m =
    member_right (of_claim k (exposed v.columns d 0 (root_of g w) t).groups) (groups_from g w t v (suc k) cs) (i, s)
    (claim_groups g w t v (suc k) cs p i c s e (omega (arith, q)) m)

-- what is exposed of a claim that is a truth value is nothing
unless_some : (o : Option Bool) (x : Exposed) (z : Bool) → o ≡ Some z → unless_truth o x ≡ nothing
unless_some None x z e = absurd (cc)
unless_some (Some y) x z e = refl

pub exposed_none : (columns : List ℕ) (c : Claim) (n : ℕ) (b : Branch) (t : Tree) (z : Bool) → truth_at columns c b t ≡ Some z → exposed columns c n b t ≡ nothing
exposed_none columns c n b (leaf_tree parts) z e = ap (atom_exposed n) e
exposed_none columns c n b (cut_tree col k t u) z e = unless_some (truth_at columns c b (cut_tree col k t u)) _ z e
exposed_none columns c n b (cases_tree ts) z e = refl

-- each group is an open cut of its claim
pub begin_groups : (g : Graph) (w : List Letter) (t : Tree) (v : View) → IsUncased t → StandsIn v.columns 0 (root_of g w) t (spot 0 (root_of g w) t) → (k : ℕ) (cs : List Claim) →
    ((p : ℕ) (c : Claim) → slice_get cs p ≡ Some c → slice_get v.claims (k + p) ≡ Some c) → AllByRecursion (GroupFits v (spot 0 (root_of g w) t)) (groups_from g w t v k cs)
begin_groups g w t v un st k [] f = tt
begin_groups g w t v un st k (c ∷ cs) f =
    all_joined (GroupFits v (spot 0 (root_of g w) t)) (of_claim k (exposed v.columns c 0 (root_of g w) t).groups) (groups_from g w t v (suc k) cs)
    (groups_fit v (spot 0 (root_of g w) t) k c (ap (slice_get v.claims) (let e : k ≡ k + 0 = omega arith in e) ∙ f 0 c refl) (exposed v.columns c 0 (root_of g w) t).groups
    (by_truth (truth_at v.columns c (root_of g w) t) refl))
    (begin_groups g w t v un st (suc k) cs (λ p d e. ap (slice_get v.claims) (let q : suc k + p ≡ k + suc p = omega arith in q) ∙ f (suc p) d e))
  where
    by_truth : (o : Option Bool) → truth_at v.columns c (root_of g w) t ≡ o → AllByRecursion (IsOpenCut v.columns (spot 0 (root_of g w) t) c) (exposed v.columns c 0 (root_of g w) t).groups
    by_truth None e = exposed_groups v.columns (spot 0 (root_of g w) t) un c 0 (root_of g w) t st e
    by_truth (Some z) e = subst (AllByRecursion (IsOpenCut v.columns (spot 0 (root_of g w) t) c)) (sym (ap (λ (x : Exposed). x.groups) (exposed_none v.columns c 0 (root_of g w) t z e))) tt

-- a claim whose atoms all stand is held, where it is not false
pub begin_held : (g : Graph) (w : List Letter) (t : Tree) (v : View) (first : Gathered) → IsUncased t → first.groups ≡ groups_from g w t v 0 v.claims → (i : ℕ) (c : Claim) → slice_get v.claims i ≡ Some c →
    (IsFalse g w t v c → ⊥) → ((m : ℕ) → Member (exposed v.columns c 0 (root_of g w) t).leaves m → IsTrue (stands first.roles i m)) →
    Held v.columns i c first.roles first.groups first.taken 0 (root_of g w) t
begin_held g w t v first un e i c found open_claim atoms =
    exposed_held v.columns i c first.roles first.groups first.taken 0 (root_of g w) t un open_claim atoms
    (λ s m. subst (λ (l : List (ℕ × TreeSpot)). Member l (i, s)) (sym e) (claim_groups g w t v 0 v.claims i i c s found (let q : i ≡ 0 + i = omega arith in q) m))

-- the rows of a claim's predicate, which is no truth value, are those of its atoms
pub begin_pairs : (v : View) (root : TreeSpot) → IsUncased root.tree → StandsIn v.columns root.node root.branch root.tree root → (rows : List LinearRow) (i : ℕ) (c : Claim) → slice_get v.claims i ≡ Some c →
    truth_at v.columns c root.branch root.tree ≡ None →
    AllPairs (RoleFits v root rows) (atom_roles (is_used v i) i (exposed v.columns c root.node root.branch root.tree).leaves) (map tightened (rows_in (said_at v.columns c root)))
begin_pairs v root un st rows i c found e =
    member_pairs v root rows (is_used v i) i c found refl (exposed v.columns c root.node root.branch root.tree).leaves (rows_in (said_at v.columns c root))
    (exposed_rows v.columns root un c root.node root.branch root.tree st e)

truth_rows : (d z : Bool) (to : ℕ → ℕ) (f : Formula) → f ≡ truth z → (z ≡ d → ⊥) → rows_in (says d to f) ≡ []
truth_rows true true to f e n = absurd (n refl)
truth_rows true false to f e n = ap (λ (x : Formula). rows_in (denied to x)) e
truth_rows false true to f e n = ap (λ (x : Formula). rows_in (said to x)) e
truth_rows false false to f e n = absurd (n refl)

truth_is : (f : Formula) (z : Bool) → truth_in f ≡ Some z → f ≡ truth z
truth_is (truth y) z e = ap truth (same_some y z e)
truth_is (atom r) z e = absurd (cc)
truth_is (and_of fs) z e = absurd (cc)
truth_is (or_of fs) z e = absurd (cc)

-- the rows of a claim's predicate, which is not false, are those of its atoms
pub claim_pairs : (v : View) (root : TreeSpot) → IsUncased root.tree → StandsIn v.columns root.node root.branch root.tree root → (rows : List LinearRow) (i : ℕ) (c : Claim) → slice_get v.claims i ≡ Some c →
    IsOpen c.is_denied (truth_at v.columns c root.branch root.tree) →
    AllPairs (RoleFits v root rows) (atom_roles (is_used v i) i (exposed v.columns c root.node root.branch root.tree).leaves) (map tightened (rows_in (said_at v.columns c root)))
claim_pairs v root un st rows i c found is_open = by_truth (truth_at v.columns c root.branch root.tree) refl
  where
    no_pairs : (leaves : List ℕ) (xs : List LinearRow) → leaves ≡ [] → xs ≡ [] → AllPairs (RoleFits v root rows) (atom_roles (is_used v i) i leaves) (map tightened xs)
    no_pairs [] [] e f = tt
    no_pairs [] (x ∷ xs) e f = absurd (cc)
    no_pairs (m ∷ leaves) xs e f = absurd (cc)

    by_truth : (o : Option Bool) → truth_at v.columns c root.branch root.tree ≡ o →
        AllPairs (RoleFits v root rows) (atom_roles (is_used v i) i (exposed v.columns c root.node root.branch root.tree).leaves) (map tightened (rows_in (said_at v.columns c root)))
    by_truth None e = begin_pairs v root un st rows i c found e
    by_truth (Some z) e =
        no_pairs (exposed v.columns c root.node root.branch root.tree).leaves (rows_in (said_at v.columns c root))
        (ap (λ (x : Exposed). x.leaves) (exposed_none v.columns c root.node root.branch root.tree z e))
        (truth_rows c.is_denied z c.column (formula_at v.columns c root.branch root.tree) (truth_is (formula_at v.columns c root.branch root.tree) z e) (λ q. is_open (e ∙ ap Some q)))
