-- The leaves of a triple's refutation contradict their rows, where what each of them adds comes to nothing.
use Rattle.std.proofs.Common.{◌≡◌, ◌∙◌, ℕ, suc, ◌+◌, ◌<◌, ℤ, Bool, true, false, List, [], ◌∷◌, ◌++◌, length, refl, sym, ap, subst, arith, append_assoc, Option, None, Some}
use Rattle.std.specs.Prelude.{◌&&◌, ◌||◌, nat_eq, nat_lt, slice_get, IfSome, if◌then◌else◌}
use Rattle.std.specs.List.{AllByRecursion}
use Rattle.std.proofs.lemmas.Bool.{eqb-true}
use Rattle.std.proofs.lemmas.List.{append-nil}
use Rattle.lin_rows.specs.Rows.{LinearRow}
use Rattle.lin_rows.specs.Combinations.{Contradicts}
use Rattle.farkas_check.specs.Refutes.{at_most, above}
use Rattle.farkas_check.specs.Trees.{Tree, leaf_tree, cut_tree, cases_tree}
use Rattle.nested_itp.specs.NestedPredicates.Stamps.{column_stamp}
use Rattle.nested_itp.specs.NestedPredicates.Sums.{Branch, with_cut}
use Rattle.nested_itp.specs.NestedRefutations.Refutations.{Claim, TreeSpot, side_of, low_side, high_side, Role, spare, atom_at, branch_row, target_tie, source_tie, opposite_tie, View, is_atom, stands, is_used, Gathered, Leaf, stops, leaf_from}
use Rattle.nested_itp.specs.NestedRefutations.Numbers.{AreCutsAt, LeafNumbersFit}
use Rattle.nested_itp.proofs.NestedRefutations.SpotLaws.{spot, StandsIn, IsUncased}
use Rattle.nested_itp.proofs.NestedRefutations.RowsLaws.{AllPairs}
use Rattle.nested_itp.proofs.NestedRefutations.StopLaws.{LeafReached, refuted_uncased}
use Rattle.nested_itp.proofs.NestedRefutations.WayLaws.{RoleFits, Way}
use Rattle.nested_itp.proofs.NestedRefutations.OwnLaws.{IsCutAt}
use Rattle.nested_itp.proofs.NestedRefutations.ClaimLaws.{IsTold, StandsWell, AddsUp, leaf_refutes}
use Rattle.nested_itp.proofs.NestedRefutations.LeafLaws.{BeginsWell, LeafWell, all_leaves_well}

same_some : {X : Type 0} (x y : X) → Some x ≡ Some y → x ≡ y
same_some x y e = cc

-- ---- the rows of a branch behind those of another

pub record CutsBehind (columns : List ℕ) (b d : Branch) : Type 0 where
  pub more : List LinearRow
  pub late : List ℕ
  pub rows : d.rows ≡ b.rows ++ more
  pub stamps : d.stamps ≡ b.stamps ++ late
  pub cuts : AllPairs (IsCutAt columns) more late

none_behind : (columns : List ℕ) (b : Branch) → CutsBehind columns b b
none_behind columns b = record { more = []; late = []; rows = sym (append-nil b.rows); stamps = sym (append-nil b.stamps); cuts = tt }

cut_behind : (columns : List ℕ) (b d : Branch) (c : ℕ) (k : ℤ) (side : Bool) → c < length columns →
    CutsBehind columns (with_cut b (column_stamp columns c) (side_of side (at_most c k) (above c k))) d → CutsBehind columns b d
cut_behind columns b d c k side l h =
    let row : LinearRow = side_of side (at_most c k) (above c k) in
    let stamp : ℕ = column_stamp columns c in
    record {
      more = row ∷ h.more;
      late = stamp ∷ h.late;
      rows = h.rows ∙ append_assoc b.rows (row ∷ []) h.more;
      stamps = h.stamps ∙ append_assoc b.stamps (stamp ∷ []) h.late;
      cuts = (record { column = c; below = l; bound = k; side = side; row_is = refl; stamp_is = refl }, h.cuts);
    }

-- of a node that stands in the tree of another, these are the rows of cuts at columns of the word
branch_cuts : (columns : List ℕ) (n : ℕ) (b : Branch) (t : Tree) → IsUncased t → AreCutsAt (length columns) t → (s : TreeSpot) → StandsIn columns n b t s → CutsBehind columns b s.branch
branch_cuts columns n b (leaf_tree parts) un cuts s e = at_leaf (nat_eq s.node n) e
  where
    at_leaf : (z : Bool) → (if z then Some (spot n b (leaf_tree parts)) else None) ≡ Some s → CutsBehind columns b s.branch
    at_leaf true h = subst (λ (x : TreeSpot). CutsBehind columns b x.branch) (same_some (spot n b (leaf_tree parts)) s h) (none_behind columns b)
    at_leaf false h = absurd (cc)
branch_cuts columns n b (cut_tree c k t u) un cuts s e =
    let low : TreeSpot = low_side columns n b c k t in
    let high : TreeSpot = high_side columns n b c k t u in
    at_cut (nat_eq s.node n) (nat_lt s.node high.node)
    (λ h. cut_behind columns b s.branch c k false cuts.0 (branch_cuts columns low.node low.branch t un.0 cuts.1 s h))
    (λ h. cut_behind columns b s.branch c k true cuts.0 (branch_cuts columns high.node high.branch u un.1 cuts.2 s h)) e
  where
    at_cut : (z l : Bool) → {A B : Option TreeSpot} → (A ≡ Some s → CutsBehind columns b s.branch) → (B ≡ Some s → CutsBehind columns b s.branch) →
        (if z then Some (spot n b (cut_tree c k t u)) else (if l then A else B)) ≡ Some s → CutsBehind columns b s.branch
    at_cut true l f g h = subst (λ (x : TreeSpot). CutsBehind columns b x.branch) (same_some (spot n b (cut_tree c k t u)) s h) (none_behind columns b)
    at_cut false true f g h = f h
    at_cut false false f g h = g h
branch_cuts columns n b (cases_tree ts) un cuts s e = absurd un

same_behind : {X : Type 0} (xs ys zs : List X) → xs ++ ys ≡ xs ++ zs → ys ≡ zs
same_behind [] ys zs e = e
same_behind (x ∷ xs) ys zs e = same_behind xs ys zs (tail_same (xs ++ ys) (xs ++ zs) e)
  where
    tail_same : {Y : Type 0} {y : Y} (us vs : List Y) → y ∷ us ≡ y ∷ vs → us ≡ vs
    tail_same us vs q = cc

-- ---- a leaf that is reached

pub record LeafFacts (v : View) (root : TreeSpot) (more : List LinearRow) (late : List ℕ) (n : ℕ) (b : Branch) (parts : List (ℕ × ℤ)) : Type 0 where
  pub rows : b.rows ≡ root.branch.rows ++ more
  pub stamps : b.stamps ≡ root.branch.stamps ++ late
  pub cuts : AllPairs (IsCutAt v.columns) more late
  pub contradicts : Contradicts b.rows parts

leaf_facts : (v : View) (root : TreeSpot) (first g : Gathered) (n : ℕ) (b : Branch) (parts : List (ℕ × ℤ)) → IsUncased root.tree → AreCutsAt (length v.columns) root.tree →
    (h : LeafReached v root (Way v root first g) g n b parts) → LeafFacts v root h.way.more h.way.late n b parts
leaf_facts v root first g n b parts un cuts h =
    let c : CutsBehind v.columns root.branch b = branch_cuts v.columns root.node root.branch root.tree un cuts (spot n b (leaf_tree parts)) h.stands in
    let rows : c.more ≡ h.way.more = same_behind root.branch.rows c.more h.way.more (sym c.rows ∙ h.way.rows) in
    let stamps : c.late ≡ h.way.late = same_behind root.branch.stamps c.late h.way.late (sym c.stamps ∙ h.way.stamps) in
    record {
      rows = h.way.rows;
      stamps = h.way.stamps;
      cuts = subst (λ (l : List LinearRow). AllPairs (IsCutAt v.columns) l h.way.late) rows (subst (AllPairs (IsCutAt v.columns) c.more) stamps c.cuts);
      contradicts = h.contradicts;
    }

-- ---- which atoms stand

-- none of a claim that is not followed
unused_atoms : (v : View) (root : TreeSpot) (bound : List LinearRow) (i m : ℕ) → is_used v i ≡ false → (roles : List Role) (rows : List LinearRow) → AllPairs (RoleFits v root bound) roles rows → stands roles i m ≡ false
unused_atoms v root bound i m u [] rows h = refl
unused_atoms v root bound i m u (r ∷ roles) [] h = absurd h
unused_atoms v root bound i m u (r ∷ roles) (x ∷ rows) h = either (is_atom r i m) (stands roles i m) (one r h.0) (unused_atoms v root bound i m u roles rows h.1)
  where
    either : (x y : Bool) → x ≡ false → y ≡ false → (x || y) ≡ false
    either true y e f = absurd (cc)
    either false y e f = f

    same_claim : (j k : ℕ) → is_used v j ≡ true → (z : Bool) → nat_eq j i ≡ z → (z && nat_eq k m) ≡ false
    same_claim j k used true q = let e : is_used v j ≡ is_used v i = ap (is_used v) (eqb-true j i q) in absurd (cc)
    same_claim j k used false q = refl

    one : (r : Role) → RoleFits v root bound r x → is_atom r i m ≡ false
    one spare f = refl
    one (atom_at j k) f = same_claim j k f.used (nat_eq j i) refl
    one (branch_row k) f = refl
    one (target_tie k) f = refl
    one (source_tie k) f = refl
    one (opposite_tie k) f = refl

claims_stand : (v : View) (root : TreeSpot) (first g : Gathered) (n : ℕ) (b : Branch) (parts : List (ℕ × ℤ)) → LeafReached v root (Way v root first g) g n b parts →
    (k : ℕ) (cs : List Claim) → ((p : ℕ) (c : Claim) → slice_get cs p ≡ Some c → slice_get v.claims (k + p) ≡ Some c) → AllByRecursion IsTold cs →
    StandsWell v (λ i. stands g.roles i n) b parts k cs
claims_stand v root first g n b parts h k [] f told = tt
claims_stand v root first g n b parts h k (c ∷ cs) f told = (
  (
    λ u. unused_atoms v root b.rows k n u g.roles g.rows h.way.pairs,
    λ u. h.held k c (ap (slice_get v.claims) (let e : k ≡ k + 0 = omega arith in e) ∙ f 0 c refl) u,
    told.0,
  ),
  claims_stand v root first g n b parts h (suc k) cs (λ p d e. ap (slice_get v.claims) (let q : suc k + p ≡ k + suc p = omega arith in q) ∙ f (suc p) d e) told.1,
)

-- ---- all leaves

if_some : {X : Type 0} (o : Option X) (P Q : X → Type 0) → ((x : X) → P x → Q x) → IfSome o P → IfSome o Q
if_some None P Q f h = tt
if_some (Some x) P Q f h = f x h

pub leaves_refute : (v : View) (root : TreeSpot) (first : Gathered) → BeginsWell v root first → AreCutsAt (length v.columns) root.tree → AllByRecursion IsTold v.claims →
    ((more : List LinearRow) (late : List ℕ) (n : ℕ) (b : Branch) (parts : List (ℕ × ℤ)) → LeafFacts v root more late n b parts → AddsUp v root first more late n b parts) →
    (sides : List Bool) → IfSome (leaf_from v sides first (stops v first.taken root.node root.branch root.tree)) (λ l. LeafNumbersFit l → Contradicts l.rows l.parts)
leaves_refute v root first begins cuts told adds sides =
    if_some (leaf_from v sides first (stops v first.taken root.node root.branch root.tree)) (LeafWell v root first) (λ l. LeafNumbersFit l → Contradicts l.rows l.parts)
    (λ l w. by_leaf l w) (all_leaves_well v root first begins sides)
  where
    by_leaf : (l : Leaf) → LeafWell v root first l → LeafNumbersFit l → Contradicts l.rows l.parts
    by_leaf l w = subst (λ (x : Leaf). LeafNumbersFit x → Contradicts x.rows x.parts) (sym w.leaf_is) (λ fits.
        leaf_refutes v root first w.goes w.node w.branch w.parts w.reached
        (claims_stand v root first w.goes w.node w.branch w.parts w.reached 0 v.claims (λ p c e. ap (slice_get v.claims) (let q : 0 + p ≡ p = omega arith in q) ∙ e) told)
        (adds w.reached.way.more w.reached.way.late w.node w.branch w.parts
        (leaf_facts v root first w.goes w.node w.branch w.parts (refuted_uncased root.tree root.branch begins.begins.refuted) cuts w.reached)) fits)
