-- The leaves of a triple's refutation and its groups: along any sides it goes on, at a leaf each claim that is followed is held, and
-- where it stops at a group, one waits.
use Rattle.std.proofs.Common.{◌≡◌, ◌∙◌, inl, inr, ℕ, ℤ, Bool, true, false, IsTrue, List, [], ◌∷◌, ◌++◌, length, map, refl, sym, ap, subst, Option, None, Some}
use Rattle.std.specs.Prelude.{◌&&◌, nat_eq, nat_lt, slice_get, IfSome, if◌then◌else◌}
use Rattle.std.specs.List.{AllByRecursion}
use Rattle.std.proofs.lemmas.Bool.{eq-eqb, eqb-true}
use Rattle.lin_rows.specs.Rows.{LinearRow}
use Rattle.lin_rows.specs.Tightening.{tightened}
use Rattle.farkas_check.specs.Refutes.{at_most, above}
use Rattle.farkas_check.specs.Trees.{Tree, leaf_tree, cut_tree, cases_tree, TreeRefutes}
use Rattle.nwa_base.specs.Members.{Member}
use Rattle.nested_itp.specs.NestedPredicates.Stamps.{column_stamp}
use Rattle.nested_itp.specs.NestedPredicates.Sums.{Branch, with_cut}
use Rattle.nested_itp.proofs.NestedPredicates.EndLaws.{rows_goal}
use Rattle.nested_itp.specs.NestedRefutations.Refutations.{Claim, TreeSpot, side_of, low_side, high_side, exposed, spare, atom_at, branch_row, View, Gathered, taken_at, Stop, at_leaf, at_cut, at_group, nowhere, stops, stops_at, with_own, rows_in, said_at, atom_roles, is_used, of_claim, with_member, member_taken, opened, Leaf, leaf_of, on_opened, leaf_from, own_cut, meeting_of, stands as stands_among}
use Rattle.nested_itp.specs.NestedRefutations.Waiting.{IsNotEmpty, AfterOpening, HasGroupAlong, GroupsWait}
use Rattle.nested_itp.proofs.NestedRefutations.SpotLaws.{spot, StandsIn, IsUncased, sides_stand, one_node}
use Rattle.nested_itp.proofs.NestedRefutations.HeldLaws.{truth_at, WaitsUnless, StillWaits, Held, held_more, exposed_held}
use Rattle.nested_itp.proofs.NestedRefutations.RowsLaws.{AllPairs, pairs_mapped, IsAtomRow, exposed_rows, IsOpenCut, exposed_groups}
use Rattle.nested_itp.proofs.NestedRefutations.StopLaws.{IsView, AllHeld, HeldAt, Stands, TakenHeld, KeepsWay, CutReached, GroupReached, LeafReached, StopsWell, refuted_uncased, stops_well}
use Rattle.nested_itp.proofs.NestedRefutations.WayLaws.{RoleFits, Way, first_way, keeps_way, low_way, high_way, atoms_way, stands_left, stands_right, stands_exposed}

-- a group that waits is an open cut of a claim
pub record GroupFits (v : View) (root : TreeSpot) (x : ℕ × TreeSpot) : Type 0 where
  pub claim : Claim
  pub found : slice_get v.claims x.0 ≡ Some claim
  pub is_open : IsOpenCut v.columns root claim x.1

-- what is kept on the way
pub record GoesWell (v : View) (root : TreeSpot) (g : Gathered) : Type 0 where
  pub groups : AllByRecursion (GroupFits v root) g.groups
  pub taken : TakenHeld v root g

-- where the refutation begins, each claim that is followed is held
pub record BeginsHeld (v : View) (root : TreeSpot) (first : Gathered) : Type 0 where
  pub view : IsView v
  pub refuted : TreeRefutes root.tree (rows_goal root.branch)
  pub stands : Stands v root root
  pub groups : AllByRecursion (GroupFits v root) first.groups
  pub held : AllHeld v first root.node root.branch root.tree
  pub taken : first.taken ≡ []

-- and each row there is what its role says
pub record BeginsWell (v : View) (root : TreeSpot) (first : Gathered) : Type 0 where
  pub begins : BeginsHeld v root first
  pub pairs : AllPairs (RoleFits v root root.branch.rows) first.roles first.rows

-- a leaf that is reached
pub record LeafWell (v : View) (root : TreeSpot) (first : Gathered) (l : Leaf) : Type 0 where
  pub goes : Gathered
  pub node : ℕ
  pub branch : Branch
  pub parts : List (ℕ × ℤ)
  pub leaf_is : l ≡ leaf_of v goes node branch parts
  pub reached : LeafReached v root (Way v root first goes) goes node branch parts

same_some : {X : Type 0} (x y : X) → Some x ≡ Some y → x ≡ y
same_some x y e = cc

-- ---- with an own cut

own_waits : (i : ℕ) (groups : List (ℕ × TreeSpot)) (taken : List (ℕ × ℕ × Bool)) → StillWaits i groups taken groups taken
own_waits i groups taken n b t h = h

own_held : (v : View) (g : Gathered) (r col : ℕ) (k : ℤ) (side : Bool) (i : ℕ) (c : Claim) (n : ℕ) (b : Branch) (t : Tree) →
    Held v.columns i c g.roles g.groups g.taken n b t → Held v.columns i c (with_own v r col k side g).roles g.groups g.taken n b t
own_held v g r col k side i c n b t h =
    held_more v.columns i c g.roles (g.roles ++ branch_row r ∷ []) g.groups g.groups g.taken g.taken (λ m. stands_left g.roles (branch_row r ∷ []) i m)
    (own_waits i g.groups g.taken) n b t h

own_goes : (v : View) (root : TreeSpot) (g : Gathered) (r col : ℕ) (k : ℤ) (side : Bool) → GoesWell v root g → GoesWell v root (with_own v r col k side g)
own_goes v root g r col k side h = record {
  groups = h.groups;
  taken = λ i n x c e used q b col2 k2 t u st. own_spot i c (side_of x (low_side v.columns n b col2 k2 t) (high_side v.columns n b col2 k2 t u)) (h.taken i n x c e used q b col2 k2 t u st);
}
  where
    own_spot : (i : ℕ) (c : Claim) (s : TreeSpot) → HeldAt v g i c s → HeldAt v (with_own v r col k side g) i c s
    own_spot i c s p = own_held v g r col k side i c s.node s.branch s.tree p

-- ---- with a member of a group

-- the goal with the first group taken away
abbrev rest_of : Gathered → List (ℕ × TreeSpot) → Gathered
rest_of g rest = record g { groups = rest }

-- the first of the groups waits, and is opened
abbrev member_of : View → ℕ → Claim → ℕ → Bool → TreeSpot → Gathered → List (ℕ × TreeSpot) → Gathered
member_of v i c n side s g rest = with_member v i c n side s (rest_of g rest)

member_left : {X : Type 0} (xs ys : List X) (x : X) → Member xs x → Member (xs ++ ys) x
member_left [] ys x h = absurd h
member_left (z ∷ zs) ys x (inl e) = inl e
member_left (z ∷ zs) ys x (inr m) = inr (member_left zs ys x m)

member_right : {X : Type 0} (xs ys : List X) (x : X) → Member ys x → Member (xs ++ ys) x
member_right [] ys x h = h
member_right (z ∷ zs) ys x h = inr (member_right zs ys x h)

member_of_claim : (i : ℕ) (groups : List TreeSpot) (s : TreeSpot) → Member groups s → Member (of_claim i groups) (i, s)
member_of_claim i [] s h = absurd h
member_of_claim i (x ∷ groups) s (inl e) = inl (ap (λ (y : TreeSpot). (i, y)) e)
member_of_claim i (x ∷ groups) s (inr m) = inr (member_of_claim i groups s m)

both_equal : (i j n m : ℕ) → (nat_eq i j && nat_eq n m) ≡ true → (i ≡ j) × (n ≡ m)
both_equal i j n m e = by_test (nat_eq i j) (nat_eq n m) refl refl e
  where
    by_test : (x y : Bool) → nat_eq i j ≡ x → nat_eq n m ≡ y → (x && y) ≡ true → (i ≡ j) × (n ≡ m)
    by_test true true p q h = (eqb-true i j p, eqb-true n m q)
    by_test true false p q h = absurd (cc)
    by_test false y p q h = absurd (cc)

member_waits : (i0 : ℕ) (s0 : TreeSpot) (side : Bool) (rest more : List (ℕ × TreeSpot)) (taken : List (ℕ × ℕ × Bool)) (i : ℕ) →
    StillWaits i ((i0, s0) ∷ rest) taken (rest ++ more) ((i0, s0.node, side) ∷ taken)
member_waits i0 s0 side rest more taken i n b t h = by_test (nat_eq i0 i && nat_eq s0.node n) refl
  where
    others_wait : (o : Option Bool) → (nat_eq i0 i && nat_eq s0.node n) ≡ false → WaitsUnless o (Member ((i0, s0) ∷ rest) (i, spot n b t)) → WaitsUnless o (Member (rest ++ more) (i, spot n b t))
    others_wait (Some x) q w = tt
    others_wait None q (inl e) =
        let p : i0 ≡ i = ap (λ (x : ℕ × TreeSpot). x.0) e in
        let m : s0.node ≡ n = ap (λ (x : ℕ × TreeSpot). x.1.node) e in
        let f : (nat_eq i0 i && nat_eq s0.node n) ≡ true = rw (eq-eqb i0 i p) (eq-eqb s0.node n m) in
        absurd (cc)
    others_wait None q (inr m) = member_left rest more (i, spot n b t) m

    by_test : (z : Bool) → (nat_eq i0 i && nat_eq s0.node n) ≡ z →
        WaitsUnless (if z then Some side else taken_at i n taken) (Member (rest ++ more) (i, spot n b t))
    by_test true q = tt
    by_test false q = others_wait (taken_at i n taken) q h

-- what is held stays held
member_held : (v : View) (g : Gathered) (i0 : ℕ) (c0 : Claim) (s0 : TreeSpot) (side : Bool) (s : TreeSpot) (rest : List (ℕ × TreeSpot)) → g.groups ≡ (i0, s0) ∷ rest →
    (i : ℕ) (c : Claim) (x : TreeSpot) → HeldAt v g i c x → HeldAt v (member_of v i0 c0 s0.node side s g rest) i c x
member_held v g i0 c0 s0 side s rest e i c x h =
    let y = exposed v.columns c0 s.node s.branch s.tree in
    held_more v.columns i c g.roles (g.roles ++ atom_roles (is_used v i0) i0 y.leaves) ((i0, s0) ∷ rest) (rest ++ of_claim i0 y.groups) g.taken ((i0, s0.node, side) ∷ g.taken)
    (λ m. stands_left g.roles (atom_roles (is_used v i0) i0 y.leaves) i m) (member_waits i0 s0 side rest (of_claim i0 y.groups) g.taken i) x.node x.branch x.tree
    (subst (λ (l : List (ℕ × TreeSpot)). Held v.columns i c g.roles l g.taken x.node x.branch x.tree) e h)

-- and the member is held, if the claim is followed
new_held : (v : View) (root : TreeSpot) (g : Gathered) (i : ℕ) (c : Claim) (n : ℕ) (side : Bool) (s : TreeSpot) (rest : List (ℕ × TreeSpot)) → IsUncased s.tree → truth_at v.columns c s.branch s.tree ≡ None →
    is_used v i ≡ true → HeldAt v (member_of v i c n side s g rest) i c s
new_held v root g i c n side s rest un e used =
    let y = exposed v.columns c s.node s.branch s.tree in
    exposed_held v.columns i c (g.roles ++ atom_roles (is_used v i) i y.leaves) (rest ++ of_claim i y.groups) ((i, n, side) ∷ g.taken) s.node s.branch s.tree un
    (λ q. none_not c.is_denied (sym e ∙ q))
    (λ m h. stands_right g.roles (atom_roles (is_used v i) i y.leaves) i m
    (subst (λ (z : Bool). IsTrue (stands_among (atom_roles z i y.leaves) i m)) (sym used) (stands_exposed i y.leaves m h)))
    (λ z h. member_right rest (of_claim i y.groups) (i, z) (member_of_claim i y.groups z h))
  where
    none_not : (d : Bool) → None ≡ Some d → ⊥
    none_not d q = absurd (cc)

-- the rows of a member are those of its atoms
pub member_pairs : (v : View) (root : TreeSpot) (b : List LinearRow) (used : Bool) (i : ℕ) (c : Claim) → slice_get v.claims i ≡ Some c → is_used v i ≡ used → (leaves : List ℕ) (rows : List LinearRow) →
    AllPairs (IsAtomRow v.columns root c) leaves rows → AllPairs (RoleFits v root b) (atom_roles used i leaves) (map tightened rows)
member_pairs v root b used i c e u leaves rows h =
    pairs_mapped (IsAtomRow v.columns root c) (RoleFits v root b) (λ m. if used then atom_at i m else spare) tightened (λ m row. fits used u m row) leaves rows h
  where
    fits : (z : Bool) → is_used v i ≡ z → (m : ℕ) (row : LinearRow) → IsAtomRow v.columns root c m row → RoleFits v root b (if z then atom_at i m else spare) (tightened row)
    fits true q m row k = record { claim = c; found = e; used = q; given = row; is_atom = k; row_is = refl }
    fits false q m row k = tt

pub groups_fit : (v : View) (root : TreeSpot) (i : ℕ) (c : Claim) → slice_get v.claims i ≡ Some c → (groups : List TreeSpot) → AllByRecursion (IsOpenCut v.columns root c) groups →
    AllByRecursion (GroupFits v root) (of_claim i groups)
groups_fit v root i c e [] h = tt
groups_fit v root i c e (s ∷ groups) h = (record { claim = c; found = e; is_open = h.0 }, groups_fit v root i c e groups h.1)

all_joined : {X : Type 0} (P : X → Type 0) (xs ys : List X) → AllByRecursion P xs → AllByRecursion P ys → AllByRecursion P (xs ++ ys)
all_joined P [] ys h k = k
all_joined P (x ∷ xs) ys h k = (h.0, all_joined P xs ys h.1 k)

-- what is known of the member: a side of an open cut
record MemberFits (v : View) (root : TreeSpot) (i : ℕ) (c : Claim) (s : TreeSpot) : Type 0 where
  pub uncased : IsUncased s.tree
  pub stands : Stands v root s
  pub is_open : truth_at v.columns c s.branch s.tree ≡ None

member_way : (v : View) (root : TreeSpot) (first g : Gathered) (i : ℕ) (c : Claim) (n : ℕ) (side : Bool) (s : TreeSpot) (rest : List (ℕ × TreeSpot)) (b : Branch) → IsUncased root.tree →
    slice_get v.claims i ≡ Some c → MemberFits v root i c s → Way v root first g b → Way v root first (member_of v i c n side s g rest) b
member_way v root first g i c n side s rest b un e m w =
    let y = exposed v.columns c s.node s.branch s.tree in
    let rows : List LinearRow = map tightened (rows_in (said_at v.columns c s)) in
    atoms_way v root first g b (is_used v i) i y.leaves rows (member_of v i c n side s g rest) refl refl
    (member_pairs v root b.rows (is_used v i) i c e refl y.leaves (rows_in (said_at v.columns c s)) (exposed_rows v.columns root un c s.node s.branch s.tree m.stands m.is_open)) w

-- what is kept by cuts that a claim tells, by own cuts, and where a member is taken
record Keeps (v : View) (root : TreeSpot) (W : Gathered → Branch → Type 0) : Type 0 where
  pub told : (g : Gathered) → KeepsWay v (W g)
  pub low : (g : Gathered) (b : Branch) (col r : ℕ) (k : ℤ) → meeting_of v.returns 0 v.claims (column_stamp v.columns col) ≡ own_cut → r ≡ length b.rows → W g b →
      W (with_own v r col k false g) (with_cut b (column_stamp v.columns col) (at_most col k))
  pub high : (g : Gathered) (b : Branch) (col r : ℕ) (k : ℤ) → meeting_of v.returns 0 v.claims (column_stamp v.columns col) ≡ own_cut → r ≡ length b.rows → W g b →
      W (with_own v r col k true g) (with_cut b (column_stamp v.columns col) (above col k))
  pub member : (g : Gathered) (i : ℕ) (c : Claim) (n : ℕ) (side : Bool) (s : TreeSpot) (rest : List (ℕ × TreeSpot)) (b : Branch) → slice_get v.claims i ≡ Some c → MemberFits v root i c s → W g b →
      W (member_of v i c n side s g rest) b

way_kept : (v : View) (root : TreeSpot) (first : Gathered) → IsUncased root.tree → Keeps v root (Way v root first)
way_kept v root first un = record {
  told = keeps_way v root first;
  low = λ g b col r k own row w. low_way v root first g b col r k own row w;
  high = λ g b col r k own row w. high_way v root first g b col r k own row w;
  member = λ g i c n side s rest b e m w. member_way v root first g i c n side s rest b un e m w;
}

-- where nothing is asked of the way
abbrev AnyWay : Gathered → Branch → Type 0
AnyWay g b = Unit {0}

any_kept : (v : View) (root : TreeSpot) → Keeps v root AnyWay
any_kept v root = record {
  told = λ g b col k i c e w. (tt, tt);
  low = λ g b col r k own row w. tt;
  high = λ g b col r k own row w. tt;
  member = λ g i c n side s rest b e m w. tt;
}

-- ---- from a group on

-- the member with this side of an open cut
side_fits : (v : View) (root : TreeSpot) → IsUncased root.tree → (i : ℕ) (c : Claim) (n : ℕ) (b : Branch) (col : ℕ) (k : ℤ) (t u : Tree) → Stands v root (spot n b (cut_tree col k t u)) → IsUncased t → IsUncased u →
    truth_at v.columns c (with_cut b (column_stamp v.columns col) (at_most col k)) t ≡ None → truth_at v.columns c (with_cut b (column_stamp v.columns col) (above col k)) u ≡ None →
    (side : Bool) → MemberFits v root i c (side_of side (low_side v.columns n b col k t) (high_side v.columns n b col k t u))
side_fits v root un i c n b col k t u st ut uu p q false =
    let ss = sides_stand v.columns root.node root.branch root.tree un n b col k t u st in
    record { uncased = ut; stands = ss.low_stands; is_open = p }
side_fits v root un i c n b col k t u st ut uu p q true =
    let ss = sides_stand v.columns root.node root.branch root.tree un n b col k t u st in
    record { uncased = uu; stands = ss.high_stands; is_open = q }

-- the tree of a node that stands in a tree without cases has none
stands_uncased : (columns : List ℕ) (n : ℕ) (b : Branch) (t : Tree) → IsUncased t → (s : TreeSpot) → StandsIn columns n b t s → IsUncased s.tree
stands_uncased columns n b (leaf_tree parts) un s e = at_leaf (nat_eq s.node n) e
  where
    at_leaf : (z : Bool) → (if z then Some (spot n b (leaf_tree parts)) else None) ≡ Some s → IsUncased s.tree
    at_leaf true h = subst (λ (x : TreeSpot). IsUncased x.tree) (same_some (spot n b (leaf_tree parts)) s h) tt
    at_leaf false h = absurd (cc)
stands_uncased columns n b (cut_tree c k t u) un s e =
    let low : TreeSpot = low_side columns n b c k t in
    let high : TreeSpot = high_side columns n b c k t u in
    at_cut (nat_eq s.node n) (nat_lt s.node high.node) (stands_uncased columns low.node low.branch t un.0 s) (stands_uncased columns high.node high.branch u un.1 s) e
  where
    at_cut : (z l : Bool) → {A B : Option TreeSpot} → (A ≡ Some s → IsUncased s.tree) → (B ≡ Some s → IsUncased s.tree) →
        (if z then Some (spot n b (cut_tree c k t u)) else (if l then A else B)) ≡ Some s → IsUncased s.tree
    at_cut true l f g h = subst (λ (x : TreeSpot). IsUncased x.tree) (same_some (spot n b (cut_tree c k t u)) s h) un
    at_cut false true f g h = f h
    at_cut false false f g h = g h
stands_uncased columns n b (cases_tree ts) un s e = absurd un

record Opens (v : View) (root : TreeSpot) (W : Gathered → Branch → Type 0) (g h : Gathered) (b : Branch) : Type 0 where
  pub goes : GoesWell v root h
  pub way : W h b
  pub more : (i : ℕ) (c : Claim) (x : TreeSpot) → HeldAt v g i c x → HeldAt v h i c x

abbrev side_spot : View → Bool → ℕ → Branch → ℕ → ℤ → Tree → Tree → TreeSpot
side_spot v side n b col k t u = side_of side (low_side v.columns n b col k t) (high_side v.columns n b col k t u)

-- the side of a cut
abbrev side_in_tree : View → Bool → ℕ → Branch → Tree → TreeSpot
side_in_tree v side n b (leaf_tree parts) = spot n b (leaf_tree parts)
side_in_tree v side n b (cut_tree col k t u) = side_spot v side n b col k t u
side_in_tree v side n b (cases_tree ts) = spot n b (cases_tree ts)

abbrev side_in : View → Bool → TreeSpot → TreeSpot
side_in v side s = side_in_tree v side s.node s.branch s.tree

-- by a member of the first group of a claim
open_first : (v : View) (root : TreeSpot) → IsUncased root.tree → (W : Gathered → Branch → Type 0) → Keeps v root W → (g : Gathered) (b : Branch) → GoesWell v root g → W g b → (i : ℕ) (c : Claim) → slice_get v.claims i ≡ Some c →
    (n : ℕ) (d : Branch) (col : ℕ) (k : ℤ) (t u : Tree) → Stands v root (spot n d (cut_tree col k t u)) →
    truth_at v.columns c (with_cut d (column_stamp v.columns col) (at_most col k)) t ≡ None → truth_at v.columns c (with_cut d (column_stamp v.columns col) (above col k)) u ≡ None →
    (rest : List (ℕ × TreeSpot)) → g.groups ≡ (i, spot n d (cut_tree col k t u)) ∷ rest → AllByRecursion (GroupFits v root) rest → (side : Bool) →
    Opens v root W g (member_of v i c n side (side_of side (low_side v.columns n d col k t) (high_side v.columns n d col k t u)) g rest) b
open_first v root un W keeps g b goes way i c e n d col k t u st p q rest ge rest_fits side =
    let cut : IsUncased t × IsUncased u = stands_uncased v.columns root.node root.branch root.tree un (spot n d (cut_tree col k t u)) st in
    let s : TreeSpot = side_of side (low_side v.columns n d col k t) (high_side v.columns n d col k t u) in
    let m : MemberFits v root i c s = side_fits v root un i c n d col k t u st cut.0 cut.1 p q side in
    let y = exposed v.columns c s.node s.branch s.tree in
    record {
      goes = record {
        groups = all_joined (GroupFits v root) rest (of_claim i y.groups) rest_fits
            (groups_fit v root i c e y.groups (exposed_groups v.columns root un c s.node s.branch s.tree m.stands m.is_open));
        taken = λ j k2 x c2 e2 used q2 b2 col2 bound2 t2 u2 st2. by_test j k2 x c2 e2 used b2 col2 bound2 t2 u2 st2 (nat_eq i j && nat_eq n k2) refl q2;
      };
      way = keeps.member g i c n side s rest b e m way;
      more = λ j c2 x h. member_held v g i c (spot n d (cut_tree col k t u)) side s rest ge j c2 x h;
    }
  where
    old_taken : (j m : ℕ) (x : Bool) (c2 : Claim) → slice_get v.claims j ≡ Some c2 → IsTrue (is_used v j) → (b2 : Branch) (col2 : ℕ) (bound2 : ℤ) (t2 u2 : Tree) →
        Stands v root (spot m b2 (cut_tree col2 bound2 t2 u2)) → taken_at j m g.taken ≡ Some x →
        HeldAt v (member_of v i c n side (side_spot v side n d col k t u) g rest) j c2 (side_of x (low_side v.columns m b2 col2 bound2 t2) (high_side v.columns m b2 col2 bound2 t2 u2))
    old_taken j m x c2 e2 used b2 col2 bound2 t2 u2 st2 q2 =
        member_held v g i c (spot n d (cut_tree col k t u)) side (side_spot v side n d col k t u) rest ge j c2 (side_of x (low_side v.columns m b2 col2 bound2 t2) (high_side v.columns m b2 col2 bound2 t2 u2))
        (goes.taken j m x c2 e2 used q2 b2 col2 bound2 t2 u2 st2)

    new_taken : (j m : ℕ) (x : Bool) (c2 : Claim) → slice_get v.claims j ≡ Some c2 → IsTrue (is_used v j) → (b2 : Branch) (col2 : ℕ) (bound2 : ℤ) (t2 u2 : Tree) →
        Stands v root (spot m b2 (cut_tree col2 bound2 t2 u2)) → i ≡ j → n ≡ m → side ≡ x →
        HeldAt v (member_of v i c n side (side_spot v side n d col k t u) g rest) j c2 (side_of x (low_side v.columns m b2 col2 bound2 t2) (high_side v.columns m b2 col2 bound2 t2 u2))
    new_taken j m x c2 e2 used b2 col2 bound2 t2 u2 st2 ij nm sx =
        let cut : IsUncased t × IsUncased u = stands_uncased v.columns root.node root.branch root.tree un (spot n d (cut_tree col k t u)) st in
        let fits : MemberFits v root i c (side_spot v side n d col k t u) = side_fits v root un i c n d col k t u st cut.0 cut.1 p q side in
        let same : spot n d (cut_tree col k t u) ≡ spot m b2 (cut_tree col2 bound2 t2 u2) =
        one_node v.columns root.node root.branch root.tree (spot n d (cut_tree col k t u)) (spot m b2 (cut_tree col2 bound2 t2 u2)) st st2 nm in
        let claim : c ≡ c2 = same_some c c2 (sym e ∙ ap (slice_get v.claims) ij ∙ e2) in
        let at_i : is_used v i ≡ true = ap (is_used v) ij ∙ used in
        let next : Gathered = member_of v i c n side (side_spot v side n d col k t u) g rest in
        let a : HeldAt v next i c (side_in v side (spot n d (cut_tree col k t u))) = new_held v root g i c n side (side_spot v side n d col k t u) rest fits.uncased fits.is_open at_i in
        let f : HeldAt v next i c (side_in v x (spot m b2 (cut_tree col2 bound2 t2 u2))) =
        subst (λ (y : TreeSpot). HeldAt v next i c y) (ap (λ (z : Bool). side_in v z (spot n d (cut_tree col k t u))) sx ∙ ap (side_in v x) same) a in
        subst (λ (y : ℕ). HeldAt v next y c2 (side_in v x (spot m b2 (cut_tree col2 bound2 t2 u2)))) ij
        (subst (λ (y : Claim). HeldAt v next i y (side_in v x (spot m b2 (cut_tree col2 bound2 t2 u2)))) claim f)

    by_test : (j m : ℕ) (x : Bool) (c2 : Claim) → slice_get v.claims j ≡ Some c2 → IsTrue (is_used v j) → (b2 : Branch) (col2 : ℕ) (bound2 : ℤ) (t2 u2 : Tree) →
        Stands v root (spot m b2 (cut_tree col2 bound2 t2 u2)) → (z : Bool) → (nat_eq i j && nat_eq n m) ≡ z → (if z then Some side else taken_at j m g.taken) ≡ Some x →
        HeldAt v (member_of v i c n side (side_spot v side n d col k t u) g rest) j c2 (side_of x (low_side v.columns m b2 col2 bound2 t2) (high_side v.columns m b2 col2 bound2 t2 u2))
    by_test j m x c2 e2 used b2 col2 bound2 t2 u2 st2 true z q2 =
        let both = both_equal i j n m z in
        new_taken j m x c2 e2 used b2 col2 bound2 t2 u2 st2 both.0 both.1 (same_some side x q2)
    by_test j m x c2 e2 used b2 col2 bound2 t2 u2 st2 false z q2 = old_taken j m x c2 e2 used b2 col2 bound2 t2 u2 st2 q2

-- ---- along sides

-- where it has stopped well, the leaf that sides lead to is reached
leaf_reached : (v : View) (root : TreeSpot) (first g : Gathered) (n : ℕ) (b : Branch) (parts : List (ℕ × ℤ)) → LeafReached v root (Way v root first g) g n b parts →
    LeafWell v root first (leaf_of v g n b parts)
leaf_reached v root first g n b parts h = record { goes = g; node = n; branch = b; parts = parts; leaf_is = refl; reached = h }

-- after an own cut it stops well
own_stops : (v : View) → IsView v → (root : TreeSpot) → IsUncased root.tree → (W : Gathered → Branch → Type 0) → Keeps v root W → (g : Gathered) → GoesWell v root g → (r col : ℕ) (k : ℤ) (low high : TreeSpot) →
    CutReached v root (W g) g r col k low high → (side : Bool) →
    StopsWell v root (W (with_own v r col k side g)) (with_own v r col k side g) (stops_at v g.taken (side_of side low high))
own_stops v view root un W keeps g goes r col k low high h false =
    let next : Gathered = with_own v r col k false g in
    stops_well v view root (W next) (keeps.told next) next (own_goes v root g r col k false goes).taken un low.node low.branch low.tree
    (record { stands = h.low_stands; refuted = h.low_refuted; way = subst (W next) (sym h.low_branch) (keeps.low g h.branch col r k h.own h.row h.way) })
    (λ i c e used. own_held v g r col k false i c low.node low.branch low.tree (h.low_held i c e used))
own_stops v view root un W keeps g goes r col k low high h true =
    let next : Gathered = with_own v r col k true g in
    stops_well v view root (W next) (keeps.told next) next (own_goes v root g r col k true goes).taken un high.node high.branch high.tree
    (record { stands = h.high_stands; refuted = h.high_refuted; way = subst (W next) (sym h.high_branch) (keeps.high g h.branch col r k h.own h.row h.way) })
    (λ i c e used. own_held v g r col k true i c high.node high.branch high.tree (h.high_held i c e used))

-- after the first group is opened it stops well
record Opened (v : View) (root : TreeSpot) (W : Gathered → Branch → Type 0) (g : Gathered) (s : TreeSpot) (side : Bool) : Type 0 where
  pub next : Gathered
  pub opened_is : opened v side g g.groups ≡ Some next
  pub goes : GoesWell v root next
  pub stops : StopsWell v root (W next) next (stops_at v next.taken s)

group_opened : (v : View) → IsView v → (root : TreeSpot) → IsUncased root.tree → (W : Gathered → Branch → Type 0) → Keeps v root W → (g : Gathered) → GoesWell v root g → (s : TreeSpot) → GroupReached v root (W g) g s →
    (side : Bool) → Opened v root W g s side
group_opened v view root un W keeps g goes s h side = by_groups g.groups refl h.waits goes.groups
  where
    opens : (i : ℕ) (n : ℕ) (d : Branch) (tree : Tree) (rest : List (ℕ × TreeSpot)) → g.groups ≡ (i, spot n d tree) ∷ rest → (c : Claim) → slice_get v.claims i ≡ Some c →
        (col : ℕ) (k : ℤ) (t u : Tree) → tree ≡ cut_tree col k t u → Stands v root (spot n d (cut_tree col k t u)) →
        truth_at v.columns c (with_cut d (column_stamp v.columns col) (at_most col k)) t ≡ None → truth_at v.columns c (with_cut d (column_stamp v.columns col) (above col k)) u ≡ None →
        AllByRecursion (GroupFits v root) rest → Opened v root W g s side
    opens i n d tree rest ge c e col k t u te st p q rf =
        let m : TreeSpot = side_of side (low_side v.columns n d col k t) (high_side v.columns n d col k t u) in
        let next : Gathered = member_of v i c n side m g rest in
        let ge2 : g.groups ≡ (i, spot n d (cut_tree col k t u)) ∷ rest = ge ∙ ap (λ (y : Tree). (i, spot n d y) ∷ rest) te in
        let o : Opens v root W g next s.branch = open_first v root un W keeps g s.branch goes h.reached.way i c e n d col k t u st p q rest ge2 rf side in
        record {
          next = next;
          opened_is = ap (opened v side g) ge2 ∙ ap (λ (x : Option Claim). Some (member_taken v i x n side (Some m) (rest_of g rest))) e;
          goes = o.goes;
          stops = stops_well v view root (W next) (keeps.told next) next o.goes.taken un s.node s.branch s.tree
              (record { stands = h.reached.stands; refuted = h.reached.refuted; way = o.way }) (λ j c2 e2 used. o.more j c2 s (h.held j c2 e2 used));
        }

    by_groups : (groups : List (ℕ × TreeSpot)) → g.groups ≡ groups → Member g.groups (h.claim, s) → AllByRecursion (GroupFits v root) g.groups → Opened v root W g s side
    by_groups [] e m f = absurd (none_there g.groups e m)
      where
        none_there : (l : List (ℕ × TreeSpot)) → l ≡ [] → Member l (h.claim, s) → ⊥
        none_there [] q x = x
        none_there (y ∷ l) q x = absurd (cc)
    by_groups (x ∷ rest) e m f =
        let fits : AllByRecursion (GroupFits v root) (x ∷ rest) = subst (AllByRecursion (GroupFits v root)) e f in
        let y : GroupFits v root x = fits.0 in
        let o : IsOpenCut v.columns root y.claim x.1 = y.is_open in
        opens x.0 x.1.node x.1.branch x.1.tree rest e y.claim y.found o.column o.bound o.low o.high o.tree o.stands o.low_open o.high_open fits.1

on_some : (v : View) (root : TreeSpot) (first next : Gathered) (o : Option Gathered) (go : Gathered → Option Leaf) → o ≡ Some next → IfSome (go next) (LeafWell v root first) → IfSome (on_opened o go) (LeafWell v root first)
on_some v root first next o go e h = subst (λ (x : Option Gathered). IfSome (on_opened x go) (LeafWell v root first)) (sym e) h

leaves_well : (v : View) → IsView v → (root : TreeSpot) → IsUncased root.tree → (first : Gathered) (sides : List Bool) (g : Gathered) (stop : Stop) → GoesWell v root g →
    StopsWell v root (Way v root first g) g stop → IfSome (leaf_from v sides g stop) (LeafWell v root first)
leaves_well v view root un first [] g (at_leaf n b parts) goes h = leaf_reached v root first g n b parts h
leaves_well v view root un first [] g (at_cut r col k low high) goes h = tt
leaves_well v view root un first [] g (at_group s) goes h = tt
leaves_well v view root un first [] g nowhere goes h = tt
leaves_well v view root un first (side ∷ sides) g (at_leaf n b parts) goes h = tt
leaves_well v view root un first (side ∷ sides) g (at_cut r col k low high) goes h =
    leaves_well v view root un first sides (with_own v r col k side g) (stops_at v g.taken (side_of side low high)) (own_goes v root g r col k side goes)
    (own_stops v view root un (Way v root first) (way_kept v root first un) g goes r col k low high h side)
leaves_well v view root un first (side ∷ sides) g (at_group s) goes h =
    let o : Opened v root (Way v root first) g s side = group_opened v view root un (Way v root first) (way_kept v root first un) g goes s h side in
    on_some v root first o.next (opened v side g g.groups) (λ x. leaf_from v sides x (stops_at v x.taken s)) o.opened_is
    (leaves_well v view root un first sides o.next (stops_at v o.next.taken s) o.goes o.stops)
leaves_well v view root un first (side ∷ sides) g nowhere goes h = tt

first_taken : (v : View) (root : TreeSpot) (first : Gathered) → first.taken ≡ [] → TakenHeld v root first
first_taken v root first e i n side c q used t b col k x y st = absurd (none_taken first.taken e t)
  where
    none_taken : (l : List (ℕ × ℕ × Bool)) → l ≡ [] → taken_at i n l ≡ Some side → ⊥
    none_taken [] q h = absurd (cc)
    none_taken (z ∷ l) q h = absurd (cc)

begin_uncased : (v : View) (root : TreeSpot) (first : Gathered) → BeginsHeld v root first → IsUncased root.tree
begin_uncased v root first begins = refuted_uncased root.tree root.branch begins.refuted

-- where it begins it stops well
begin_stops : (v : View) (root : TreeSpot) (first : Gathered) → BeginsHeld v root first → (W : Gathered → Branch → Type 0) → Keeps v root W → W first root.branch →
    StopsWell v root (W first) first (stops v first.taken root.node root.branch root.tree)
begin_stops v root first begins W keeps way =
    stops_well v begins.view root (W first) (keeps.told first) first (first_taken v root first begins.taken) (begin_uncased v root first begins) root.node root.branch root.tree
    (record { stands = begins.stands; refuted = begins.refuted; way = way }) begins.held

begin_goes : (v : View) (root : TreeSpot) (first : Gathered) → BeginsHeld v root first → GoesWell v root first
begin_goes v root first begins = record { groups = begins.groups; taken = first_taken v root first begins.taken }

-- the leaves of a refutation that begins well are reached
pub all_leaves_well : (v : View) (root : TreeSpot) (first : Gathered) → BeginsWell v root first → (sides : List Bool) →
    IfSome (leaf_from v sides first (stops v first.taken root.node root.branch root.tree)) (LeafWell v root first)
all_leaves_well v root first h sides =
    let un : IsUncased root.tree = begin_uncased v root first h.begins in
    leaves_well v h.begins.view root un first sides first (stops v first.taken root.node root.branch root.tree) (begin_goes v root first h.begins)
    (begin_stops v root first h.begins (Way v root first) (way_kept v root first un) (first_way v root first h.pairs))

-- ---- groups

some_waits : (groups : List (ℕ × TreeSpot)) (x : ℕ × TreeSpot) → Member groups x → IsNotEmpty groups
some_waits [] x m = m
some_waits (y ∷ groups) x m = tt

groups_well : (v : View) → IsView v → (root : TreeSpot) → IsUncased root.tree → (sides : List Bool) (g : Gathered) (stop : Stop) → GoesWell v root g → StopsWell v root (AnyWay g) g stop → HasGroupAlong v sides g stop
groups_well v view root un [] g (at_leaf n b parts) goes h = tt
groups_well v view root un [] g (at_cut r col k low high) goes h = tt
groups_well v view root un [] g (at_group s) goes h = some_waits g.groups (h.claim, s) h.waits
groups_well v view root un [] g nowhere goes h = tt
groups_well v view root un (side ∷ sides) g (at_leaf n b parts) goes h = tt
groups_well v view root un (side ∷ sides) g (at_cut r col k low high) goes h =
    groups_well v view root un sides (with_own v r col k side g) (stops_at v g.taken (side_of side low high)) (own_goes v root g r col k side goes)
    (own_stops v view root un AnyWay (any_kept v root) g goes r col k low high h side)
groups_well v view root un (side ∷ sides) g (at_group s) goes h =
    let o : Opened v root AnyWay g s side = group_opened v view root un AnyWay (any_kept v root) g goes s h side in
    subst (λ (x : Option Gathered). AfterOpening x (λ y. HasGroupAlong v sides y (stops_at v y.taken s))) (sym o.opened_is)
    (groups_well v view root un sides o.next (stops_at v o.next.taken s) o.goes o.stops)
groups_well v view root un (side ∷ sides) g nowhere goes h = tt

-- where a refutation stops at a group, one waits
pub groups_wait : (v : View) (root : TreeSpot) (first : Gathered) → BeginsHeld v root first → GroupsWait v first (stops v first.taken root.node root.branch root.tree)
groups_wait v root first begins sides =
    groups_well v begins.view root (begin_uncased v root first begins) sides first (stops v first.taken root.node root.branch root.tree) (begin_goes v root first begins)
    (begin_stops v root first begins AnyWay (any_kept v root) tt)
