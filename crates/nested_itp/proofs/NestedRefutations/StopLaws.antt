-- Where the refutation of a triple stops on the way along the word's tree: at each stop all is held that is asked there.
use Rattle.std.proofs.Common.{◌≡◌, ◌∙◌, ℕ, zero, suc, ◌+◌, ℤ, Bool, true, false, IsTrue, List, [], ◌∷◌, length, refl, sym, ap, subst, arith, Option, None, Some}
use Rattle.std.specs.Prelude.{not, ◌&&◌, nat_eq, slice_get, if◌then◌else◌}
use Rattle.lin_rows.specs.Combinations.{Contradicts}
use Rattle.farkas_check.specs.Refutes.{at_most, above}
use Rattle.farkas_check.specs.Trees.{Tree, leaf_tree, cut_tree, cases_tree, TreeRefutes}
use Rattle.nwa_base.specs.Members.{Member}
use Rattle.nested_itp.specs.NestedPredicates.Stamps.{column_stamp}
use Rattle.nested_itp.specs.NestedPredicates.Positions.{is_counted}
use Rattle.nested_itp.specs.NestedPredicates.Sums.{Branch, with_cut}
use Rattle.nested_itp.proofs.NestedPredicates.EndLaws.{rows_goal}
use Rattle.nested_itp.specs.NestedRefutations.Refutations.{Claim, TreeSpot, side_of, low_side, high_side, Asked, one_part, both_parts, some_part, asked_at, View, Gathered, taken_at, Meeting, own_cut, told_by, meeting_of, Stop, at_leaf, at_cut, at_group, nowhere, followed, stop_at, stops, is_used}
use Rattle.nested_itp.proofs.NestedRefutations.TruthLaws.{FollowHeld}
use Rattle.nested_itp.proofs.NestedRefutations.SpotLaws.{spot, StandsIn, IsUncased, sides_stand}
use Rattle.nested_itp.proofs.NestedRefutations.HeldLaws.{truth_at, WaitsUnless, Held, asks_each, sides_held, side_held}

-- ---- views

-- sources, and the target last
abbrev pub AreClaims : List Claim → Type 0
AreClaims [] = ⊥
AreClaims (c ∷ []) = c.is_denied ≡ true
AreClaims (c ∷ d ∷ cs) = (c.is_denied ≡ false) × AreClaims (d ∷ cs)

-- Of a call that returns there is one source, which is not followed. At each cut at most one of the claims that are followed asks
-- for one of the parts alone.
pub record IsView (v : View) : Type 0 where
  pub claims : AreClaims v.claims
  pub one_source : v.returns ≡ true → length v.claims ≡ 2
  pub one_asks : (stamp i j : ℕ) (c d : Claim) → slice_get v.claims i ≡ Some c → slice_get v.claims j ≡ Some d → IsTrue (is_used v i) → IsTrue (is_used v j) →
      asks_each c stamp ≡ false → asks_each d stamp ≡ false → i ≡ j

-- ---- how a cut meets the claims

-- the source is followed unless the letter is a call that returns, and the target is
abbrev UsedFrom : Bool → (ℕ → Bool) → ℕ → List Claim → Type 0
UsedFrom returns used k [] = Unit {0}
UsedFrom returns used k (c ∷ []) = used k ≡ true
UsedFrom returns used k (c ∷ d ∷ cs) = (used k ≡ not returns) × UsedFrom returns used (suc k) (d ∷ cs)

-- the claim that tells asks for one part; at an own cut each claim that is followed asks for both
abbrev TellsFrom : (ℕ → Bool) → ℕ → List Claim → ℕ → Meeting → Type 0
TellsFrom used k cs stamp own_cut = (j : ℕ) (c : Claim) → slice_get cs j ≡ Some c → IsTrue (used (k + j)) → asks_each c stamp ≡ true
TellsFrom used k cs stamp (told_by i c) = (j : ℕ) × (i ≡ k + j) × (slice_get cs j ≡ Some c) × IsTrue (used i) × (asks_each c stamp ≡ false)

none_some : {X : Type 0} (x : X) → None ≡ Some x → ⊥
none_some x e = absurd (cc)

same_some : {X : Type 0} (x y : X) → Some x ≡ Some y → x ≡ y
same_some x y e = cc

last_tells : (used : ℕ → Bool) (k : ℕ) (c : Claim) (stamp : ℕ) → c.is_denied ≡ true → used k ≡ true → (z : Bool) → is_counted c.position stamp ≡ z →
    TellsFrom used k (c ∷ []) stamp (if z then own_cut else told_by k c)
last_tells used k c stamp d u true e = one
  where
    one : (j : ℕ) (x : Claim) → slice_get (c ∷ []) j ≡ Some x → IsTrue (used (k + j)) → asks_each x stamp ≡ true
    one zero x q t = subst (λ (y : Claim). asks_each y stamp ≡ true) (same_some c x q) (rw e (rw d refl))
    one (suc j) x q t = absurd (none_some x q)
last_tells used k c stamp d u false e = (0, omega arith, refl, u, rw e (rw d refl))

tells_next : (used : ℕ → Bool) (k : ℕ) (c : Claim) (cs : List Claim) (stamp : ℕ) (m : Meeting) → (IsTrue (used k) → asks_each c stamp ≡ true) →
    TellsFrom used (suc k) cs stamp m → TellsFrom used k (c ∷ cs) stamp m
tells_next used k c cs stamp own_cut f h = each
  where
    each : (j : ℕ) (x : Claim) → slice_get (c ∷ cs) j ≡ Some x → IsTrue (used (k + j)) → asks_each x stamp ≡ true
    each zero x q t = subst (λ (y : Claim). asks_each y stamp ≡ true) (same_some c x q) (f (subst (λ (n : ℕ). IsTrue (used n)) (let e : k + 0 ≡ k = omega arith in e) t))
    each (suc j) x q t = h j x q (subst (λ (n : ℕ). IsTrue (used n)) (let e : k + suc j ≡ suc k + j = omega arith in e) t)
tells_next used k c cs stamp (told_by i x) f h = (suc h.0, (let e = h.1 in omega (arith, e)), h.2, h.3, h.4)

meets_tells : (returns : Bool) (used : ℕ → Bool) (k : ℕ) (cs : List Claim) (stamp : ℕ) → AreClaims cs → UsedFrom returns used k cs → TellsFrom used k cs stamp (meeting_of returns k cs stamp)
meets_tells returns used k [] stamp h u = absurd h
meets_tells returns used k (c ∷ []) stamp h u = last_tells used k c stamp h u (is_counted c.position stamp) refl
meets_tells returns used k (c ∷ d ∷ cs) stamp h u =
    by_test returns (is_counted c.position stamp) (not returns && is_counted c.position stamp) refl refl u.0 (meets_tells returns used (suc k) (d ∷ cs) stamp h.1 u.1)
  where
    by_test : (r z y : Bool) → is_counted c.position stamp ≡ z → (not r && z) ≡ y → used k ≡ not r → TellsFrom used (suc k) (d ∷ cs) stamp (meeting_of returns (suc k) (d ∷ cs) stamp) →
        TellsFrom used k (c ∷ d ∷ cs) stamp (if y then told_by k c else meeting_of returns (suc k) (d ∷ cs) stamp)
    by_test false true true e q w rest = (0, omega arith, refl, w, rw e (rw h.0 refl))
    by_test false false false e q w rest = tells_next used k c (d ∷ cs) stamp (meeting_of returns (suc k) (d ∷ cs) stamp) (λ t. rw e (rw h.0 refl)) rest
    by_test true z false e q w rest = tells_next used k c (d ∷ cs) stamp (meeting_of returns (suc k) (d ∷ cs) stamp) (λ t. absurd (not_both (used k) w t)) rest
      where
        not_both : (b : Bool) → b ≡ false → IsTrue b → ⊥
        not_both true f t = absurd (cc)
        not_both false f t = absurd (cc)
    by_test false true false e q w rest = absurd (cc)
    by_test false false true e q w rest = absurd (cc)
    by_test true z true e q w rest = absurd (cc)

-- of a view
abbrev pub Tells : View → ℕ → Meeting → Type 0
Tells v stamp own_cut = (i : ℕ) (c : Claim) → slice_get v.claims i ≡ Some c → IsTrue (is_used v i) → asks_each c stamp ≡ true
Tells v stamp (told_by i c) = (slice_get v.claims i ≡ Some c) × IsTrue (is_used v i) × (asks_each c stamp ≡ false)

used_all : (used : ℕ → Bool) → ((k : ℕ) → used k ≡ true) → (k : ℕ) (cs : List Claim) → UsedFrom false used k cs
used_all used f k [] = tt
used_all used f k (c ∷ []) = f k
used_all used f k (c ∷ d ∷ cs) = (f k, used_all used f (suc k) (d ∷ cs))

used_of : (returns : Bool) (cs : List Claim) → (returns ≡ true → length cs ≡ 2) → UsedFrom returns (λ i. not (returns && nat_eq i 0)) 0 cs
used_of false cs h = used_all (λ i. true) (λ k. refl) 0 cs
used_of true [] h = tt
used_of true (c ∷ []) h = absurd (let e = h refl in omega (arith, e))
used_of true (c ∷ d ∷ []) h = (refl, refl)
used_of true (c ∷ d ∷ e ∷ cs) h = absurd (let l = h refl in omega (arith, l))

from_zero : (v : View) (stamp : ℕ) (m : Meeting) → TellsFrom (is_used v) 0 v.claims stamp m → Tells v stamp m
from_zero v stamp own_cut h = λ i c e u. h i c e (subst (λ (n : ℕ). IsTrue (is_used v n)) (let q : i ≡ 0 + i = omega arith in q) u)
from_zero v stamp (told_by i c) h =
    let e : h.0 ≡ i = (let q = h.1 in omega (arith, q)) in
    (subst (λ (n : ℕ). slice_get v.claims n ≡ Some c) e h.2, h.3, h.4)

pub meeting_tells : (v : View) → IsView v → (stamp : ℕ) → Tells v stamp (meeting_of v.returns 0 v.claims stamp)
meeting_tells v h stamp = from_zero v stamp (meeting_of v.returns 0 v.claims stamp) (meets_tells v.returns (is_used v) 0 v.claims stamp h.claims (used_of v.returns v.claims h.one_source))

-- ---- stops

-- each claim that is followed is held at the node
abbrev pub AllHeld : View → Gathered → ℕ → Branch → Tree → Type 0
AllHeld v g n b t = (i : ℕ) (c : Claim) → slice_get v.claims i ≡ Some c → IsTrue (is_used v i) → Held v.columns i c g.roles g.groups g.taken n b t

abbrev pub HeldAt : View → Gathered → ℕ → Claim → TreeSpot → Type 0
HeldAt v g i c s = Held v.columns i c g.roles g.groups g.taken s.node s.branch s.tree

-- the node stands in the word's tree
abbrev pub Stands : View → TreeSpot → TreeSpot → Type 0
Stands v root s = StandsIn v.columns root.node root.branch root.tree s

-- of each group of which a member was taken, that member is held
abbrev pub TakenHeld : View → TreeSpot → Gathered → Type 0
TakenHeld v root g = (i n : ℕ) (side : Bool) (c : Claim) → slice_get v.claims i ≡ Some c → IsTrue (is_used v i) → taken_at i n g.taken ≡ Some side →
    (b : Branch) (col : ℕ) (k : ℤ) (t u : Tree) → Stands v root (spot n b (cut_tree col k t u)) →
    HeldAt v g i c (side_of side (low_side v.columns n b col k t) (high_side v.columns n b col k t u))

-- a node that is reached: it stands in the tree, is refuted, and its branch is on the way
pub record Reached (v : View) (root : TreeSpot) (W : Branch → Type 0) (s : TreeSpot) : Type 0 where
  pub stands : Stands v root s
  pub refuted : TreeRefutes s.tree (rows_goal s.branch)
  pub way : W s.branch

-- an own cut, whose sides are reached and held
pub record CutReached (v : View) (root : TreeSpot) (W : Branch → Type 0) (g : Gathered) (r col : ℕ) (k : ℤ) (low high : TreeSpot) : Type 0 where
  pub branch : Branch
  pub row : r ≡ length branch.rows
  pub way : W branch
  pub own : meeting_of v.returns 0 v.claims (column_stamp v.columns col) ≡ own_cut
  pub low_branch : low.branch ≡ with_cut branch (column_stamp v.columns col) (at_most col k)
  pub high_branch : high.branch ≡ with_cut branch (column_stamp v.columns col) (above col k)
  pub low_stands : Stands v root low
  pub high_stands : Stands v root high
  pub low_refuted : TreeRefutes low.tree (rows_goal low.branch)
  pub high_refuted : TreeRefutes high.tree (rows_goal high.branch)
  pub low_held : AllHeld v g low.node low.branch low.tree
  pub high_held : AllHeld v g high.node high.branch high.tree

-- a group that waits
pub record GroupReached (v : View) (root : TreeSpot) (W : Branch → Type 0) (g : Gathered) (s : TreeSpot) : Type 0 where
  pub reached : Reached v root W s
  pub held : AllHeld v g s.node s.branch s.tree
  pub claim : ℕ
  pub waits : Member g.groups (claim, s)

pub record LeafReached (v : View) (root : TreeSpot) (W : Branch → Type 0) (g : Gathered) (n : ℕ) (b : Branch) (parts : List (ℕ × ℤ)) : Type 0 where
  pub stands : Stands v root (spot n b (leaf_tree parts))
  pub contradicts : Contradicts b.rows parts
  pub way : W b
  pub held : AllHeld v g n b (leaf_tree parts)

abbrev pub StopsWell : View → TreeSpot → (Branch → Type 0) → Gathered → Stop → Type 0
StopsWell v root W g (at_leaf n b parts) = LeafReached v root W g n b parts
StopsWell v root W g (at_cut r col k low high) = CutReached v root W g r col k low high
StopsWell v root W g (at_group s) = GroupReached v root W g s
StopsWell v root W g nowhere = ⊥

-- cuts that a claim tells do not lead off the way
abbrev pub KeepsWay : View → (Branch → Type 0) → Type 0
KeepsWay v W = (b : Branch) (col : ℕ) (k : ℤ) (i : ℕ) (c : Claim) → meeting_of v.returns 0 v.claims (column_stamp v.columns col) ≡ told_by i c → W b →
    W (with_cut b (column_stamp v.columns col) (at_most col k)) × W (with_cut b (column_stamp v.columns col) (above col k))

pub refuted_uncased : (t : Tree) (b : Branch) → TreeRefutes t (rows_goal b) → IsUncased t
refuted_uncased (leaf_tree parts) b r = tt
refuted_uncased (cut_tree c k t u) b r = (
  refuted_uncased t (with_cut b 0 (at_most c k)) r.2,
  refuted_uncased u (with_cut b 0 (above c k)) r.3,
)
refuted_uncased (cases_tree ts) b r = absurd r

-- by what is followed of the claim that tells
follow_well : (v : View) (root : TreeSpot) (W : Branch → Type 0) (g : Gathered) (a : Asked) (member : Option Bool) (P HL HH : Type 0) (s : TreeSpot) (low high : Stop) →
    FollowHeld a (WaitsUnless member P) HL HH → (HL → StopsWell v root W g low) → (HH → StopsWell v root W g high) → (P → StopsWell v root W g (at_group s)) →
    ((side : Bool) → member ≡ Some side → StopsWell v root W g (side_of side low high)) → StopsWell v root W g (followed a member s low high)
follow_well v root W g (one_part false) member P HL HH s low high h f x p m = f h
follow_well v root W g (one_part true) member P HL HH s low high h f x p m = x h
follow_well v root W g both_parts member P HL HH s low high h f x p m = absurd h
follow_well v root W g some_part None P HL HH s low high h f x p m = p h
follow_well v root W g some_part (Some side) P HL HH s low high h f x p m = m side refl

-- each claim is held at a side that the claim which tells holds
all_at_low : (v : View) → IsView v → (g : Gathered) (n : ℕ) (b : Branch) (col : ℕ) (k : ℤ) (t u : Tree) (i : ℕ) (c : Claim) → Tells v (column_stamp v.columns col) (told_by i c) →
    AllHeld v g n b (cut_tree col k t u) → HeldAt v g i c (low_side v.columns n b col k t) →
    AllHeld v g (suc n) (with_cut b (column_stamp v.columns col) (at_most col k)) t
all_at_low v view g n b col k t u i c told all h j d e used = by_test (asks_each d (column_stamp v.columns col)) refl
  where
    by_test : (z : Bool) → asks_each d (column_stamp v.columns col) ≡ z → HeldAt v g j d (low_side v.columns n b col k t)
    by_test true q = (sides_held v.columns j d g.roles g.groups g.taken n b col k t u q (all j d e used)).0
    by_test false q =
        let same : i ≡ j = view.one_asks (column_stamp v.columns col) i j c d told.0 e told.1 used told.2 q in
        let claim : c ≡ d = same_some c d (sym told.0 ∙ ap (slice_get v.claims) same ∙ e) in
        subst (λ (m : ℕ). HeldAt v g m d (low_side v.columns n b col k t)) same (subst (λ (x : Claim). HeldAt v g i x (low_side v.columns n b col k t)) claim h)

all_at_high : (v : View) → IsView v → (g : Gathered) (n : ℕ) (b : Branch) (col : ℕ) (k : ℤ) (t u : Tree) (i : ℕ) (c : Claim) → Tells v (column_stamp v.columns col) (told_by i c) →
    AllHeld v g n b (cut_tree col k t u) → HeldAt v g i c (high_side v.columns n b col k t u) →
    AllHeld v g (high_side v.columns n b col k t u).node (with_cut b (column_stamp v.columns col) (above col k)) u
all_at_high v view g n b col k t u i c told all h j d e used = by_test (asks_each d (column_stamp v.columns col)) refl
  where
    by_test : (z : Bool) → asks_each d (column_stamp v.columns col) ≡ z → HeldAt v g j d (high_side v.columns n b col k t u)
    by_test true q = (sides_held v.columns j d g.roles g.groups g.taken n b col k t u q (all j d e used)).1
    by_test false q =
        let same : i ≡ j = view.one_asks (column_stamp v.columns col) i j c d told.0 e told.1 used told.2 q in
        let claim : c ≡ d = same_some c d (sym told.0 ∙ ap (slice_get v.claims) same ∙ e) in
        subst (λ (m : ℕ). HeldAt v g m d (high_side v.columns n b col k t u)) same (subst (λ (x : Claim). HeldAt v g i x (high_side v.columns n b col k t u)) claim h)

-- at a cut, where both sides stop well
cut_well : (v : View) → IsView v → (root : TreeSpot) (W : Branch → Type 0) → KeepsWay v W → (g : Gathered) → TakenHeld v root g → IsUncased root.tree →
    (n : ℕ) (b : Branch) (col : ℕ) (k : ℤ) (t u : Tree) → Reached v root W (spot n b (cut_tree col k t u)) → AllHeld v g n b (cut_tree col k t u) →
    (to_low to_high : Stop) →
    (Reached v root W (low_side v.columns n b col k t) → AllHeld v g (suc n) (with_cut b (column_stamp v.columns col) (at_most col k)) t → StopsWell v root W g to_low) →
    (Reached v root W (high_side v.columns n b col k t u) → AllHeld v g (high_side v.columns n b col k t u).node (with_cut b (column_stamp v.columns col) (above col k)) u → StopsWell v root W g to_high) →
    (m : Meeting) → meeting_of v.returns 0 v.claims (column_stamp v.columns col) ≡ m → Tells v (column_stamp v.columns col) m →
    StopsWell v root W g (stop_at m
    (λ i c. followed (asked_at c (column_stamp v.columns col) (truth_at v.columns c (low_side v.columns n b col k t).branch t) (truth_at v.columns c (high_side v.columns n b col k t u).branch u))
    (taken_at i n g.taken) (record { node = n; branch = b; tree = cut_tree col k t u }) to_low to_high)
    (at_cut (length b.rows) col k (low_side v.columns n b col k t) (high_side v.columns n b col k t u)))
cut_well v view root W keeps g taken un n b col k t u reached all to_low to_high f x own_cut e tells =
    let ss = sides_stand v.columns root.node root.branch root.tree un n b col k t u reached.stands in
    record {
      branch = b;
      row = refl;
      way = reached.way;
      own = e;
      low_branch = refl;
      high_branch = refl;
      low_stands = ss.low_stands;
      high_stands = ss.high_stands;
      low_refuted = reached.refuted.2;
      high_refuted = reached.refuted.3;
      low_held = λ j d q used. (sides_held v.columns j d g.roles g.groups g.taken n b col k t u (tells j d q used) (all j d q used)).0;
      high_held = λ j d q used. (sides_held v.columns j d g.roles g.groups g.taken n b col k t u (tells j d q used) (all j d q used)).1;
    }
cut_well v view root W keeps g taken un n b col k t u reached all to_low to_high f x (told_by i c) e tells =
    let ss = sides_stand v.columns root.node root.branch root.tree un n b col k t u reached.stands in
    let ways = keeps b col k i c e reached.way in
    let stamp : ℕ = column_stamp v.columns col in
    let low : TreeSpot = low_side v.columns n b col k t in
    let high : TreeSpot = high_side v.columns n b col k t u in
    let go_low : HeldAt v g i c low → StopsWell v root W g to_low =
    λ h. f (record { stands = ss.low_stands; refuted = reached.refuted.2; way = ways.0 }) (all_at_low v view g n b col k t u i c tells all h) in
    let go_high : HeldAt v g i c high → StopsWell v root W g to_high =
    λ h. x (record { stands = ss.high_stands; refuted = reached.refuted.3; way = ways.1 }) (all_at_high v view g n b col k t u i c tells all h) in
    follow_well v root W g (asked_at c stamp (truth_at v.columns c low.branch t) (truth_at v.columns c high.branch u)) (taken_at i n g.taken)
    (Member g.groups (i, spot n b (cut_tree col k t u))) (HeldAt v g i c low) (HeldAt v g i c high) (spot n b (cut_tree col k t u)) to_low to_high
    (side_held v.columns i c g.roles g.groups g.taken n b col k t u tells.2 (all i c tells.0 tells.1)) go_low go_high
    (λ m. record { reached = reached; held = all; claim = i; waits = m })
    (λ side q. by_side side go_low go_high (taken i n side c tells.0 tells.1 q b col k t u reached.stands))
  where
    by_side : (side : Bool) → (HeldAt v g i c (low_side v.columns n b col k t) → StopsWell v root W g to_low) →
        (HeldAt v g i c (high_side v.columns n b col k t u) → StopsWell v root W g to_high) →
        HeldAt v g i c (side_of side (low_side v.columns n b col k t) (high_side v.columns n b col k t u)) → StopsWell v root W g (side_of side to_low to_high)
    by_side false p q h = p h
    by_side true p q h = q h

-- on the way from a node where all is held it stops well
pub stops_well : (v : View) → IsView v → (root : TreeSpot) (W : Branch → Type 0) → KeepsWay v W → (g : Gathered) → TakenHeld v root g → IsUncased root.tree →
    (n : ℕ) (b : Branch) (t : Tree) → Reached v root W (spot n b t) → AllHeld v g n b t → StopsWell v root W g (stops v g.taken n b t)
stops_well v view root W keeps g taken un n b (leaf_tree parts) reached all =
    record { stands = reached.stands; contradicts = reached.refuted; way = reached.way; held = all }
stops_well v view root W keeps g taken un n b (cut_tree col k t u) reached all =
    let low : TreeSpot = low_side v.columns n b col k t in
    let high : TreeSpot = high_side v.columns n b col k t u in
    cut_well v view root W keeps g taken un n b col k t u reached all (stops v g.taken low.node low.branch t) (stops v g.taken high.node high.branch u)
    (stops_well v view root W keeps g taken un low.node low.branch t) (stops_well v view root W keeps g taken un high.node high.branch u)
    (meeting_of v.returns 0 v.claims (column_stamp v.columns col)) refl (meeting_tells v view (column_stamp v.columns col))
stops_well v view root W keeps g taken un n b (cases_tree ts) reached all = absurd reached.refuted
