-- The steps of the walk of a triple, over plain values: each leads from where the refutation has come to on to where it comes to next.
use Rattle.std.proofs.Common.{◌≡◌, ◌∙◌, ℕ, zero, suc, ◌+◌, ◌^◌, ◌<◌, ◌≤◌, ℤ, Bool, true, false, List, [], ◌∷◌, ◌++◌, length, map, reverse, take, drop, refl, sym, ap, subst, arith, length-append, Option, None, Some}
use Rattle.std.specs.Prelude.{not, ◌&&◌, nat_eq, slice_get}
use Rattle.std.specs.List.{AllByRecursion}
use Rattle.std.proofs.lemmas.List.{append-nil, map-append, map_push, reverse-append, take_all, take-append-le, drop-append-le}
use Rattle.lin_rows.specs.Rows.{AscendsFrom}
use Rattle.farkas_check.specs.Nodes.{PlainNode, leaf, cut, cases, plain, plain_nodes}
use Rattle.farkas_check.specs.Trees.{Tree, leaf_tree, cut_tree, cases_tree, prefix_of}
use Rattle.farkas_check.specs.declared.refutations.Node.{Node}
use Rattle.nested_itp.specs.NestedPredicates.Sums.{Branch, terms_from}
use Rattle.nested_itp.specs.NestedRefutations.Refutations.{Claim, TreeSpot, side_of, low_side, high_side, Exposed, exposed, Role, View, Gathered, multipliers, Stop, at_leaf, at_cut, at_group, nowhere, stops_at, with_own, atom_roles, is_used, of_claim, with_member, member_taken, opened, leaf_of}
use Rattle.nested_itp.specs.NestedRefutations.Walked.{ComesTo, AreWalkedFrom}
use Rattle.nested_itp.specs.NestedRefutations.Waiting.{IsNotEmpty, AfterOpening, HasGroupAlong, GroupsWait}
use Rattle.nested_itp.proofs.NestedRefutations.PutLaws.{comes_first, comes_leaf, comes_cut, comes_cases, comes_last}
use Rattle.nested_itp.specs.TripleSteps.Steps.{column_place}
use Rattle.nested_itp.specs.declared.triple_steps.columns.Columns.{Columns}
use Rattle.nested_itp.specs.TripleWalks.Spots.{sides_in}
use Rattle.nested_itp.specs.TripleWalks.Telling.{Tells, AllTell, IsExposed}
use Rattle.nested_itp.specs.TripleWalks.Stops.{taken_of, IsPlace, IsStop}
use Rattle.nested_itp.specs.TripleWalks.Leaves.{Ascends}
use Rattle.nested_itp.specs.TripleWalks.Putting.{IsPlaced}
use Rattle.nested_itp.specs.TripleWalks.Goals.{role_of, group_of, PlainGoal, plain_goal, with_exposed, with_taken, without_first, mark_of, gone_back}
use Rattle.nested_itp.specs.TripleWalks.Ties.Walking.{parts_in, cut_in, IsLed, Known, IsThere, StopsThere, IsCutTree, IsGroup, IsAtHand, IsWithin, Keeps, TakesMember, IsBegun, IsWaiting, AreWaiting, HasCome, IsComing, ComesNext}
use Rattle.nested_itp.proofs.TripleWalks.TellingLaws.{IsCut, HasCut, known_low, known_high, known_groups, groups_are_cuts, told_at}
use Rattle.nested_itp.specs.declared.triple_walks.trees.Tree as code_trees
use Rattle.nested_itp.specs.declared.triple_walks.claims.Claim as claims
use Rattle.nested_itp.specs.declared.triple_walks.exposing.Exposed as found
use Rattle.nested_itp.specs.declared.triple_walks.stops.Spot as place
use Rattle.nested_itp.specs.declared.triple_walks.stops.Taken as member
use Rattle.nested_itp.specs.declared.triple_walks.stops.Stop as stop_found
use Rattle.nested_itp.specs.declared.triple_walks.stops.Stop.TheVariants as stopped
use Rattle.nested_itp.specs.declared.triple_walks.goals.Role as row
use Rattle.nested_itp.specs.declared.triple_walks.goals.Goal as goals
use Rattle.nested_itp.specs.declared.triple_walks.goals.Group as group
use Rattle.nested_itp.specs.declared.triple_walks.goals.Mark as mark
use Rattle.nested_itp.specs.declared.triple_walks.walks.Guide as code
use Rattle.nested_itp.specs.declared.triple_walks.walks.Begin as start
use Rattle.nested_itp.specs.declared.triple_walks.walks.Begin.TheVariants.{Root, Side, Member}
use Rattle.nested_itp.specs.declared.triple_walks.walks.Waiting as part
use Rattle.nested_itp.specs.declared.triple_walks.walks.Walk as walks

pub none_some : {X : Type 0} (o : Option X) (x : X) → o ≡ None → o ≡ Some x → ⊥
none_some o x e f = absurd (cc)

pub some_same : {X : Type 0} (o : Option X) (x y : X) → o ≡ Some x → o ≡ Some y → x ≡ y
some_same o x y e f = cc

pub all_joined : {X : Type 0} (P : X → Type 0) (xs ys : List X) → AllByRecursion P xs → AllByRecursion P ys → AllByRecursion P (xs ++ ys)
all_joined P [] ys h k = k
all_joined P (x ∷ xs) ys h k = (h.0, all_joined P xs ys h.1 k)

-- the numbers of a group, and those of a claim's at a cut
abbrev pub number_of : ℕ × TreeSpot → ℕ × ℕ
number_of p = (p.0, p.1.node)

abbrev with_claim : ℕ → ℕ → ℕ × ℕ
with_claim i n = (i, n)

same_goal : (r s : List Role) (a b : List (ℕ × ℕ)) (n : ℕ) (t u : List (ℕ × ℕ × Bool)) → r ≡ s → a ≡ b → t ≡ u →
    (let p : PlainGoal = record { roles = r; groups = a; first = n; taken = t } in p) ≡ record { roles = s; groups = b; first = n; taken = u }
same_goal r s a b n t u d e f = cc

-- ---- what is kept

pub keeps_same : (g : PlainGoal) → Keeps g g
keeps_same g = λ m w. (w, refl)

pub keeps_on : (a b c : PlainGoal) → Keeps a b → Keeps b c → Keeps a c
keeps_on a b c f g = λ m w. let x = f m w in let y = g m x.0 in (y.0, y.1 ∙ x.1)

pub keeps_added : (a b : PlainGoal) (roles : List Role) (groups : List (ℕ × ℕ)) (taken : List (ℕ × ℕ × Bool)) → b.roles ≡ a.roles ++ roles → b.groups ≡ a.groups ++ groups → b.taken ≡ a.taken ++ taken → Keeps a b
keeps_added a b roles groups taken d e f = λ m w.
    let p = length-append a.roles roles in
    let q = length-append a.groups groups in
    let r = length-append a.taken taken in
    let i : length b.roles ≡ length (a.roles ++ roles) = ap length d in
    let j : length b.groups ≡ length (a.groups ++ groups) = ap length e in
    let k : length b.taken ≡ length (a.taken ++ taken) = ap length f in
    let x = w.roles in
    let y = w.groups in
    let z = w.taken in (
      record { roles = omega (arith, p, i, x); groups = omega (arith, q, j, y); taken = omega (arith, r, k, z) },
      same_goal _ _ _ _ m.first _ _ (ap (take m.roles) d ∙ take-append-le m.roles a.roles roles w.roles) (ap (take m.groups) e ∙ take-append-le m.groups a.groups groups w.groups)
          (ap (take m.taken) f ∙ take-append-le m.taken a.taken taken w.taken),
    )

pub keeps_taken : (a b : PlainGoal) (t : ℕ × ℕ × Bool) → b ≡ with_taken t a → Keeps a b
keeps_taken a b t e = subst (Keeps a) (sym e) (keeps_added a (with_taken t a) [] [] (t ∷ []) (sym (append-nil a.roles)) (sym (append-nil a.groups)) refl)

pub keeps_given : (a b c : PlainGoal) (t : ℕ × ℕ × Bool) (i : ℕ) (used : Bool) (leaves groups : List ℕ) → b ≡ with_taken t a → c ≡ with_exposed i used leaves groups b → Keeps a c
keeps_given a b c t i used leaves groups d e =
    keeps_on a b c (keeps_taken a b t d)
    (subst (Keeps b) (sym e) (keeps_added b (with_exposed i used leaves groups b) (atom_roles used i leaves) (map (with_claim i) groups) [] refl refl (sym (append-nil b.taken))))

-- ---- a part begins

-- the claim of a member is there, and so are the sides of its cut
pub member_claimed : (v : View) (x : code.Guide) (t : member.Taken) (g h : Gathered) → TakesMember v x t g h → slice_get x.claims.now t.claim ≡ None → ⊥
member_claimed v x t g h m e =
    let told = told_at v.columns x.tree.now m.side v.claims x.claims.now t.claim m.claim m.known.claims m.found in
    none_some (slice_get x.claims.now t.claim) told.0 e told.1

pub member_sided : (v : View) (x : code.Guide) (t : member.Taken) (g h : Gathered) → TakesMember v x t g h → sides_in x.tree.now t.node ≡ None → ⊥
member_sided v x t g h m e = none_some (sides_in x.tree.now t.node) (m.first, m.second) e m.sides

cut_is : (t : Tree) → IsCut t → IsCutTree t
cut_is t c = subst IsCutTree (sym c.is_cut) tt

groups_known : (v : View) (x : code.Guide) (i : ℕ) (c : Claim) → slice_get v.claims i ≡ Some c → (ss : List TreeSpot) → AllByRecursion (Known v x) ss → AllByRecursion HasCut ss →
    AllByRecursion (IsGroup v x) (of_claim i ss)
groups_known v x i c e [] h k = tt
groups_known v x i c e (s ∷ ss) h k = (record { claim = c; found = e; is_cut = cut_is s.tree k.0; known = h.0 }, groups_known v x i c e ss h.1 k.1)

pub of_claim_numbers : (i : ℕ) (ss : List TreeSpot) → map (with_claim i) (map (λ z. z.node) ss) ≡ map number_of (of_claim i ss)
of_claim_numbers i [] = refl
of_claim_numbers i (s ∷ ss) = ap (λ (l : List (ℕ × ℕ)). (i, s.node) ∷ l) (of_claim_numbers i ss)

-- what a claim gives at a node: its rows and groups are those of the definition
pub groups_joined : (v : View) (x : code.Guide) (i : ℕ) (c : Claim) (s : TreeSpot) (first : ℕ) (all : List (ℕ × ℕ)) (waits : List (ℕ × TreeSpot)) (groups : List ℕ) → slice_get v.claims i ≡ Some c → Known v x s →
    first ≤ length all → drop first all ≡ map number_of waits → groups ≡ map (λ z. z.node) (exposed v.columns c s.node s.branch s.tree).groups →
    drop first (all ++ map (with_claim i) groups) ≡ map number_of (waits ++ of_claim i (exposed v.columns c s.node s.branch s.tree).groups)
groups_joined v x i c s first all waits groups found known opened e d =
    let more : List TreeSpot = (exposed v.columns c s.node s.branch s.tree).groups in
    drop-append-le first all (map (with_claim i) groups) opened ∙ ap (λ (l : List (ℕ × ℕ)). l ++ map (with_claim i) groups) e ∙
    ap (λ (l : List ℕ). map number_of waits ++ map (with_claim i) l) d ∙ ap (λ (l : List (ℕ × ℕ)). map number_of waits ++ l) (of_claim_numbers i more) ∙
    sym (map-append number_of waits (of_claim i more))

pub groups_known_at : (v : View) (x : code.Guide) (i : ℕ) (c : Claim) (s : TreeSpot) → slice_get v.claims i ≡ Some c → Known v x s →
    AllByRecursion (IsGroup v x) (of_claim i (exposed v.columns c s.node s.branch s.tree).groups)
groups_known_at v x i c s found known =
    groups_known v x i c found (exposed v.columns c s.node s.branch s.tree).groups (known_groups v.columns (plain_nodes x.nodes.now) x.tree.now v.claims x.claims.now c s known)
    (groups_are_cuts v.columns c s)

pub used_is : (v : View) (x : code.Guide) (i : ℕ) (used : Bool) → IsLed v x → used ≡ not (x.returns && nat_eq i 0) → used ≡ is_used v i
used_is v x i used led e = e ∙ ap (λ (b : Bool). not (b && nat_eq i 0)) (sym led.returns)

pub member_given : (v : View) (x : code.Guide) (t : member.Taken) (g h : Gathered) (a b c : PlainGoal) (y : claims.Claim) (sides : ℕ × ℕ) (node : ℕ) (used : Bool) (e : found.Exposed) → IsLed v x →
    b ≡ with_taken (taken_of t) a → slice_get x.claims.now t.claim ≡ Some y → sides_in x.tree.now t.node ≡ Some sides → node ≡ side_of t.second sides.0 sides.1 →
    ((columns : List ℕ) (k : Claim) (s : TreeSpot) → node ≡ s.node → Tells columns x.tree.now s k y → IsExposed (exposed columns k s.node s.branch s.tree) e) → used ≡ not (x.returns && nat_eq t.claim 0) →
    c ≡ with_exposed t.claim used e.leaves.items e.groups.items b → IsAtHand v x g a → TakesMember v x t g h → IsAtHand v x h c
member_given v x t g h a b c y sides node used e led eb ey es en f eu ec at m =
    let s : TreeSpot = m.side in
    let i : ℕ = t.claim in
    let more : Exposed = exposed v.columns m.claim s.node s.branch s.tree in
    let told = told_at v.columns x.tree.now s v.claims x.claims.now i m.claim m.known.claims m.found in
    let same : told.0 ≡ y = some_same (slice_get x.claims.now i) told.0 y told.1 ey in
    let tells : Tells v.columns x.tree.now s m.claim y = subst (Tells v.columns x.tree.now s m.claim) same told.2 in
    let pair : sides ≡ (m.first, m.second) = some_same (sides_in x.tree.now t.node) sides (m.first, m.second) es m.sides in
    let at_node : node ≡ s.node = en ∙ ap (λ (p : ℕ × ℕ). side_of t.second p.0 p.1) pair ∙ sym m.node in
    let given : IsExposed more e = f v.columns m.claim s at_node tells in
    let is_here : used ≡ is_used v i = used_is v x i used led eu in
    let from : PlainGoal = with_exposed i used e.leaves.items e.groups.items (with_taken (taken_of t) a) in
    let l = length-append a.groups (map (with_claim i) e.groups.items) in
    let o = at.goal.opened in
    subst (λ (z : Gathered). IsAtHand v x z c) (sym m.goes)
    (subst (IsAtHand v x (with_member v i m.claim t.node t.second s g)) (sym (ec ∙ ap (with_exposed i used e.leaves.items e.groups.items) eb))
    (record {
      goal = record {
        roles = ap (λ (r : List Role). r ++ atom_roles used i e.leaves.items) at.goal.roles ∙ ap (λ (z : Bool). g.roles ++ atom_roles z i e.leaves.items) is_here ∙
            ap (λ (r : List ℕ). g.roles ++ atom_roles (is_used v i) i r) given.leaves;
        groups = groups_joined v x i m.claim s a.first a.groups g.groups e.groups.items m.found m.known at.goal.opened at.goal.groups given.groups;
        opened = omega (arith, l, o);
        taken = reverse-append a.taken (taken_of t ∷ []) ∙ ap (λ (r : List (ℕ × ℕ × Bool)). taken_of t ∷ r) at.goal.taken;
      };
      groups = all_joined (IsGroup v x) g.groups (of_claim i more.groups) at.groups (groups_known_at v x i m.claim s m.found m.known);
    }))

-- ---- parts that wait

pub waiting_kept : (v : View) (x : code.Guide) (a b : PlainGoal) → Keeps a b → (ws : List part.Waiting) (ps : List (Gathered × Stop)) → AreWaiting v x a ws ps → AreWaiting v x b ws ps
waiting_kept v x a b k [] [] h = tt
waiting_kept v x a b k [] (p ∷ ps) h = absurd h
waiting_kept v x a b k (w ∷ ws) [] h = absurd h
waiting_kept v x a b k (w ∷ ws) (p ∷ ps) h =
    let f = k w.mark h.0 in (
      f.0,
      subst (λ (z : PlainGoal). IsWaiting v x z w p.0 p.1) (sym f.1) h.1,
      subst (λ (z : PlainGoal). AreWaiting v x z ws ps) (sym f.1) h.2,
    )

back_here : (g : PlainGoal) → gone_back (mark_of g) g ≡ g
back_here g =
    same_goal _ _ _ _ g.first _ _ (take_all (length g.roles) g.roles (omega arith)) (take_all (length g.groups) g.groups (omega arith)) (take_all (length g.taken) g.taken (omega arith))

-- one more part waits, from the goal at hand on
pub waits_more : (v : View) (x : code.Guide) (g : PlainGoal) (w : part.Waiting) (h : Gathered) (stop : Stop) (ws : List part.Waiting) (ps : List (Gathered × Stop)) → w.mark ≡ mark_of g →
    IsWaiting v x g w h stop → AreWaiting v x g ws ps → AreWaiting v x g (w ∷ ws) ((h, stop) ∷ ps)
waits_more v x g w h stop ws ps e is are =
    let back : gone_back w.mark g ≡ g = ap (λ (m : mark.Mark). gone_back m g) e ∙ back_here g in (
      subst (λ (m : mark.Mark). IsWithin m g) (sym e) (record { roles = omega arith; groups = omega arith; taken = omega arith }),
      subst (λ (z : PlainGoal). IsWaiting v x z w h stop) (sym back) is,
      subst (λ (z : PlainGoal). AreWaiting v x z ws ps) (sym back) are,
    )

-- ---- from a part that waited on

pub part_comes : (v : View) (x : code.Guide) (first : Gathered) (from : Stop) (next : part.Waiting) (old here new : walks.Walk) → IsLed v x → ComesNext v x first from next old →
    plain_goal here.goal ≡ gone_back next.mark (plain_goal old.goal) → Keeps (plain_goal here.goal) (plain_goal new.goal) →
    ((g h : Gathered) → IsAtHand v x g (plain_goal here.goal) → IsBegun v x next.begin g h → IsAtHand v x h (plain_goal new.goal)) → new.nodes.items ≡ old.nodes.items → new.waiting.items ≡ old.waiting.items →
    (h : Gathered) × (s : TreeSpot) × IsThere v x s next.spot × IsComing v x first from h (stops_at v h.taken s) new
part_comes v x first from next old here new led c e k f en ew =
    let w : IsWaiting v x (gone_back next.mark (plain_goal old.goal)) next c.here.0 c.here.1 = c.waiting.1 in
    let h : Gathered = c.here.0 in
    let back : gone_back next.mark (plain_goal old.goal) ≡ plain_goal here.goal = sym e in (
      h,
      w.spot,
      w.there,
      record {
        left = c.left;
        comes = subst (λ (l : List Node). ComesTo v first from (plain_nodes l) ((h, stops_at v h.taken w.spot) ∷ c.left)) (sym en)
            (subst (λ (z : Stop). ComesTo v first from (plain_nodes old.nodes.items) ((h, z) ∷ c.left)) w.stops c.comes);
        waiting = subst (λ (l : List part.Waiting). AreWaiting v x (plain_goal new.goal) (reverse l) c.left) (sym ew)
            (waiting_kept v x (plain_goal here.goal) (plain_goal new.goal) k (reverse old.waiting.items) c.left
            (subst (λ (z : PlainGoal). AreWaiting v x z (reverse old.waiting.items) c.left) back c.waiting.2));
        goal = f w.before h (subst (IsAtHand v x w.before) back w.goal) w.begun;
        groups = subst (GroupsWait v h) w.stops w.groups;
      },
    )

-- where the refutation stops, with the members that were taken
pub stop_is : (v : View) (x : code.Guide) (h : Gathered) (s : TreeSpot) (p : place.Spot) (g : goals.Goal) (taken : List member.Taken) (f to : stop_found.Stop) → IsLed v x → IsThere v x s p → IsAtHand v x h (plain_goal g) →
    taken ≡ g.taken.items → f ≡ to →
    ((w : View) (nodes : List PlainNode) (rows : ℕ) (z : TreeSpot) → w.returns ≡ x.returns → IsPlace w.columns nodes x.tree.now w.claims x.claims.now rows z p →
    IsStop w.columns nodes x.tree.now w.claims x.claims.now rows (stops_at w (reverse (map taken_of taken)) z) f) → StopsThere v x (stops_at v h.taken s) to
stop_is v x h s p g taken f to led there at et ef stops =
    let members : reverse (map taken_of taken) ≡ h.taken = ap (λ (l : List member.Taken). reverse (map taken_of l)) et ∙ at.goal.taken in
    subst (λ (z : stop_found.Stop). StopsThere v x (stops_at v h.taken s) z) ef
    (subst (λ (l : List (ℕ × ℕ × Bool)). StopsThere v x (stops_at v l s) f) members (stops v (plain_nodes x.nodes.now) x.rows s led.returns there))

-- ---- a leaf

-- the parts of a leaf of the word's refutation ascend
pub parts_ordered : (nodes : List PlainNode) (m : ℕ) (parts : List (ℕ × ℤ)) → AllByRecursion Ascends nodes → parts_in (slice_get nodes m) ≡ Some parts → AscendsFrom 0 parts
parts_ordered [] m parts h e = absurd (cc)
parts_ordered (leaf found ∷ nodes) zero parts h e = subst (AscendsFrom 0) (some_same (Some found) found parts refl e) h.0
parts_ordered (cut c k ∷ nodes) zero parts h e = absurd (cc)
parts_ordered (cases n ∷ nodes) zero parts h e = absurd (cc)
parts_ordered (n ∷ nodes) (suc m) parts h e = parts_ordered nodes m parts h.1 e

-- at a leaf there is one
pub leaf_there : (v : View) (x : code.Guide) (stop : Stop) (m : ℕ) → StopsThere v x stop (stopped.Leaf m) → parts_in (slice_get (plain_nodes x.nodes.now) m) ≡ None → ⊥
leaf_there v x (at_leaf n b parts) m h e =
    none_some (parts_in (slice_get (plain_nodes x.nodes.now) m)) parts e (ap (λ (i : ℕ). parts_in (slice_get (plain_nodes x.nodes.now) i)) h.0 ∙ ap parts_in h.1.spelled)
leaf_there v x (at_cut r col k low high) m h e = absurd h
leaf_there v x (at_group s) m h e = absurd h
leaf_there v x nowhere m h e = absurd h

pub leaf_put : (v : View) (x : code.Guide) (first h : Gathered) (from stop : Stop) (m : ℕ) (old new : walks.Walk) (parts found : List (ℕ × ℤ)) (put : Node) (roles : List row.Role) → StopsThere v x stop (stopped.Leaf m) →
    IsComing v x first from h stop old → parts_in (slice_get (plain_nodes x.nodes.now) m) ≡ Some parts →
    ((w : View) (b : Branch) → AllTell w.columns x.tree.now (record { node = m; branch = b; tree = leaf_tree parts }) w.claims x.claims.now →
    found ≡ terms_from 0 (multipliers w m b parts (map role_of roles))) → roles ≡ old.goal.roles.items → plain put ≡ leaf found → new.nodes.items ≡ old.nodes.items ++ put ∷ [] → new.goal ≡ old.goal →
    new.waiting.items ≡ old.waiting.items → HasCome v x first from new
leaf_put v x first h from (at_leaf n b given) m old new parts found put roles at c ep f er e en eg ew =
    let nodes : List PlainNode = plain_nodes x.nodes.now in
    let same : given ≡ parts = some_same (parts_in (slice_get nodes m)) given parts (ap (λ (i : ℕ). parts_in (slice_get nodes i)) at.0 ∙ ap parts_in at.1.spelled) ep in
    let tells : AllTell v.columns x.tree.now (record { node = m; branch = b; tree = leaf_tree parts }) v.claims x.claims.now =
    subst (λ (i : ℕ). AllTell v.columns x.tree.now (record { node = i; branch = b; tree = leaf_tree parts }) v.claims x.claims.now) (sym at.0)
    (subst (λ (l : List (ℕ × ℤ)). AllTell v.columns x.tree.now (record { node = n; branch = b; tree = leaf_tree l }) v.claims x.claims.now) same at.1.claims) in
    let is_role : map role_of roles ≡ h.roles = ap (map role_of) er ∙ c.goal.goal.roles in
    let is : found ≡ (leaf_of v h n b given).parts =
    f v b tells ∙ ap (λ (i : ℕ). terms_from 0 (multipliers v i b parts (map role_of roles))) at.0 ∙
    ap (λ (l : List (ℕ × ℤ)). terms_from 0 (multipliers v n b l (map role_of roles))) (sym same) ∙ ap (λ (l : List Role). terms_from 0 (multipliers v n b given l)) is_role in
    let listed : plain_nodes old.nodes.items ++ leaf (leaf_of v h n b given).parts ∷ [] ≡ plain_nodes new.nodes.items =
    sym (ap plain_nodes en ∙ map_push plain old.nodes.items put ∙ ap (λ (z : PlainNode). plain_nodes old.nodes.items ++ z ∷ []) (e ∙ ap leaf is)) in
    record {
      left = c.left;
      comes = subst (λ (l : List PlainNode). ComesTo v first from l c.left) listed (comes_leaf v first from (plain_nodes old.nodes.items) h n b given c.left c.comes);
      waiting = subst (λ (l : List part.Waiting). AreWaiting v x (plain_goal new.goal) (reverse l) c.left) (sym ew)
          (subst (λ (z : PlainGoal). AreWaiting v x z (reverse old.waiting.items) c.left) (ap plain_goal (sym eg)) c.waiting);
    }
leaf_put v x first h from (at_cut r col k low high) m old new parts found put roles at c ep f er e en eg ew = absurd at
leaf_put v x first h from (at_group s) m old new parts found put roles at c ep f er e en eg ew = absurd at
leaf_put v x first h from nowhere m old new parts found put roles at c ep f er e en eg ew = absurd at

-- ---- a cut

two_pushed : {X : Type 0} (xs : List X) (a b : X) → reverse ((xs ++ a ∷ []) ++ b ∷ []) ≡ b ∷ a ∷ reverse xs
two_pushed xs a b = reverse-append (xs ++ a ∷ []) (b ∷ []) ∙ ap (λ (l : List _). b ∷ l) (reverse-append xs (a ∷ []))

-- at a cut there is one
pub cut_there : (v : View) (x : code.Guide) (stop : Stop) (p : place.Spot) → StopsThere v x stop (stopped.Cut p) → cut_in (slice_get (plain_nodes x.nodes.now) p.node) ≡ None → ⊥
cut_there v x (at_leaf n b parts) p h e = absurd h
cut_there v x (at_cut r col k low high) p h e = none_some (cut_in (slice_get (plain_nodes x.nodes.now) p.node)) (col, k) e (ap cut_in h.here.known.spelled.0)
cut_there v x (at_group s) p h e = absurd h
cut_there v x nowhere p h e = absurd h

-- and its sides are read
pub cut_sided : (v : View) (x : code.Guide) (stop : Stop) (p : place.Spot) → IsLed v x → StopsThere v x stop (stopped.Cut p) → sides_in x.tree.now p.node ≡ None → ⊥
cut_sided v x (at_leaf n b parts) p led h e = absurd h
cut_sided v x (at_cut r col k low high) p led h e =
    none_some (sides_in x.tree.now p.node) (suc p.node, suc p.node + length (prefix_of h.first)) e
    h.here.known.sides.0
cut_sided v x (at_group s) p led h e = absurd h
cut_sided v x nowhere p led h e = absurd h

-- a side of a cut waits
side_waits : (v : View) (x : code.Guide) (g : PlainGoal) (h : Gathered) (r row col : ℕ) (k : ℤ) (side : Bool) (low high : TreeSpot) (w : part.Waiting) → r ≡ row → w.begin ≡ Side row → IsAtHand v x h g →
    IsThere v x (side_of side low high) w.spot → GroupsWait v h (at_cut r col k low high) →
    IsWaiting v x g w (with_own v r col k side h) (stops_at v h.taken (side_of side low high))
side_waits v x g h r row col k side low high w e b at there groups = record {
  before = h;
  goal = at;
  begun = subst (λ (z : start.Begin). IsBegun v x z h (with_own v r col k side h)) (sym b)
      (record { column = col; number = k; side = side; goes = ap (λ (n : ℕ). with_own v n col k side h) e });
  spot = side_of side low high;
  there = there;
  stops = refl;
  groups = λ sides. groups (side ∷ sides);
}

-- the places of the sides
side_there : (v : View) (x : code.Guide) (s : TreeSpot) (p q : place.Spot) (b : Branch) → length b.rows ≡ x.rows + p.depth → length s.branch.rows ≡ length b.rows + 1 → q.node ≡ s.node → q.depth ≡ p.depth + 1 →
    Known v x s → IsThere v x s q
side_there v x s p q b e f n d k = record { node = n; depth = omega (arith, e, f, d); known = k }

pub cut_put : (v : View) (x : code.Guide) (first h : Gathered) (from stop : Stop) (p : place.Spot) (old new : walks.Walk) (c col row : ℕ) (k : ℤ) (sides : ℕ × ℕ) (put : Node) (low_at high_at : place.Spot)
    (low_part high_part : part.Waiting) → IsLed v x → StopsThere v x stop (stopped.Cut p) → IsComing v x first from h stop old → cut_in (slice_get (plain_nodes x.nodes.now) p.node) ≡ Some (c, k) →
    sides_in x.tree.now p.node ≡ Some sides → col ≡ column_place x.columns.now c → plain put ≡ cut col k → row ≡ x.rows + p.depth → low_at.node ≡ sides.0 → low_at.depth ≡ p.depth + 1 →
    high_at.node ≡ sides.1 → high_at.depth ≡ p.depth + 1 → low_part ≡ record { spot = low_at; begin = Side row; mark = mark_of (plain_goal old.goal) } →
    high_part ≡ record { spot = high_at; begin = Side row; mark = mark_of (plain_goal old.goal) } → new.nodes.items ≡ old.nodes.items ++ put ∷ [] → new.goal ≡ old.goal →
    new.waiting.items ≡ (old.waiting.items ++ high_part ∷ []) ++ low_part ∷ [] → HasCome v x first from new
cut_put v x first h from (at_leaf n b parts) p old new c col row k sides put low_at high_at low_part high_part led at coming ec es ecol eput erow eln eld ehn ehd elp ehp en eg ew = absurd at
cut_put v x first h from (at_group s) p old new c col row k sides put low_at high_at low_part high_part led at coming ec es ecol eput erow eln eld ehn ehd elp ehp en eg ew = absurd at
cut_put v x first h from nowhere p old new c col row k sides put low_at high_at low_part high_part led at coming ec es ecol eput erow eln eld ehn ehd elp ehp en eg ew = absurd at
cut_put v x first h from (at_cut r c0 k0 low high) p old new c col row k sides put low_at high_at low_part high_part led at coming ec es ecol eput erow eln eld ehn ehd elp ehp en eg ew =
    let nodes : List PlainNode = plain_nodes x.nodes.now in
    let g : PlainGoal = plain_goal old.goal in
    let b : Branch = at.branch in
    let to_low : TreeSpot = low_side v.columns p.node b c0 k0 at.first in
    let to_high : TreeSpot = high_side v.columns p.node b c0 k0 at.first at.second in
    let pair : (c0, k0) ≡ (c, k) = some_same (cut_in (slice_get nodes p.node)) (c0, k0) (c, k) (ap cut_in at.here.known.spelled.0) ec in
    let read : sides ≡ (suc p.node, suc p.node + length (prefix_of at.first)) =
    some_same (sides_in x.tree.now p.node) sides (suc p.node, suc p.node + length (prefix_of at.first)) es at.here.known.sides.0 in
    let put_is : plain put ≡ cut (v.column c0) k0 =
    eput ∙ ap (λ (n : ℕ). cut n k) (ecol ∙ sym (led.column c)) ∙ ap (λ (q : ℕ × ℤ). cut (v.column q.0) q.1) (sym pair) in
    let listed : plain_nodes old.nodes.items ++ cut (v.column c0) k0 ∷ [] ≡ plain_nodes new.nodes.items =
    sym (ap plain_nodes en ∙ map_push plain old.nodes.items put ∙ ap (λ (z : PlainNode). plain_nodes old.nodes.items ++ z ∷ []) put_is) in
    let at_row : r ≡ row = at.row ∙ at.here.depth ∙ sym erow in
    let low_there : IsThere v x low low_at =
    subst (λ (s : TreeSpot). IsThere v x s low_at) (sym at.low_is)
    (side_there v x to_low p low_at b at.here.depth (length-append b.rows _) (eln ∙ ap (λ (q : ℕ × ℕ). q.0) read) eld
    (known_low v.columns nodes x.tree.now v.claims x.claims.now p.node b c0 k0 at.first at.second at.here.known)) in
    let high_there : IsThere v x high high_at =
    subst (λ (s : TreeSpot). IsThere v x s high_at) (sym at.high_is)
    (side_there v x to_high p high_at b at.here.depth (length-append b.rows _) (ehn ∙ ap (λ (q : ℕ × ℕ). q.1) read) ehd
    (known_high v.columns nodes x.tree.now v.claims x.claims.now p.node b c0 k0 at.first at.second at.here.known)) in
    let low_waits : IsWaiting v x g low_part (with_own v r c0 k0 false h) (stops_at v h.taken low) =
    side_waits v x g h r row c0 k0 false low high low_part at_row (ap (λ (z : part.Waiting). z.begin) elp) coming.goal
    (subst (IsThere v x low) (sym (ap (λ (z : part.Waiting). z.spot) elp)) low_there) coming.groups in
    let high_waits : IsWaiting v x g high_part (with_own v r c0 k0 true h) (stops_at v h.taken high) =
    side_waits v x g h r row c0 k0 true low high high_part at_row (ap (λ (z : part.Waiting). z.begin) ehp) coming.goal
    (subst (IsThere v x high) (sym (ap (λ (z : part.Waiting). z.spot) ehp)) high_there) coming.groups in
    let left : List (Gathered × Stop) = (with_own v r c0 k0 false h, stops_at v h.taken low) ∷ (with_own v r c0 k0 true h, stops_at v h.taken high) ∷ coming.left in
    let all : AreWaiting v x g (low_part ∷ high_part ∷ reverse old.waiting.items) left =
    waits_more v x g low_part (with_own v r c0 k0 false h) (stops_at v h.taken low) (high_part ∷ reverse old.waiting.items) ((with_own v r c0 k0 true h, stops_at v h.taken high) ∷ coming.left) (ap (λ (z : part.Waiting). z.mark) elp) low_waits
    (waits_more v x g high_part (with_own v r c0 k0 true h) (stops_at v h.taken high) (reverse old.waiting.items) coming.left (ap (λ (z : part.Waiting). z.mark) ehp) high_waits coming.waiting) in
    record {
      left = left;
      comes = subst (λ (l : List PlainNode). ComesTo v first from l left) listed (comes_cut v first from (plain_nodes old.nodes.items) h r c0 k0 low high coming.left coming.comes);
      waiting = subst (λ (l : List part.Waiting). AreWaiting v x (plain_goal new.goal) l left) (sym (ap reverse ew ∙ two_pushed old.waiting.items high_part low_part))
          (subst (λ (z : PlainGoal). AreWaiting v x z (low_part ∷ high_part ∷ reverse old.waiting.items) left) (ap plain_goal (sym eg)) all);
    }

-- the column of a cut of the word's refutation has one in the system
pub cut_placed : (columns : Columns) (nodes : List PlainNode) (m c : ℕ) (k : ℤ) → AllByRecursion (IsPlaced columns) nodes → cut_in (slice_get nodes m) ≡ Some (c, k) → column_place columns c < 2 ^ 32
cut_placed columns [] m c k h e = absurd (cc)
cut_placed columns (leaf found ∷ nodes) zero c k h e = absurd (cc)
cut_placed columns (cut d j ∷ nodes) zero c k h e =
    subst (λ (q : ℕ × ℤ). column_place columns q.0 < 2 ^ 32) (some_same (Some (d, j)) (d, j) (c, k) refl e) h.0
cut_placed columns (cases n ∷ nodes) zero c k h e = absurd (cc)
cut_placed columns (n ∷ nodes) (suc m) c k h e = cut_placed columns nodes m c k h.1 e

-- ---- a group

past_end : {X : Type 0} (l : List X) (n : ℕ) → slice_get l n ≡ None → drop n l ≡ []
past_end [] zero e = refl
past_end [] (suc n) e = refl
past_end (x ∷ l) zero e = absurd (cc)
past_end (x ∷ l) (suc n) e = past_end l n e

first_at : {X : Type 0} (l : List X) (n : ℕ) (y : X) → slice_get l n ≡ Some y → drop n l ≡ y ∷ drop (suc n) l
first_at [] n y e = absurd (cc)
first_at (x ∷ l) zero y e = ap (λ z. z ∷ l) (some_same (Some x) x y refl e)
first_at (x ∷ l) (suc n) y e = first_at l n y e

no_groups : (ps : List (ℕ × TreeSpot)) → [] ≡ map number_of ps → IsNotEmpty ps → ⊥
no_groups [] e h = h
no_groups (p ∷ ps) e h = absurd (cc)

-- at a group one waits
pub group_there : (v : View) (x : code.Guide) (first h : Gathered) (from stop : Stop) (p : place.Spot) (old : walks.Walk) → StopsThere v x stop (stopped.Group p) → IsComing v x first from h stop old →
    slice_get (plain_goal old.goal).groups (plain_goal old.goal).first ≡ None → ⊥
group_there v x first h from (at_leaf n b parts) p old at coming e = absurd at
group_there v x first h from (at_cut r col k low high) p old at coming e = absurd at
group_there v x first h from (at_group s) p old at coming e =
    no_groups h.groups (sym (past_end (plain_goal old.goal).groups (plain_goal old.goal).first e) ∙ coming.goal.goal.groups) (coming.groups [])
group_there v x first h from nowhere p old at coming e = absurd at

abbrev member_of : group.Group → Bool → member.Taken
member_of g side = record { claim = g.claim; node = g.node; second = side }

-- the first group is opened: what is left, and what comes with each of its members
record Opens (v : View) (x : code.Guide) (h : Gathered) (g : group.Group) (b : PlainGoal) : Type 0 where
  pub rest : Gathered
  pub at : IsAtHand v x rest b
  pub next : Bool → Gathered
  pub opened_is : (side : Bool) → opened v side h h.groups ≡ Some (next side)
  pub takes : (side : Bool) → TakesMember v x (member_of g side) rest (next side)

side_node : (side : Bool) (columns : List ℕ) (n : ℕ) (b : Branch) (c : ℕ) (k : ℤ) (t u : Tree) →
    (side_of side (low_side columns n b c k t) (high_side columns n b c k t u)).node ≡ side_of side (suc n) (suc n + length (prefix_of t))
side_node false columns n b c k t u = refl
side_node true columns n b c k t u = refl

side_known : (v : View) (x : code.Guide) (side : Bool) (n : ℕ) (b : Branch) (c : ℕ) (k : ℤ) (t u : Tree) → Known v x (record { node = n; branch = b; tree = cut_tree c k t u }) →
    Known v x (side_of side (low_side v.columns n b c k t) (high_side v.columns n b c k t u))
side_known v x false n b c k t u h = known_low v.columns (plain_nodes x.nodes.now) x.tree.now v.claims x.claims.now n b c k t u h
side_known v x true n b c k t u h = known_high v.columns (plain_nodes x.nodes.now) x.tree.now v.claims x.claims.now n b c k t u h

opens_cut : (v : View) (x : code.Guide) (h : Gathered) (a b : PlainGoal) (g : group.Group) → IsLed v x → IsAtHand v x h a → b ≡ record a { first = suc a.first } → a.first < length a.groups →
    (i n : ℕ) (d : Branch) (tree : Tree) (rest : List (ℕ × TreeSpot)) → h.groups ≡ (i, record { node = n; branch = d; tree = tree }) ∷ rest → i ≡ g.claim → n ≡ g.node →
    drop (suc a.first) a.groups ≡ map number_of rest → (c : Claim) → slice_get v.claims i ≡ Some c → IsCutTree tree → Known v x (record { node = n; branch = d; tree = tree }) →
    AllByRecursion (IsGroup v x) rest → Opens v x h g b
opens_cut v x h a b g led at eb l i n d (leaf_tree parts) rest e ei en ed c found is known others = absurd is
opens_cut v x h a b g led at eb l i n d (cases_tree ts) rest e ei en ed c found is known others = absurd is
opens_cut v x h a b g led at eb l i n d (cut_tree col k t u) rest e ei en ed c found is known others =
    let to : Bool → TreeSpot = λ side. side_of side (low_side v.columns n d col k t) (high_side v.columns n d col k t u) in
    let left : Gathered = record h { groups = rest } in
    record {
      rest = left;
      at = subst (IsAtHand v x left) (sym eb) (record { goal = record { roles = at.goal.roles; groups = ed; opened = omega (arith, l); taken = at.goal.taken }; groups = others });
      next = λ side. with_member v i c n side (to side) left;
      opened_is = λ side. ap (opened v side h) e ∙ ap (λ (o : Option Claim). Some (member_taken v i o n side (Some (to side)) left)) found;
      takes = λ side. record {
        claim = c;
        found = ap (slice_get v.claims) (sym ei) ∙ found;
        side = to side;
        first = suc n;
        second = suc n + length (prefix_of t);
        sides = ap (sides_in x.tree.now) (sym en) ∙ known.sides.0;
        node = side_node side v.columns n d col k t u;
        known = side_known v x side n d col k t u known;
        goes = ap (λ (j : ℕ). with_member v j c n side (to side) left) ei ∙ ap (λ (m : ℕ). with_member v g.claim c m side (to side) left) en;
      };
    }

opens_first : (v : View) (x : code.Guide) (h : Gathered) (a b : PlainGoal) (g : group.Group) → IsLed v x → IsAtHand v x h a → b ≡ record a { first = suc a.first } → a.first < length a.groups →
    (waits : List (ℕ × TreeSpot)) → h.groups ≡ waits → group_of g ∷ drop (suc a.first) a.groups ≡ map number_of waits → AllByRecursion (IsGroup v x) waits → Opens v x h g b
opens_first v x h a b g led at eb l [] e f known = absurd (cc)
opens_first v x h a b g led at eb l (p ∷ rest) e f known =
    let same : group_of g ≡ number_of p = cc in
    let others : drop (suc a.first) a.groups ≡ map number_of rest = cc in
    opens_cut v x h a b g led at eb l p.0 p.1.node p.1.branch p.1.tree rest e (sym (ap (λ (q : ℕ × ℕ). q.0) same)) (sym (ap (λ (q : ℕ × ℕ). q.1) same)) others known.0.claim known.0.found
    known.0.is_cut known.0.known known.1

below_length : {X : Type 0} (l : List X) (n : ℕ) (y : X) → slice_get l n ≡ Some y → n < length l
below_length [] n y e = absurd (cc)
below_length (x ∷ l) zero y e = omega arith
below_length (x ∷ l) (suc n) y e = let h = below_length l n y e in omega (arith, h)

group_opens : (v : View) (x : code.Guide) (h : Gathered) (a b : PlainGoal) (g : group.Group) → IsLed v x → IsAtHand v x h a → slice_get a.groups a.first ≡ Some (group_of g) →
    b ≡ without_first (slice_get a.groups a.first) a → Opens v x h g b
group_opens v x h a b g led at e eb =
    opens_first v x h a b g led at (eb ∙ ap (λ (o : Option (ℕ × ℕ)). without_first o a) e) (below_length a.groups a.first (group_of g) e) h.groups refl
    (sym (first_at a.groups a.first (group_of g) e) ∙ at.goal.groups) at.groups

member_waits : (v : View) (x : code.Guide) (h : Gathered) (g : group.Group) (b : PlainGoal) (s : TreeSpot) (p : place.Spot) (w : part.Waiting) (side : Bool) (o : Opens v x h g b) → IsThere v x s p → w.spot ≡ p →
    w.begin ≡ Member (member_of g side) → GroupsWait v h (at_group s) → IsWaiting v x b w (o.next side) (stops_at v (o.next side).taken s)
member_waits v x h g b s p w side o there ep eb groups = record {
  before = o.rest;
  goal = o.at;
  begun = subst (λ (z : start.Begin). IsBegun v x z o.rest (o.next side)) (sym eb) (o.takes side);
  spot = s;
  there = subst (IsThere v x s) (sym ep) there;
  stops = refl;
  groups = λ sides. subst (λ (z : Option Gathered). AfterOpening z (λ y. HasGroupAlong v sides y (stops_at v y.taken s))) (o.opened_is side) (groups (side ∷ sides));
}

keeps_first : (a b : PlainGoal) (o : Option (ℕ × ℕ)) → b ≡ without_first o a → Keeps a b
keeps_first a b None e = subst (Keeps a) (sym e) (keeps_same a)
keeps_first a b (Some group) e = subst (Keeps a) (sym e) (λ m w. (record { roles = w.roles; groups = w.groups; taken = w.taken }, refl))

pub group_put : (v : View) (x : code.Guide) (first h : Gathered) (from stop : Stop) (p : place.Spot) (old new : walks.Walk) (mid : goals.Goal) (g : group.Group) (put : Node) (first_part second_part : part.Waiting) →
    IsLed v x → StopsThere v x stop (stopped.Group p) → IsComing v x first from h stop old → slice_get (plain_goal old.goal).groups (plain_goal old.goal).first ≡ Some (group_of g) →
    plain_goal mid ≡ without_first (slice_get (plain_goal old.goal).groups (plain_goal old.goal).first) (plain_goal old.goal) → plain put ≡ cases 2 →
    first_part ≡ record { spot = p; begin = Member (record { claim = g.claim; node = g.node; second = false }); mark = mark_of (plain_goal mid) } →
    second_part ≡ record { spot = p; begin = Member (record { claim = g.claim; node = g.node; second = true }); mark = mark_of (plain_goal mid) } → new.nodes.items ≡ old.nodes.items ++ put ∷ [] →
    new.goal ≡ mid → new.waiting.items ≡ (old.waiting.items ++ second_part ∷ []) ++ first_part ∷ [] → HasCome v x first from new
group_put v x first h from (at_leaf n b parts) p old new mid g put first_part second_part led at coming e em eput ef es en eg ew = absurd at
group_put v x first h from (at_cut r col k low high) p old new mid g put first_part second_part led at coming e em eput ef es en eg ew = absurd at
group_put v x first h from nowhere p old new mid g put first_part second_part led at coming e em eput ef es en eg ew = absurd at
group_put v x first h from (at_group s) p old new mid g put first_part second_part led at coming e em eput ef es en eg ew =
    let a : PlainGoal = plain_goal old.goal in
    let b : PlainGoal = plain_goal mid in
    let o : Opens v x h g b = group_opens v x h a b g led coming.goal e em in
    let one : Gathered = o.next false in
    let two : Gathered = o.next true in
    let to_one : Stop = stops_at v one.taken s in
    let to_two : Stop = stops_at v two.taken s in
    let listed : plain_nodes old.nodes.items ++ cases 2 ∷ [] ≡ plain_nodes new.nodes.items =
    sym (ap plain_nodes en ∙ map_push plain old.nodes.items put ∙ ap (λ (z : PlainNode). plain_nodes old.nodes.items ++ z ∷ []) eput) in
    let left : List (Gathered × Stop) = (one, to_one) ∷ (two, to_two) ∷ coming.left in
    let one_waits : IsWaiting v x b first_part one to_one =
    member_waits v x h g b s p first_part false o at (ap (λ (z : part.Waiting). z.spot) ef) (ap (λ (z : part.Waiting). z.begin) ef) coming.groups in
    let two_waits : IsWaiting v x b second_part two to_two =
    member_waits v x h g b s p second_part true o at (ap (λ (z : part.Waiting). z.spot) es) (ap (λ (z : part.Waiting). z.begin) es) coming.groups in
    let others : AreWaiting v x b (reverse old.waiting.items) coming.left = waiting_kept v x a b (keeps_first a b (slice_get a.groups a.first) em) (reverse old.waiting.items) coming.left coming.waiting in
    let all : AreWaiting v x b (first_part ∷ second_part ∷ reverse old.waiting.items) left =
    waits_more v x b first_part one to_one (second_part ∷ reverse old.waiting.items) ((two, to_two) ∷ coming.left) (ap (λ (z : part.Waiting). z.mark) ef) one_waits
    (waits_more v x b second_part two to_two (reverse old.waiting.items) coming.left (ap (λ (z : part.Waiting). z.mark) es) two_waits others) in
    record {
      left = left;
      comes = subst (λ (l : List PlainNode). ComesTo v first from l left) listed
          (comes_cases v first from (plain_nodes old.nodes.items) h s one two coming.left (o.opened_is false) (o.opened_is true) coming.comes);
      waiting = subst (λ (l : List part.Waiting). AreWaiting v x (plain_goal new.goal) l left) (sym (ap reverse ew ∙ two_pushed old.waiting.items second_part first_part))
          (subst (λ (z : PlainGoal). AreWaiting v x z (first_part ∷ second_part ∷ reverse old.waiting.items) left) (ap plain_goal (sym eg)) all);
    }

-- ---- the whole walk

-- it begins at the root
pub walk_begins : (v : View) (x : code.Guide) (h : Gathered) (s : TreeSpot) (g : goals.Goal) (new : walks.Walk) → IsAtHand v x h (plain_goal g) → IsThere v x s (record { node = 0; depth = 0 }) →
    GroupsWait v h (stops_at v h.taken s) → new.goal ≡ g → new.nodes.items ≡ [] →
    new.waiting.items ≡ record { spot = record { node = 0; depth = 0 }; begin = Root; mark = mark_of (plain_goal g) } ∷ [] → HasCome v x h (stops_at v h.taken s) new
walk_begins v x h s g new at there groups eg en ew =
    let w : part.Waiting = record { spot = record { node = 0; depth = 0 }; begin = Root; mark = mark_of (plain_goal g) } in
    let stop : Stop = stops_at v h.taken s in
    record {
      left = (h, stop) ∷ [];
      comes = subst (λ (l : List Node). ComesTo v h stop (plain_nodes l) ((h, stop) ∷ [])) (sym en) (comes_first v h stop);
      waiting = subst (λ (l : List part.Waiting). AreWaiting v x (plain_goal new.goal) (reverse l) ((h, stop) ∷ [])) (sym ew)
          (subst (λ (z : PlainGoal). AreWaiting v x z (w ∷ []) ((h, stop) ∷ [])) (ap plain_goal (sym eg))
          (waits_more v x (plain_goal g) w h stop [] [] refl (record { before = h; goal = at; begun = refl; spot = s; there = there; stops = refl; groups = groups }) tt));
    }

-- it goes on with the last part
pub walk_next : (v : View) (x : code.Guide) (first : Gathered) (from : Stop) (next : part.Waiting) (old new : walks.Walk) → HasCome v x first from old → reverse old.waiting.items ≡ next ∷ reverse new.waiting.items →
    new.goal ≡ old.goal → new.nodes.items ≡ old.nodes.items → ComesNext v x first from next new
walk_next v x first from next old new h e eg en =
    by_left h.left h.comes (subst (λ (l : List part.Waiting). AreWaiting v x (plain_goal old.goal) l h.left) e h.waiting)
  where
    by_left : (left : List (Gathered × Stop)) → ComesTo v first from (plain_nodes old.nodes.items) left → AreWaiting v x (plain_goal old.goal) (next ∷ reverse new.waiting.items) left →
        ComesNext v x first from next new
    by_left [] comes waits = absurd waits
    by_left (p ∷ left) comes waits = record {
      here = p;
      left = left;
      comes = subst (λ (l : List Node). ComesTo v first from (plain_nodes l) (p ∷ left)) (sym en) comes;
      waiting = subst (λ (z : PlainGoal). AreWaiting v x z (next ∷ reverse new.waiting.items) (p ∷ left)) (ap plain_goal (sym eg)) waits;
    }

-- it ends where no part waits
pub walk_ends : (v : View) (x : code.Guide) (first : Gathered) (from : Stop) (w : walks.Walk) → HasCome v x first from w → w.waiting.items ≡ [] → AreWalkedFrom v first from (plain_nodes w.nodes.items)
walk_ends v x first from w h e = by_left h.left h.comes (subst (λ (l : List part.Waiting). AreWaiting v x (plain_goal w.goal) (reverse l) h.left) e h.waiting)
  where
    by_left : (left : List (Gathered × Stop)) → ComesTo v first from (plain_nodes w.nodes.items) left → AreWaiting v x (plain_goal w.goal) [] left → AreWalkedFrom v first from (plain_nodes w.nodes.items)
    by_left [] comes waits = comes_last v first from (plain_nodes w.nodes.items) comes
    by_left (p ∷ left) comes waits = absurd waits
