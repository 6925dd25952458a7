-- Walking along a prefix list: what one node does to the goals.
use Rattle.std.proofs.Common.{◌≡◌, ◌↔◌, ℕ, ◌+◌, ◌<◌, ◌≤◌, min, List, [], ◌∷◌, ◌++◌, length, map, take, drop, get_or, append_assoc, Bor, Vec, Global, ap, refl, sym, ◌∙◌, subst, arith, ⊎_elim}
use Rattle.std.proofs.lemmas.Bool.{cases_lt}
use Rattle.std.proofs.Math.Nat.{le_refl}
use Rattle.std.proofs.lemmas.List.{take_more, drop_more, drop_all, take-map, length-map, get_or-map, map-append}
use Rattle.lin_rows.specs.declared.systems.System.{System}
use Rattle.lin_rows.specs.Rows.{LinearRow}
use Rattle.lin_rows.specs.Systems.{members_of}
use Rattle.lin_rows.proofs.SystemLaws.{members_of-append}
use Rattle.farkas_check.specs.declared.refutations.Node.{Node}
use Rattle.farkas_check.specs.Nodes.{PlainNode, plain, plain_nodes, cases}
use Rattle.farkas_check.specs.Refutes.{Goal, goal_with_member, Refute}
use Rattle.farkas_check.specs.Walks.{LeavesGoals, LeavesNone, OpensGroup}
use Rattle.farkas_check.proofs.NodeLaws.{plain_from, plain_none}

-- ---- cases

-- the goal with the groups from a place on
abbrev pub goal_from : List LinearRow → List (List System) → ℕ → Goal
goal_from rows groups i = record { rows = rows; groups = drop i groups }

-- one group more is taken
taken : (rows : List LinearRow) (groups : List (List System)) (i : ℕ) (d : List System) → i < length groups →
    goal_from rows groups i ≡ record { rows = rows; groups = get_or groups i d ∷ drop (i + 1) groups }
taken rows groups i d l = ap (λ (gs : List (List System)). record { rows = rows; groups = gs }) (drop_more groups i d l)

-- cases go by the group at the place i
pub cases_go : (n : ℕ) (rows : List LinearRow) (groups : List (List System)) (i : ℕ) (members : List System) (gs : List Goal) → i < length groups →
    members ≡ get_or groups i members → n ≡ length members →
    LeavesGoals (cases n) (goal_from rows groups i ∷ gs) (map (goal_with_member (goal_from rows groups (i + 1))) members ++ gs)
cases_go n rows groups i members gs l e k = λ ns.
    subst (λ (g : Goal). Refute ns (map (goal_with_member (goal_from rows groups (i + 1))) members ++ gs) ↔ Refute (cases n ∷ ns) (g ∷ gs))
    (sym (taken rows groups i members l ∙ ap (λ (m : List System). record { rows = rows; groups = m ∷ drop (i + 1) groups }) (sym e)))
    (λ r. (k, r), λ r. r.1)

-- no group is left
pub cases_none : (n : ℕ) (rows : List LinearRow) (groups : List (List System)) (i : ℕ) (gs : List Goal) → length groups ≤ i →
    LeavesNone (cases n) (goal_from rows groups i ∷ gs)
cases_none n rows groups i gs l = λ ns r.
    subst (λ (ls : List (List System)). Refute (cases n ∷ ns) (record { rows = rows; groups = ls } ∷ gs)) (drop_all i groups l) r

-- the group has another number of members
pub cases_other : (n : ℕ) (rows : List LinearRow) (groups : List (List System)) (i : ℕ) (members : List System) (gs : List Goal) → i < length groups →
    members ≡ get_or groups i members → (n ≡ length members → ⊥) → LeavesNone (cases n) (goal_from rows groups i ∷ gs)
cases_other n rows groups i members gs l e k = λ ns r.
    let h = subst (λ (g : Goal). Refute (cases n ∷ ns) (g ∷ gs)) (taken rows groups i members l ∙ ap (λ (m : List System). record { rows = rows; groups = m ∷ drop (i + 1) groups }) (sym e)) r in
    k h.0

-- ---- lists

-- past the end nothing more is dropped
pub drop-min : {A : Type 0} (n : ℕ) (xs : List A) → drop (min n (length xs)) xs ≡ drop n xs
drop-min n xs =
    ⊎_elim
    (λ (l : n < length xs). let e : min n (length xs) ≡ n = omega arith in ap (λ (k : ℕ). drop k xs) e)
    (λ (l : length xs ≤ n). let e : min n (length xs) ≡ length xs = omega arith in
    ap (λ (k : ℕ). drop k xs) e ∙ drop_all (length xs) xs (le_refl (length xs)) ∙ sym (drop_all n xs l))
    (cases_lt n (length xs))

-- ---- the whole list

-- with a node that leaves other goals, the list refutes exactly where it did
pub walk_goes : (whole : Type 0) (nodes : List Node) (i : ℕ) (d : Node) (old new : List Goal) → i < length nodes → Refute (drop i (plain_nodes nodes)) old ↔ whole →
    LeavesGoals (plain (get_or nodes i d)) old new → Refute (drop (i + 1) (plain_nodes nodes)) new ↔ whole
walk_goes whole nodes i d old new l h s =
    let k = subst (λ (ns : List PlainNode). Refute ns old ↔ whole) (plain_from nodes i d l) h in
    let t = s (drop (i + 1) (plain_nodes nodes)) in
    (λ r. k.0 (t.0 r), λ w. t.1 (k.1 w))

pub walk_stops : (whole : Type 0) (nodes : List Node) (i : ℕ) (d : Node) (old : List Goal) → i < length nodes → Refute (drop i (plain_nodes nodes)) old ↔ whole →
    LeavesNone (plain (get_or nodes i d)) old → whole → ⊥
walk_stops whole nodes i d old l h s w =
    s (drop (i + 1) (plain_nodes nodes)) (subst (λ (ns : List PlainNode). Refute ns old) (plain_from nodes i d l) (h.1 w))

-- past the last node no goal may be left
pub walk_ends : (whole : Type 0) (nodes : List Node) (i : ℕ) (goals : List Goal) → length nodes ≤ i → Refute (drop i (plain_nodes nodes)) goals ↔ whole → whole ↔ (goals ≡ [])
walk_ends whole nodes i goals l h =
    let k = subst (λ (ns : List PlainNode). Refute ns goals ↔ whole) (plain_none nodes i l) h in
    (λ w. none goals (k.1 w), λ e. k.0 (subst (λ (gs : List Goal). Refute [] gs) (sym e) tt))
  where
    none : (goals : List Goal) → Refute [] goals → goals ≡ []
    none [] r = refl
    none (g ∷ gs) r = absurd r

-- ---- groups held by reference

-- what is cut back
pub goes_back : (rows rows' : List LinearRow) (refs refs' : List (Bor (List System))) (k n first m : ℕ) → rows' ≡ take k rows → refs' ≡ take n refs → m ≡ min first (length refs') →
    ◌≡◌ {A = Goal} (record { rows = rows'; groups = drop m (map (λ g. g.now) refs') }) (record { rows = take k rows; groups = drop first (take n (map (λ g. g.now) refs)) })
goes_back rows rows' refs refs' k n first m e f h =
    let held : List (List System) = map (λ g. g.now) refs' in
    let l : length held ≡ length refs' = length-map refs' (λ g. g.now) in
    let a : m ≡ min first (length held) = h ∙ ap (min first) (sym l) in
    let b : drop m held ≡ drop first held = ap (λ (j : ℕ). drop j held) a ∙ drop-min first held in
    let d : held ≡ take n (map (λ g. g.now) refs) = ap (map (λ g. g.now)) f ∙ sym (take-map (λ g. g.now) n refs) in
    let q : drop m held ≡ drop first (take n (map (λ g. g.now) refs)) = b ∙ ap (drop first) d in
    λ i. record { rows = e i; groups = q i }

-- the group at a place
pub held_at : (refs : List (Bor (List System))) (i : ℕ) (g : Bor (List System)) → i < length refs → g ≡ get_or refs i g →
    (i < length (map (λ (r : Bor (List System)). r.now) refs)) × (g.now ≡ get_or (map (λ (r : Bor (List System)). r.now) refs) i g.now)
held_at refs i g l e =
    let n : length (map (λ (r : Bor (List System)). r.now) refs) ≡ length refs = length-map refs (λ (r : Bor (List System)). r.now) in
    (omega arith, ap (λ (r : Bor (List System)). r.now) e ∙ sym (get_or-map (λ (r : Bor (List System)). r.now) refs i g g.now l))

-- one group more is held
pub held_more : (refs refs' initial : List (Bor (List System))) (ref : Bor (List System)) (more : List (Vec System Global)) (i : ℕ) (d : Vec System Global) → i < length more →
    map (λ g. g.now) refs ≡ map (λ g. g.now) initial ++ members_of (take i more) → refs' ≡ refs ++ ref ∷ [] → ref.now ≡ (get_or more i d).items →
    map (λ g. g.now) refs' ≡ map (λ g. g.now) initial ++ members_of (take (i + 1) more)
held_more refs refs' initial ref more i d l h e f =
    let a : map (λ (g : Bor (List System)). g.now) refs' ≡ map (λ (g : Bor (List System)). g.now) refs ++ ref.now ∷ [] = ap (map (λ (g : Bor (List System)). g.now)) e ∙ map-append (λ (g : Bor (List System)). g.now) refs (ref ∷ []) in
    let b : members_of (take (i + 1) more) ≡ members_of (take i more) ++ (get_or more i d).items ∷ [] = ap members_of (take_more more i d l) ∙ members_of-append (take i more) (get_or more i d ∷ []) in
    rw (a, h, b, f) (append_assoc (map (λ (g : Bor (List System)). g.now) initial) (members_of (take i more)) ((get_or more i d).items ∷ []))

-- ---- groups that are opened

-- the group at the place i is taken away
pub opens_at : (rows : List LinearRow) (groups : List (List System)) (i : ℕ) (members : List System) (left new_left : List Goal) → i < length groups →
    members ≡ get_or groups i members → new_left ≡ map (goal_with_member (goal_from rows groups (i + 1))) members ++ left →
    OpensGroup (goal_from rows groups i) left (length members) new_left
opens_at rows groups i members left new_left l e w = record {
  members = members;
  groups = drop (i + 1) groups;
  taken = drop_more groups i members l ∙ ap (λ (m : List System). m ∷ drop (i + 1) groups) (sym e);
  count = refl;
  wait = w;
}
