-- Why decisions are true of goals: rows alone, by the elimination and cuts, and groups, by cases.
use Rattle.std.proofs.Common.{◌≡◌, ℕ, zero, suc, ◌+◌, ◌<◌, ℤ, pos, List, [], ◌∷◌, ◌++◌, Option, None, Some, length, map, refl, sym, ◌∙◌, subst, arith, inl, inr}
use Rattle.std.specs.List.{AllByRecursion}
use Rattle.std.proofs.lemmas.List.{length-map}
use Rattle.std.proofs.lemmas.Int.{ints}
use Rattle.math_facts.specs.Terms.{dot, IsBelow}
use Rattle.math_facts.proofs.Whole.{product_one_right}
use Rattle.frac.specs.Fractions.{Fraction}
use Rattle.lin_rows.specs.declared.systems.System.{System}
use Rattle.lin_rows.specs.Rows.{LinearRow, IsRow, Stands, Holds, RowsBelow}
use Rattle.lin_rows.specs.Tightening.{tightened}
use Rattle.lin_rows.specs.Systems.{SomeMember, EachHasMember, Meets, rows_of, groups_of}
use Rattle.lin_rows.proofs.SystemLaws.{meets_open, meets_close}
use Rattle.lin_rows.proofs.NegatingLemmas.{negated_holds}
use Rattle.lin_rows.specs.Points.{point_of}
use Rattle.farkas_check.specs.Nodes.{PlainNode, cut, cases}
use Rattle.farkas_check.specs.Refutes.{Goal, at_most, above, with_row, goal_with_member, goal_of, Refutes}
use Rattle.farkas_check.proofs.Sound.{MeetsGoal}
use Rattle.fm_elim.specs.Elimination as outcome
use Rattle.fm_elim.specs.Worth.{Combines, HoldsAt}
use Rattle.fm_elim.proofs.Lists.{all_append, all_parts, all_map, all_weaker, all_both}
use Rattle.fm_elim.proofs.Refuting.{no_point}
use Rattle.fm_elim.proofs.Inputs.{IsBelow-tightened}
use Rattle.int_decide.specs.Decisions.{Decision, refuted, whole, gap, beside, all_beside, under}
use Rattle.int_decide.specs.Decide.{first_broken, by_values, by_outcome, decide_rows, decide_groups, decide}
use Rattle.fm_elim.specs.Quotients.{floor}
use Rattle.int_decide.specs.Sizes.{group_count, AllMembers, AllRows, SystemBelow}
use Rattle.int_decide.specs.Numbers.{LeavesFit}
use Rattle.int_decide.specs.Worth.{IsTreeOf, IsWorth, IsRefuted}
use Rattle.int_decide.proofs.Tight.{IsTight, tightened_are_tight, at_most_is_tight, above_is_tight, hold_tightened, hold_untightened}
use Rattle.int_decide.proofs.Points.{MeetsTight, OutcomeWorth, elimination_worth, broken_below, whole_meets}
use Rattle.int_decide.proofs.Refuting.{RefuteFirst, none_first, joined_first, leaf_first, cut_first, cases_first, refutes_alone, AreTreesOf, leaf_is_tree, cut_is_tree, no_trees, one_more_tree, cases_are_tree}
use Rattle.int_decide.proofs.Opening.{AllRows_open, SystemBelow_open}

-- no whole point meets the goal
abbrev pub HasNoPoint : Goal → Type 0
HasNoPoint g = (point : ℕ → ℤ) → MeetsGoal point g → ⊥

-- The decision is true of the goal: a refutation refutes it but for its own numbers, and no whole point meets it; a whole
-- point meets it.
abbrev pub GoalWorth : ℕ → ℕ → Goal → Decision → Type 0
GoalWorth n d g (refuted ns) = IsTreeOf d ns × RefuteFirst ns (g ∷ []) × HasNoPoint g
GoalWorth n d g (whole values) = (length values ≡ n) × MeetsGoal (point_of values) g
GoalWorth n d g gap = Unit {0}

-- ---- rows alone

-- a point that meets a goal with one more row meets the goal
without_row : (point : ℕ → ℤ) (g : Goal) (r : LinearRow) → MeetsGoal point (with_row g r) → MeetsGoal point g
without_row point g r m = record { rows = (all_parts (Holds point) g.rows (r ∷ []) m.rows).0; groups = m.groups }

-- a point that meets a goal and a row meets the goal with the row
row_met : (point : ℕ → ℤ) (g : Goal) (r : LinearRow) → MeetsGoal point g → Holds point r → MeetsGoal point (with_row g r)
row_met point g r m h = record { rows = all_append (Holds point) g.rows (r ∷ []) m.rows (h, tt); groups = m.groups }

-- a point that meets a goal meets a side of each cut
cut_has_no_point : (g : Goal) (c : ℕ) (k : ℤ) → HasNoPoint (with_row g (at_most c k)) → HasNoPoint (with_row g (above c k)) → HasNoPoint g
cut_has_no_point g c k a b point m =
    b point (row_met point g (above c k) m ((negated_holds point (at_most c k) refl).1 (λ h. a point (row_met point g (at_most c k) m h))))

-- a whole point is a rational one
hold_over_one : (point : ℕ → ℤ) (rows : List LinearRow) → AllByRecursion (Holds point) rows → AllByRecursion (HoldsAt (pos 1) point) rows
hold_over_one point rows h =
    all_weaker (Holds point) (HoldsAt (pos 1) point) rows
    (λ r i. subst (λ (z : ℤ). Stands r.kind (dot point r.terms) z) (sym (product_one_right r.bound)) i) h

leaf_has_no_point : (g : Goal) (parts : List (ℕ × ℤ)) → Combines g.rows parts → HasNoPoint g
leaf_has_no_point g parts w point m =
    no_point g.rows parts w (record { d = pos 1; p = point; positive = omega (arith, ints); holds = hold_over_one point g.rows m.rows })

cut_worth : (n d : ℕ) (g : Goal) (c : ℕ) (k : ℤ) (a b : Decision) → GoalWorth n d (with_row g (at_most c k)) a → GoalWorth n d (with_row g (above c k)) b →
    GoalWorth n (suc d) g (under (cut c k) (beside a b))
cut_worth n d g c k (whole x) b h i = (h.0, without_row (point_of x) g (at_most c k) h.1)
cut_worth n d g c k gap (whole y) h i = (i.0, without_row (point_of y) g (above c k) i.1)
cut_worth n d g c k gap gap h i = tt
cut_worth n d g c k gap (refuted ms) h i = tt
cut_worth n d g c k (refuted ns) (whole y) h i = (i.0, without_row (point_of y) g (above c k) i.1)
cut_worth n d g c k (refuted ns) gap h i = tt
cut_worth n d g c k (refuted ns) (refuted ms) h i = (
  cut_is_tree d c k ns ms h.0 i.0,
  cut_first c k (ns ++ ms) g (joined_first ns ms (with_row g (at_most c k)) (with_row g (above c k) ∷ []) h.1 i.1),
  cut_has_no_point g c k h.2 i.2,
)

values_worth : (n d : ℕ) (rows : List LinearRow) (broken : ℕ → ℤ → Decision) (values : List Fraction) (x : Option (ℕ × Fraction)) → first_broken 0 values ≡ x →
    MeetsTight n rows values → ((c : ℕ) (k : ℤ) → c < n → GoalWorth n d (record { rows = rows; groups = [] }) (broken c k)) →
    GoalWorth n d (record { rows = rows; groups = [] }) (by_values broken values x)
values_worth n d rows broken values None e m f = (
  length-map values (λ f. f.num) ∙ m.columns,
  record { rows = whole_meets n rows values m e; groups = tt },
)
values_worth n d rows broken values (Some x) e m f =
    let l : x.0 < 0 + length values = broken_below 0 values x e in
    let c : length values ≡ n = m.columns in
    f x.0 (floor x.1) (omega arith)

outcome_worth : (n d : ℕ) (rows : List LinearRow) (broken : ℕ → ℤ → Decision) (o : outcome.EliminationOutcome) → OutcomeWorth n rows o →
    ((c : ℕ) (k : ℤ) → c < n → GoalWorth n d (record { rows = rows; groups = [] }) (broken c k)) →
    GoalWorth n d (record { rows = rows; groups = [] }) (by_outcome broken o)
outcome_worth n d rows broken (outcome.refuted parts) w f = (
  leaf_is_tree d parts,
  leaf_first parts (record { rows = rows; groups = [] }) w,
  leaf_has_no_point (record { rows = rows; groups = [] }) parts w,
)
outcome_worth n d rows broken (outcome.point values) w f = values_worth n d rows broken values (first_broken 0 values) refl w f

pub rows_worth : (n d : ℕ) (rows : List LinearRow) → AllByRecursion IsTight rows → RowsBelow n rows →
    GoalWorth n d (record { rows = rows; groups = [] }) (decide_rows n d rows)
rows_worth n zero rows t b =
    outcome_worth n zero rows (λ c k. gap) (outcome.elimination n rows) (elimination_worth n rows t b) (λ c k l. tt)
rows_worth n (suc d) rows t b =
    outcome_worth n (suc d) rows
    (λ c k. under (cut c k) (beside (decide_rows n d (rows ++ at_most c k ∷ [])) (decide_rows n d (rows ++ above c k ∷ []))))
    (outcome.elimination n rows) (elimination_worth n rows t b)
    (λ c k l. cut_worth n d (record { rows = rows; groups = [] }) c k (decide_rows n d (rows ++ at_most c k ∷ [])) (decide_rows n d (rows ++ above c k ∷ []))
    (rows_worth n d (rows ++ at_most c k ∷ []) (all_append IsTight rows (at_most c k ∷ []) t (at_most_is_tight c k, tt)) (below_more (at_most c k) ((l, tt), tt)))
    (rows_worth n d (rows ++ above c k ∷ []) (all_append IsTight rows (above c k ∷ []) t (above_is_tight c k, tt)) (below_more (above c k) ((l, tt), tt))))
  where
    below_more : (r : LinearRow) → RowsBelow n (r ∷ []) → RowsBelow n (rows ++ r ∷ [])
    below_more r h = all_append (λ q. IsBelow n q.terms) rows (r ∷ []) b h

-- ---- groups

-- a whole point that meets the goal meets none of these members
abbrev pub HasNoMember : Goal → List System → Type 0
HasNoMember g members = (point : ℕ → ℤ) → MeetsGoal point g → SomeMember (Meets point) members → ⊥

-- the decision is true of the goals with each of these members, taken together
abbrev pub MembersWorth : ℕ → ℕ → Goal → List System → Decision → Type 0
MembersWorth n d g members (refuted ns) =
    AreTreesOf d (length members) ns × RefuteFirst ns (map (goal_with_member g) members) × HasNoMember g members
MembersWorth n d g members (whole values) = (length values ≡ n) × MeetsGoal (point_of values) g × SomeMember (Meets (point_of values)) members
MembersWorth n d g members gap = Unit {0}

pub each_parts : (P : System → Type 0) (gs hs : List (List System)) → EachHasMember P (gs ++ hs) → EachHasMember P gs × EachHasMember P hs
each_parts P [] hs h = (tt, h)
each_parts P (g ∷ gs) hs h = let r = each_parts P gs hs h.1 in ((h.0, r.0), r.1)

-- a point that meets a goal with a member meets the goal
without_member : (point : ℕ → ℤ) (g : Goal) (s : System) → MeetsGoal point (goal_with_member g s) → MeetsGoal point g
without_member point g s m = record {
  rows = (all_parts (Holds point) g.rows (map tightened (rows_of s)) m.rows).0;
  groups = (each_parts (Meets point) g.groups (groups_of s) m.groups).0;
}

-- and the member
meets_member : (point : ℕ → ℤ) (g : Goal) (s : System) → MeetsGoal point (goal_with_member g s) → Meets point s
meets_member point g s m =
    meets_close point s (
      hold_untightened point (rows_of s) (all_parts (Holds point) g.rows (map tightened (rows_of s)) m.rows).1,
      (each_parts (Meets point) g.groups (groups_of s) m.groups).1,
    )

each_append : (P : System → Type 0) (gs hs : List (List System)) → EachHasMember P gs → EachHasMember P hs → EachHasMember P (gs ++ hs)
each_append P [] hs h k = k
each_append P (g ∷ gs) hs h k = (h.0, each_append P gs hs h.1 k)

-- a point that meets a goal and a system meets the goal with the system as a member
member_met : (point : ℕ → ℤ) (g : Goal) (s : System) → MeetsGoal point g → Meets point s → MeetsGoal point (goal_with_member g s)
member_met point g s m h =
    let o = meets_open point s h in
    record {
      rows = all_append (Holds point) g.rows (map tightened (rows_of s)) m.rows (hold_tightened point (rows_of s) o.0);
      groups = each_append (Meets point) g.groups (groups_of s) m.groups o.1;
    }

one_more_has_none : (g : Goal) (m : System) (ms : List System) → HasNoPoint (goal_with_member g m) → HasNoMember g ms → HasNoMember g (m ∷ ms)
one_more_has_none g m ms a b point h (inl i) = a point (member_met point g m h i)
one_more_has_none g m ms a b point h (inr i) = b point h i

one_more_worth : (n d : ℕ) (g : Goal) (m : System) (ms : List System) (a b : Decision) → GoalWorth n d (goal_with_member g m) a → MembersWorth n d g ms b →
    MembersWorth n d g (m ∷ ms) (beside a b)
one_more_worth n d g m ms (whole x) b h i = (h.0, without_member (point_of x) g m h.1, inl (meets_member (point_of x) g m h.1))
one_more_worth n d g m ms gap (whole y) h i = (i.0, i.1, inr i.2)
one_more_worth n d g m ms gap gap h i = tt
one_more_worth n d g m ms gap (refuted ls) h i = tt
one_more_worth n d g m ms (refuted ns) (whole y) h i = (i.0, i.1, inr i.2)
one_more_worth n d g m ms (refuted ns) gap h i = tt
one_more_worth n d g m ms (refuted ns) (refuted ls) h i = (
  one_more_tree d (length ms) ns ls h.0 i.0,
  joined_first ns ls (goal_with_member g m) (map (goal_with_member g) ms) h.1 i.1,
  one_more_has_none g m ms h.2 i.2,
)

members_worth : (n d : ℕ) (g : Goal) (decided : System → Decision) (members : List System) → AllByRecursion (λ m. GoalWorth n d (goal_with_member g m) (decided m)) members →
    MembersWorth n d g members (all_beside (map decided members))
members_worth n d g decided [] h = (no_trees d, none_first, λ point m k. k)
members_worth n d g decided (m ∷ ms) h =
    one_more_worth n d g m ms (decided m) (all_beside (map decided ms)) h.0 (members_worth n d g decided ms h.1)

cases_worth : (n d : ℕ) (rows : List LinearRow) (members : List System) (groups : List (List System)) (a : Decision) →
    MembersWorth n d (record { rows = rows; groups = groups }) members a →
    GoalWorth n d (record { rows = rows; groups = members ∷ groups }) (under (cases (length members)) a)
cases_worth n d rows members groups (refuted ns) h = (
  cases_are_tree d (length members) ns h.0,
  cases_first ns rows members groups h.1,
  λ point m. h.2 point (record { rows = m.rows; groups = m.groups.1 }) m.groups.0,
)
cases_worth n d rows members groups (whole x) h = (h.0, record { rows = h.1.rows; groups = (h.2, h.1.groups) })
cases_worth n d rows members groups gap h = tt

-- all rows of a member are rows, with columns below n
abbrev pub IsFine : ℕ → System → Type 0
IsFine n s = AllRows IsRow s × SystemBelow n s

pub members_append : (P : System → Type 0) (gs hs : List (List System)) → AllMembers P gs → AllMembers P hs → AllMembers P (gs ++ hs)
members_append P [] hs h k = k
members_append P (g ∷ gs) hs h k = (h.0, members_append P gs hs h.1 k)

members_both : (P Q : System → Type 0) (gs : List (List System)) → AllMembers P gs → AllMembers Q gs → AllMembers (λ s. P s × Q s) gs
members_both P Q [] h k = tt
members_both P Q (g ∷ gs) h k = (all_both P Q g h.0 k.0, members_both P Q gs h.1 k.1)

-- the rows of a system, tightened, and its groups
pub record IsFineOpen (n : ℕ) (s : System) : Type 0 where
  pub tight : AllByRecursion IsTight (map tightened (rows_of s))
  pub below : RowsBelow n (map tightened (rows_of s))
  pub groups : AllMembers (IsFine n) (groups_of s)

pub fine_open : (n : ℕ) (s : System) → IsFine n s → IsFineOpen n s
fine_open n s h =
    let a = AllRows_open IsRow s h.0 in
    let b = SystemBelow_open n s h.1 in
    record {
      tight = tightened_are_tight (rows_of s) a.0;
      below = all_map (λ r. IsBelow n r.terms) (λ r. IsBelow n r.terms) tightened (rows_of s) (λ r i. IsBelow-tightened n r i) b.0;
      groups = members_both (AllRows IsRow) (SystemBelow n) (groups_of s) a.1 b.1;
    }

pub groups_worth : (f n d : ℕ) (rows : List LinearRow) (groups : List (List System)) → AllByRecursion IsTight rows → RowsBelow n rows → AllMembers (IsFine n) groups →
    GoalWorth n d (record { rows = rows; groups = groups }) (decide_groups f n d rows groups)
groups_worth zero n d rows [] t b h = rows_worth n d rows t b
groups_worth (suc f) n d rows [] t b h = rows_worth n d rows t b
groups_worth zero n d rows (g ∷ gs) t b h = tt
groups_worth (suc f) n d rows (g ∷ gs) t b h =
    let decided : System → Decision = λ m. decide_groups f n d (rows ++ map tightened (rows_of m)) (gs ++ groups_of m) in
    let one : Goal = record { rows = rows; groups = gs } in
    cases_worth n d rows g gs (all_beside (map decided g))
    (members_worth n d one decided g
    (all_weaker (IsFine n) (λ m. GoalWorth n d (goal_with_member one m) (decided m)) g
    (λ m i.
    let o : IsFineOpen n m = fine_open n m i in
    groups_worth f n d (rows ++ map tightened (rows_of m)) (gs ++ groups_of m)
    (all_append IsTight rows (map tightened (rows_of m)) t o.tight)
    (all_append (λ r. IsBelow n r.terms) rows (map tightened (rows_of m)) b o.below)
    (members_append (IsFine n) gs (groups_of m) h.1 o.groups)) h.0))

-- ---- a system

system_worth : (n d : ℕ) (s : System) (a : Decision) → GoalWorth n d (goal_of s) a → IsWorth n d s a
system_worth n d s (refuted ns) h = record { is_tree = h.0; refutes = λ k. refutes_alone ns s h.1 k }
system_worth n d s (whole x) h = record {
  columns = h.0;
  meets = meets_close (point_of x) s (hold_untightened (point_of x) (rows_of s) h.1.rows, h.1.groups);
}
system_worth n d s gap h = tt

goal_decided : (n d : ℕ) (s : System) → AllRows IsRow s → SystemBelow n s → GoalWorth n d (goal_of s) (decide n d s)
goal_decided n d s v b =
    let o : IsFineOpen n s = fine_open n s (v, b) in
    groups_worth (group_count s) n d (map tightened (rows_of s)) (groups_of s) o.tight o.below o.groups

-- What Decide answers is true of the system.
pub decided_is_worth : (n d : ℕ) (s : System) → AllRows IsRow s → SystemBelow n s → IsWorth n d s (decide n d s)
decided_is_worth n d s v b = system_worth n d s (decide n d s) (goal_decided n d s v b)

no_point_of : (n d : ℕ) (s : System) (a : Decision) → GoalWorth n d (goal_of s) a → IsRefuted a → (point : ℕ → ℤ) → Meets point s → ⊥
no_point_of n d s (refuted ns) h r point m =
    let o = meets_open point s m in h.2 point (record { rows = hold_tightened point (rows_of s) o.0; groups = o.1 })
no_point_of n d s (whole x) h r point m = r
no_point_of n d s gap h r point m = r

-- No whole point meets a system that is refuted.
pub refuted_has_no_point : (n d : ℕ) (s : System) (point : ℕ → ℤ) → AllRows IsRow s → SystemBelow n s → IsRefuted (decide n d s) → Meets point s → ⊥
refuted_has_no_point n d s point v b r m = no_point_of n d s (decide n d s) (goal_decided n d s v b) r point m

-- Where the answer is a refutation whose own numbers fit, it refutes the system.
pub refuted_where_fits : (n d : ℕ) (s : System) (ns : List PlainNode) → AllRows IsRow s → SystemBelow n s → decide n d s ≡ refuted ns →
    LeavesFit ns (goal_of s ∷ []) → Refutes ns s
refuted_where_fits n d s ns v b e h = (subst (IsWorth n d s) e (decided_is_worth n d s v b)).refutes h
