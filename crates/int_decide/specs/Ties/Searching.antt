-- The search for a refutation or a whole point, step by step: goals that are still to be decided, and what was found before them.
use Rattle.std.specs.Prelude.{◌≡◌, ◌↔◌, ◌⊎◌, ℕ, zero, suc, ◌+◌, ◌<◌, ◌^◌, ℤ, Bool, true, false, List, [], ◌∷◌, ◌++◌, Option, None, Some, length, map, reverse}
use Rattle.std.specs.List.{AllByRecursion}
use Rattle.math_facts.specs.Fits.{Fits}
use Rattle.frac.specs.Fractions.{Fraction, IsFraction}
use Rattle.lin_rows.specs.declared.systems.System.{System}
use Rattle.lin_rows.specs.Rows.{LinearRow, Holds, RowsBelow}
use Rattle.lin_rows.specs.Tightening.{tightened}
use Rattle.lin_rows.specs.Systems.{rows_of, groups_of, EachHasMember, Meets}
use Rattle.lin_rows.specs.Points.{point_of}
use Rattle.farkas_check.specs.Nodes.{PlainNode, leaf, cut, cases, plain_nodes, is_tree}
use Rattle.farkas_check.specs.Walks.{goals_left}
use Rattle.farkas_check.specs.Refutes.{Goal, at_most, above, with_row, goal_with_member, goal_of, Refute, Refutes}
use Rattle.fm_elim.specs.Elimination as outcome
use Rattle.fm_elim.specs.Worth.{IsWorth}
use Rattle.int_decide.specs.declared.search.Search.{Search}
use Rattle.int_decide.specs.declared.deciding.Ending.{Ending}
use Rattle.int_decide.specs.declared.deciding.Ending.TheVariants.{Closed, Met, Open}
use Rattle.int_decide.specs.Decisions.{Decision, refuted, whole, gap, beside, all_beside}
use Rattle.int_decide.specs.Decide.{first_broken, decide_groups, decide}
use Rattle.fm_elim.specs.Quotients.{floor}
use Rattle.int_decide.specs.Numbers.{EachUntilWhole, GroupsFit, LeavesFit}
use Rattle.int_decide.specs.Sizes.{total, over_groups, group_count, extent, AllMembers, SystemBelow}
use Rattle.int_decide.specs.Worth.{IsPointOf}

-- ---- goals that are still to be decided

-- a goal, and how many cuts are left for it
pub record Task : Type 0 where
  pub left : ℕ
  pub goal : Goal

-- the goals with their cuts, in order
abbrev pub tasks : List ℕ → List Goal → List Task
tasks [] gs = []
tasks (l ∷ ls) [] = []
tasks (l ∷ ls) (g ∷ gs) = record { left = l; goal = g } ∷ tasks ls gs

-- what was found so far, and what is still to be decided
pub record Standing : Type 0 where
  pub gap : Bool
  pub nodes : List PlainNode
  pub tasks : List Task

abbrev pub standing_of : Search → Standing
standing_of s = record { gap = s.gap; nodes = plain_nodes s.nodes.items; tasks = tasks (reverse s.lefts.items) (goals_left s.walk) }

-- for each goal that waits it is known how many cuts are left
abbrev pub IsPaired : Search → Type 0
IsPaired s = length s.lefts.items ≡ length (goals_left s.walk)

-- ---- one step

-- a goal whose first group is opened
abbrev pub opened : Task → List System → List (List System) → List Task
opened t members groups = map (λ m. record { left = t.left; goal = goal_with_member (record { rows = t.goal.rows; groups = groups }) m }) members

-- both sides of a cut
abbrev pub sides : ℕ → Goal → ℕ → ℤ → List Task
sides left g c k = record { left = left; goal = with_row g (at_most c k) } ∷ record { left = left; goal = with_row g (above c k) } ∷ []

-- a value that is not whole is cut, or leaves a gap where no cut is left
abbrev pub after_broken : ℕ → Goal → Standing → ℕ → ℤ → Standing
after_broken zero g s c k = record { gap = true; nodes = s.nodes; tasks = s.tasks }
after_broken (suc left) g s c k = record { gap = s.gap; nodes = s.nodes ++ cut c k ∷ []; tasks = sides left g c k ++ s.tasks }

abbrev pub after_values : Task → Standing → Option (ℕ × Fraction) → Standing
after_values t s None = s
after_values t s (Some x) = after_broken t.left t.goal s x.0 (floor x.1)

abbrev pub after_outcome : Task → Standing → outcome.EliminationOutcome → Standing
after_outcome t s (outcome.refuted parts) = record { gap = s.gap; nodes = s.nodes ++ leaf parts ∷ []; tasks = s.tasks }
after_outcome t s (outcome.point values) = after_values t s (first_broken 0 values)

abbrev pub after_cases : Task → Standing → List System → List (List System) → Standing
after_cases t s members groups = record { gap = s.gap; nodes = s.nodes ++ cases (length members) ∷ []; tasks = opened t members groups ++ s.tasks }

abbrev pub after_groups : ℕ → Task → Standing → List (List System) → Standing
after_groups n t s [] = after_outcome t s (outcome.elimination n t.goal.rows)
after_groups n t s (members ∷ groups) = after_cases t s members groups

-- how it stands after the goal at hand is decided by one step, where it gives no whole point
abbrev pub after : ℕ → Task → Standing → Standing
after n t s = after_groups n t s t.goal.groups

-- the whole point that the step gives
abbrev pub values_if : List Fraction → Option (ℕ × Fraction) → Option (List ℤ)
values_if values None = Some (map (λ f. f.num) values)
values_if values (Some x) = None

abbrev pub whole_outcome : outcome.EliminationOutcome → Option (List ℤ)
whole_outcome (outcome.refuted parts) = None
whole_outcome (outcome.point values) = values_if values (first_broken 0 values)

abbrev pub whole_groups : ℕ → List LinearRow → List (List System) → Option (List ℤ)
whole_groups n rows [] = whole_outcome (outcome.elimination n rows)
whole_groups n rows (members ∷ groups) = None

abbrev pub whole_at : ℕ → Goal → Option (List ℤ)
whole_at n g = whole_groups n g.rows g.groups

-- where a value is not whole: its column, and the number at which it is cut
abbrev pub cut_at : Option (ℕ × Fraction) → Option (ℕ × ℤ)
cut_at None = None
cut_at (Some x) = Some (x.0, floor x.1)

-- ---- what the calls of a step answer

-- the first group is opened
pub record Opens (t : Task) (old new : Search) : Type 0 where
  pub members : List System
  pub groups : List (List System)
  pub taken : t.goal.groups ≡ members ∷ groups
  pub stands : standing_of new ≡ after_cases t (standing_of old) members groups
  pub paired : IsPaired new

-- there is no group, and nothing changes
pub record OpensNone (t : Task) (goal : Goal) (old new : Search) : Type 0 where
  pub none : t.goal.groups ≡ []
  pub same_goal : goal ≡ t.goal
  pub stands : standing_of new ≡ standing_of old
  pub paired : IsPaired new

-- the next goal is taken up
pub record Takes (old : Search) (t : Task) (new : Search) : Type 0 where
  pub gap : new.gap ≡ old.gap
  pub nodes : new.nodes.items ≡ old.nodes.items
  pub tasks : (standing_of old).tasks ≡ t ∷ (standing_of new).tasks
  pub paired : IsPaired new

-- no goal is left
pub record TakesNone (old new : Search) : Type 0 where
  pub stands : standing_of new ≡ standing_of old
  pub tasks : (standing_of old).tasks ≡ []

-- the value of a point that is not whole is cut, or leaves a gap
pub record Breaks (t : Task) (values : List Fraction) (old new : Search) : Type 0 where
  pub broken : values_if values (first_broken 0 values) ≡ None
  pub stands : standing_of new ≡ after_values t (standing_of old) (first_broken 0 values)
  pub paired : IsPaired new

-- all values of a point are whole
pub record IsWholePoint (values : List Fraction) (numbers : List ℤ) : Type 0 where
  pub whole : values_if values (first_broken 0 values) ≡ Some numbers
  pub fit : AllByRecursion Fits numbers
  pub valid : AllByRecursion IsFraction values

-- the numbers of the elimination fit, where the goal has rows alone
abbrev pub StepFits : ℕ → Goal → Type 0
StepFits n g = g.groups ≡ [] → outcome.EliminationFits n g.rows

-- its outcome is true of the rows
abbrev pub StepIsWorth : ℕ → Goal → Type 0
StepIsWorth n g = g.groups ≡ [] → IsWorth n (map tightened g.rows) (outcome.elimination n g.rows)

-- the goal is decided by one step, without a whole point
pub record Goes (n : ℕ) (t : Task) (old new : Search) : Type 0 where
  pub no_point : whole_at n t.goal ≡ None
  pub worth : StepIsWorth n t.goal
  pub stands : standing_of new ≡ after n t (standing_of old)
  pub paired : IsPaired new

-- the goal, of rows alone, is met by a whole point, a value for each of n columns
pub record IsMet (n : ℕ) (g : Goal) (numbers : List ℤ) : Type 0 where
  pub point : whole_at n g ≡ Some numbers
  pub alone : g.groups ≡ []
  pub columns : length numbers ≡ n
  pub holds : AllByRecursion (Holds (point_of numbers)) (map tightened g.rows)
  pub fit : AllByRecursion Fits numbers

-- ---- what goals that wait have to be

-- how many rows a goal has, with those of the members of its groups, and how many members
abbrev pub goal_extent : Goal → ℕ
goal_extent g = length g.rows + total (λ members. total (λ m. suc (extent m)) members) g.groups

-- tightening leaves the row as it is
abbrev pub StaysTight : LinearRow → Type 0
StaysTight r = tightened r ≡ r

-- its columns are below n, its rows are tight, and numbers of rows and of cases have 32 bits
pub record IsReady (n : ℕ) (t : Task) : Type 0 where
  pub below : RowsBelow n t.goal.rows
  pub groups_below : AllMembers (SystemBelow n) t.goal.groups
  pub tight : AllByRecursion StaysTight t.goal.rows
  pub numbered : goal_extent t.goal + t.left < 2 ^ 32

-- ---- how far the search has come

-- what was found so far
abbrev pub found_by : Bool → List PlainNode → Decision
found_by true ns = gap
found_by false ns = refuted ns

-- how many groups a goal has, with those of their members
abbrev pub goal_groups : Goal → ℕ
goal_groups g = over_groups group_count g.groups

abbrev pub decide_task : ℕ → Task → Decision
decide_task n t = decide_groups (goal_groups t.goal) n t.left t.goal.rows t.goal.groups

abbrev pub TaskFits : ℕ → Task → Type 0
TaskFits n t = GroupsFit (goal_groups t.goal) n t.left t.goal.rows t.goal.groups

-- all numbers of the eliminations fit
abbrev pub EliminationsFit : ℕ → ℕ → System → Type 0
EliminationsFit n d s = GroupsFit (group_count s) n d (map tightened (rows_of s)) (groups_of s)

-- the goals
abbrev pub goals_of : List Task → List Goal
goals_of ts = map (λ t. t.goal) ts

-- a point meets one of the goals
abbrev pub SomeMet : (ℕ → ℤ) → List Task → Type 0
SomeMet point [] = ⊥
SomeMet point (t ∷ ts) = (AllByRecursion (Holds point) t.goal.rows × EachHasMember (Meets point) t.goal.groups) ⊎ SomeMet point ts

-- Where there is no gap: with nodes that refute the goals that wait, but for their numbers, the nodes so far refute the system, but
-- for theirs.
abbrev pub IsSound : System → Bool → List PlainNode → List Goal → Type 0
IsSound s true nodes goals = Unit {0}
IsSound s false nodes goals = (ns : List PlainNode) →
    (LeavesFit ns goals → Refute ns goals) → LeavesFit (nodes ++ ns) (goal_of s ∷ []) → Refute (nodes ++ ns) (goal_of s ∷ [])

-- The decision of the system is what was found so far beside those of the goals that wait, and so are its numbers.
pub record HasCome (n d : ℕ) (s : System) (now : Standing) : Type 0 where
  pub value : decide n d s ≡ beside (found_by now.gap now.nodes) (all_beside (map (decide_task n) now.tasks))
  pub fits : EliminationsFit n d s ↔ EachUntilWhole (decide_task n) (TaskFits n) now.tasks
  pub ready : AllByRecursion (IsReady n) now.tasks
  pub sound : IsSound s now.gap now.nodes (goals_of now.tasks)
  pub met : (point : ℕ → ℤ) → SomeMet point now.tasks → Meets point s

-- ---- how many steps are still to come

-- of cuts alone
abbrev pub cut_count : ℕ → ℕ
cut_count zero = 1
cut_count (suc d) = suc (cut_count d + cut_count d)

abbrev pub step_count : ℕ → ℕ → List (List System) → ℕ
step_count f d [] = cut_count d
step_count zero d (g ∷ gs) = 1
step_count (suc f) d (g ∷ gs) = suc (total (λ m. step_count f d (gs ++ groups_of m)) g)

abbrev pub steps_left : List Task → ℕ
steps_left ts = total (λ t. step_count (goal_groups t.goal) t.left t.goal.groups) ts

-- ---- how it ends

-- by nodes that are Decide's refutation
pub record IsClosed (n d : ℕ) (s : System) (nodes : List PlainNode) : Type 0 where
  pub decided : decide n d s ≡ refuted nodes
  pub whole_tree : is_tree nodes ≡ true
  pub sound : LeavesFit nodes (goal_of s ∷ []) → Refutes nodes s

-- by Decide's whole point
pub record IsPoint (n d : ℕ) (s : System) (numbers : List ℤ) : Type 0 where
  pub decided : decide n d s ≡ whole numbers
  pub worth : IsPointOf n s numbers
  pub fit : AllByRecursion Fits numbers

abbrev pub Ends : ℕ → ℕ → System → Ending → Type 0
Ends n d s (Closed nodes) = IsClosed n d s (plain_nodes nodes.items)
Ends n d s (Met numbers) = IsPoint n d s numbers.items
Ends n d s Open = decide n d s ≡ gap
