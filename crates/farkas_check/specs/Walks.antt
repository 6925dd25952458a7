-- The goals that wait while a prefix list is walked along.
use Rattle.std.specs.Prelude.{◌≡◌, ◌↔◌, ℕ, List, [], ◌∷◌, ◌++◌, length, map, take, drop, reverse}
use Rattle.lin_rows.specs.declared.systems.System.{System}
use Rattle.lin_rows.specs.Rows.{LinearRow}
use Rattle.farkas_check.specs.declared.walk.Walk.{Walk}
use Rattle.farkas_check.specs.declared.walk.Frame.{Frame}
use Rattle.farkas_check.specs.declared.walk.Rest.{Rest}
use Rattle.farkas_check.specs.declared.walk.Rest.TheVariants.{BothSides, Above, Members}
use Rattle.farkas_check.specs.Nodes.{PlainNode}
use Rattle.farkas_check.specs.Refutes.{Goal, at_most, above, with_row, goal_with_member, Refute}

-- the goals that are left of a node, where its own goal was this one
abbrev pub goals_of : Rest → Goal → List Goal
goals_of (BothSides cut) g = with_row g (at_most cut.0 cut.1) ∷ with_row g (above cut.0 cut.1) ∷ []
goals_of (Above cut) g = with_row g (above cut.0 cut.1) ∷ []
goals_of (Members members) g = map (goal_with_member g) members.now

-- the goal of a frame's node, cut back from what is held now
abbrev pub goal_of_frame : Frame → List LinearRow → List (List System) → Goal
goal_of_frame f rows groups = record { rows = take f.rows_len rows; groups = drop f.first (take f.groups_len groups) }

-- the goals that wait in frames, the newest frame first
abbrev pub waiting : List LinearRow → List (List System) → List Frame → List Goal
waiting rows groups [] = []
waiting rows groups (f ∷ fs) =
    goals_of f.rest (goal_of_frame f rows groups) ++ waiting (take f.rows_len rows) (take f.groups_len groups) fs

-- the groups that are held
abbrev pub groups_held : Walk → List (List System)
groups_held w = map (λ g. g.now) w.groups.items

-- the goal at hand
abbrev pub goal_at_hand : Walk → Goal
goal_at_hand w = record { rows = w.rows.items; groups = drop w.first (groups_held w) }

-- the goals that wait
abbrev pub goals_left : Walk → List Goal
goals_left w = waiting w.rows.items (groups_held w) (reverse w.frames.items)

-- the goal at hand, and the goals that wait, where what is held is cut back to these lengths
abbrev pub goal_of_lengths : Walk → ℕ → ℕ → ℕ → Goal
goal_of_lengths w rows_len groups_len first = record { rows = take rows_len w.rows.items; groups = drop first (take groups_len (groups_held w)) }

abbrev pub waiting_of_lengths : Walk → ℕ → ℕ → List Goal
waiting_of_lengths w rows_len groups_len = waiting (take rows_len w.rows.items) (take groups_len (groups_held w)) (reverse w.frames.items)

-- the goals that wait, with those of one more frame in front
abbrev pub goals_with : Walk → Frame → List Goal
goals_with w f = goals_of f.rest (goal_of_lengths w f.rows_len f.groups_len f.first) ++ waiting_of_lengths w f.rows_len f.groups_len

-- the frame that keeps what is left of the node whose goal is at hand
abbrev pub frame_at : Walk → Rest → Frame
frame_at w rest = record { rest = rest; rows_len = length w.rows.items; groups_len = length w.groups.items; first = w.first }

-- both hold the same rows and groups, and have the same goal at hand
pub record HoldsSame (old new : Walk) : Type 0 where
  pub rows : new.rows.items ≡ old.rows.items
  pub groups : new.groups.items ≡ old.groups.items
  pub first : new.first ≡ old.first

-- the goal at hand and the goals that wait are the same
pub record HasSameGoals (old new : Walk) : Type 0 where
  pub at_hand : goal_at_hand new ≡ goal_at_hand old
  pub left : goals_left new ≡ goals_left old

-- the goal at hand has no row and no group, and no goal waits
pub record HoldsNothing (w : Walk) : Type 0 where
  pub at_hand : goal_at_hand w ≡ record { rows = []; groups = [] }
  pub left : goals_left w ≡ []

-- the first group of the goal has n members, and is taken away: a goal for each of them waits in front of the others
pub record OpensGroup (goal : Goal) (left : List Goal) (n : ℕ) (new_left : List Goal) : Type 0 where
  pub members : List System
  pub groups : List (List System)
  pub taken : goal.groups ≡ members ∷ groups
  pub count : n ≡ length members
  pub wait : new_left ≡ map (goal_with_member (record { rows = goal.rows; groups = groups })) members ++ left

-- the goal has no group, and nothing changes
pub record HasNoGroup (goal : Goal) (left : List Goal) (new_goal : Goal) (new_left : List Goal) : Type 0 where
  pub none : goal.groups ≡ []
  pub same_goal : new_goal ≡ goal
  pub same_left : new_left ≡ left

-- a node with which the old goals become the new ones
abbrev pub LeavesGoals : PlainNode → List Goal → List Goal → Type 0
LeavesGoals n old new = (ns : List PlainNode) → Refute ns new ↔ Refute (n ∷ ns) old

-- a node that refutes nothing in front of these goals
abbrev pub LeavesNone : PlainNode → List Goal → Type 0
LeavesNone n old = (ns : List PlainNode) → Refute (n ∷ ns) old → ⊥
