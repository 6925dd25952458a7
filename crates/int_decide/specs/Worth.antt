-- What decisions are worth: a refutation refutes but for its own numbers, and a whole point meets the system.
use Rattle.std.specs.Prelude.{◌≡◌, ◌≤◌, ℕ, ℤ, List, [], ◌∷◌, length}
use Rattle.lin_rows.specs.declared.systems.System.{System}
use Rattle.lin_rows.specs.Points.{point_of}
use Rattle.lin_rows.specs.Systems.{Meets}
use Rattle.farkas_check.specs.Nodes.{PlainNode}
use Rattle.farkas_check.specs.Refutes.{Refutes, goal_of}
use Rattle.farkas_check.specs.Trees.{Tree, prefix_of, cuts_on_branch}
use Rattle.int_decide.specs.Decisions.{Decision, refuted, whole, gap}
use Rattle.int_decide.specs.Numbers.{LeavesFit}

-- the list is the prefix list of one tree, with d cuts on a branch at most
pub record IsTreeOf (d : ℕ) (ns : List PlainNode) : Type 0 where
  pub tree : Tree
  pub prefix : prefix_of tree ≡ ns
  pub few_cuts : cuts_on_branch tree ≤ d

-- A refutation is a tree with d cuts on a branch at most, and refutes the system if its own numbers fit.
pub record RefutesBut (d : ℕ) (s : System) (ns : List PlainNode) : Type 0 where
  pub is_tree : IsTreeOf d ns
  pub refutes : LeavesFit ns (goal_of s ∷ []) → Refutes ns s

-- a whole point has a value for each of n columns, and meets the system
pub record IsPointOf (n : ℕ) (s : System) (values : List ℤ) : Type 0 where
  pub columns : length values ≡ n
  pub meets : Meets (point_of values) s

-- the decision is true of the system
abbrev pub IsWorth : ℕ → ℕ → System → Decision → Type 0
IsWorth n d s (refuted ns) = RefutesBut d s ns
IsWorth n d s (whole values) = IsPointOf n s values
IsWorth n d s gap = Unit {0}

-- the decision is a refutation
abbrev pub IsRefuted : Decision → Type 0
IsRefuted (refuted ns) = Unit {0}
IsRefuted (whole values) = ⊥
IsRefuted gap = ⊥
