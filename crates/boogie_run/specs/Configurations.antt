-- Configurations of runs.
use Rattle.std.specs.Prelude.{ℕ, ℤ, List}
use Rattle.typed_tree.specs.Values.{State}
use Rattle.boogie_run.specs.BoogiePoints.Points.{Point}

-- A frame: its procedure, its locals so far, the constants and globals at its entry, its point, and what a call without body has chosen.
pub record Frame : Type 0 where
  pub proc : ℕ
  pub locals : List ℤ
  pub entry : List ℤ
  pub point : Point
  pub kept : List ℤ

-- the constants and globals so far, the frame that runs, and those of the calls that are open, innermost first
pub record Config : Type 0 where
  pub globals : List ℤ
  pub top : Frame
  pub below : List Frame

-- the state that expressions of the frame that runs are read in
abbrev pub state_of : Config → State
state_of c = record { globals = c.globals; old = c.top.entry; locals = c.top.locals }
