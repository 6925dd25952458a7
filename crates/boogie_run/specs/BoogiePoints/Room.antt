-- That the numbers of assertions and places that a point leads to have 32 bits.
use Rattle.std.specs.Prelude.{◌+◌, ◌<◌, ◌^◌, List}
use Rattle.std.specs.List.{AllByRecursion}
use Rattle.typed_tree.specs.TypedTree.{TypedProcedure}
use Rattle.typed_tree.specs.TypingRules.Counts.{block_assertions, block_points}
use Rattle.boogie_run.specs.BoogiePoints.Points.{Todo, Point}

-- all numbers of what is left of a block have 32 bits
pub record HasRoom (procs : List TypedProcedure) (t : Todo) : Type 0 where
  pub assertions : t.id + block_assertions procs t.rest < 2 ^ 32
  pub places : t.at + block_points procs t.rest < 2 ^ 32

-- so have those of each block that is still to do
abbrev pub PointHasRoom : List TypedProcedure → Point → Type 0
PointHasRoom procs p = AllByRecursion (HasRoom procs) p.todo
