-- That the numbers of places have 64 bits.
use Rattle.std.specs.Prelude.{◌+◌, ◌<◌, ◌^◌, ℕ, List}
use Rattle.typed_tree.specs.TypedTree.{TypedStatement, TypedProcedure}
use Rattle.typed_tree.specs.TypingRules.Counts.{points, block_points}
use Rattle.explained_proof.specs.Statements.{Left}

-- what is left has fewer places than 32 bits count, and all their numbers have 64
pub record HasPlaces (procs : List TypedProcedure) (l : Left) : Type 0 where
  pub count : block_points procs l.rest < 2 ^ 32
  pub numbers : l.at + block_points procs l.rest < 2 ^ 64

-- the same of one statement
pub record StatementFits (procs : List TypedProcedure) (s : TypedStatement) (n : ℕ) : Type 0 where
  pub count : points procs s < 2 ^ 32
  pub numbers : n + points procs s < 2 ^ 64
