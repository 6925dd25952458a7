-- The rows of the parameters that the code has made so far, as contracts see them.
use Rattle.std.specs.Prelude.{◌≡◌, ℕ, ◌+◌, true, List, map, drop}
use Rattle.std.specs.List.{list_all}
use Rattle.typed_tree.specs.TypedTree.{TypedExpression}
use Rattle.cond_jumps.specs.Conjunctions.{Conjunction, joined, listed_plan, row_fits}
use Rattle.cond_jumps.specs.Environments.{Environment}
use Rattle.lowered_graph.specs.LoweredSteps.Edges.{parameters_get}

-- the rows of so many arguments, which fit; those of the others come behind them
pub record AreSoFar (v : Environment) (first base : ℕ) (args : List TypedExpression) (place : ℕ) (c : Conjunction) : Type 0 where
  pub seen : listed_plan (parameters_get v first args) base ≡ map (joined c) (listed_plan (parameters_get v (first + place) (drop place args)) (base + c.helpers))
  pub fit : list_all row_fits c.rows ≡ true
