use Rattle.std.proofs.Common.{ℕ, take}
use Rattle.std.specs.List.{AllByRecursion}
use Rattle.farkas_check.specs.Nodes.{plain_nodes}
use Rattle.hoare_check.specs.Ties.Counts.{IsCount}
use Rattle.triple_rows.specs.Cuts.{IsCutWithin}
use Rattle.hoare_check.proofs.cuts.cuts_within.Given as goal

abbrev pub invariant-loop-node : goal.invariant-loop-node
invariant-loop-node l = (n : ℕ) → IsCount n l.columns → AllByRecursion (IsCutWithin n) (plain_nodes (take l.node-index l.nodes))
