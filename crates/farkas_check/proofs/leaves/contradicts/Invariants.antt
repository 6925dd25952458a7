use Rattle.std.proofs.Common.{◌↔◌, drop}
use Rattle.lin_rows.specs.Combinations.{Contradicts}
use Rattle.farkas_check.proofs.LeafSteps.{ContradictsFrom}
use Rattle.farkas_check.proofs.leaves.contradicts.Given as goal

-- the parts that are left, with the sum so far, contradict the rows exactly where all parts do
abbrev pub invariant-loop-number : goal.invariant-loop-number
invariant-loop-number l = ContradictsFrom l.rows l.next l.sum (drop l.number-index l.parts) ↔ Contradicts l.rows l.parts
