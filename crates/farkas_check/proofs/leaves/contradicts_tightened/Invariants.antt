use Rattle.std.proofs.Common.{◌↔◌, drop, map}
use Rattle.lin_rows.specs.Combinations.{Contradicts}
use Rattle.lin_rows.specs.Tightening.{tightened}
use Rattle.farkas_check.proofs.LeafSteps.{ContradictsFrom}
use Rattle.farkas_check.proofs.leaves.contradicts_tightened.Given as goal

-- the parts that are left, with the sum so far, contradict the rows exactly where all parts do
abbrev pub invariant-loop-number : goal.invariant-loop-number
invariant-loop-number l = ContradictsFrom (map tightened l.rows) l.next l.sum (drop l.number-index l.parts) ↔ Contradicts (map tightened l.rows) l.parts
