use Rattle.int_decide.specs.Ties.Picking.{Implies}
use Rattle.int_decide.proofs.picking.refutes.Given as goal

abbrev pub invariant-loop-number : goal.invariant-loop-number
invariant-loop-number l = Implies l.rows l.sum
