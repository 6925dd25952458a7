-- Predicates whose rows are tightened: divided by the greatest common divisor of their coefficients.
use Rattle.lin_rows.specs.Tightening.{tightened}
use Rattle.triple_rows.specs.declared.predicates.PredNode.{PredNode}
use Rattle.triple_rows.specs.declared.predicates.PredNode.TheVariants.{Truth, Atom, And, Or}
use Rattle.triple_rows.specs.Predicates.{Formula, Formulas, truth, atom, and_of, or_of, no_formula, one_more}

abbrev mutual
  pub tight : Formula → Formula
  tight (truth b) = truth b
  tight (atom r) = atom (tightened r)
  tight (and_of fs) = and_of (all_tight fs)
  tight (or_of fs) = or_of (all_tight fs)

  pub all_tight : Formulas → Formulas
  all_tight no_formula = no_formula
  all_tight (one_more f fs) = one_more (tight f) (all_tight fs)

-- a node of such a predicate
abbrev pub tight_node : PredNode → PredNode
tight_node (Truth b) = Truth b
tight_node (Atom r) = Atom (tightened r)
tight_node (And k) = And k
tight_node (Or k) = Or k
