use Rattle.std.proofs.Common.{◌≡◌, drop}
use Rattle.proof_names.specs.Predicates.{terms_ascend}
use Rattle.rank_lasso.proofs.AscendLaws.{ascend_from}
use Rattle.rank_lasso.proofs.naming.ascend.Given as goal

abbrev pub invariant-loop-term : goal.invariant-loop-term
invariant-loop-term l = terms_ascend l.terms ≡ ascend_from l.least (drop l.term-index l.terms)
