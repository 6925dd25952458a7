use Rattle.std.proofs.Common.{ap, suc, arith}
use Rattle.nested_itp.proofs.TripleSteps.BoundLaws.{before_first, before_other}
use Rattle.nested_itp.proofs.triple_steps.bounds.before_bounds.Goals as goal

pub returns-then-letters-eq0-clause-roles : goal.returns-then-letters-eq0-clause-roles
returns-then-letters-eq0-clause-roles c = λ g w t v. before_first c.args.frame.now (suc c.args.letters) c.bounds_in-count.result (ap suc c.if-letters-eq0.true) c.bounds_in-count.ensures

pub returns-else-letters-eq0-clause-roles : goal.returns-else-letters-eq0-clause-roles
returns-else-letters-eq0-clause-roles c = λ g w t v. before_other c.args.frame.now (suc c.args.letters) c.bounds_in-count.result (let n = c.if-letters-eq0.false in omega (arith, n)) c.bounds_in-count.ensures
