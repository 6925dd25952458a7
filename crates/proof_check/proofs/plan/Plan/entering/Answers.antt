use Rattle.proof_check.proofs.plan.Plan.entering.Goals as goal

pub returns : goal.returns
returns c = λ n l. rw (c.of.ensures, ← c.self.view_is) (c.self.invariant.enters c.args.to (n, l))
