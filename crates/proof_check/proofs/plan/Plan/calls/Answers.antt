use Rattle.proof_check.proofs.plan.Plan.calls.Goals as goal

pub returns : goal.returns
returns c = λ q. rw (c.of.ensures, ← c.self.view_is) (c.self.invariant.call (c.args.letter, c.args.to) q)
