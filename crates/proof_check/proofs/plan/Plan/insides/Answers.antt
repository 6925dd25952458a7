use Rattle.proof_check.proofs.plan.Plan.insides.Goals as goal

pub returns : goal.returns
returns c = λ q. rw (c.of.ensures, ← c.self.view_is) (c.self.invariant.inside (c.args.letter, c.args.to) q)
