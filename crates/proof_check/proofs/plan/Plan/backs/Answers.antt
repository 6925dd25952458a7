use Rattle.proof_check.proofs.plan.Plan.backs.Goals as goal

pub returns : goal.returns
returns c = λ x b. rw (c.of.ensures, ← c.self.view_is) (c.self.invariant.back (c.args.letter, c.args.to) (x, b))
