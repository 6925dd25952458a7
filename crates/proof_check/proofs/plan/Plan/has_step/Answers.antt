use Rattle.proof_check.proofs.plan.Plan.has_step.Goals as goal

pub returns : goal.returns
returns c = rw (c.contains.ensures, ← c.self.view_is) (c.self.invariant.step (c.args.from, c.args.letter, c.args.to))
