use Rattle.proof_check.proofs.plan.Plan.has.Goals as goal

pub returns : goal.returns
returns c = rw (c.contains.ensures, ← c.self.view_is) (c.self.invariant.mark (c.args.number, c.args.pred))
