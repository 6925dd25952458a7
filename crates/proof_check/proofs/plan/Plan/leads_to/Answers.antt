use Rattle.proof_check.proofs.plan.Plan.leads_to.Goals as goal

pub returns : goal.returns
returns c = rw (c.contains.ensures, ← c.self.view_is) (c.self.invariant.lands (c.args.from, c.args.letter, c.args.place))
