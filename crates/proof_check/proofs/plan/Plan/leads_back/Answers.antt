use Rattle.proof_check.proofs.plan.Plan.leads_back.Goals as goal

pub returns : goal.returns
returns c = rw (c.contains.ensures, ← c.self.view_is) (c.self.invariant.back_lands (c.args.exit, c.args.call, c.args.letter, c.args.place))
