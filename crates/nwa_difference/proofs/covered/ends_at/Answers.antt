use Rattle.nwa_difference.proofs.CoverLemmas.{ends_there}
use Rattle.nwa_difference.proofs.covered.ends_at.Goals as goal

pub returns-in-Some : goal.returns-in-Some
returns-in-Some c = λ yes.
    ends_there c.args.pairs.now c.args.place c.args.state c.in-Some.field-0.now c.in-Some.ensures.lookup.3.0 c.in-Some.ensures.lookup.1 yes
