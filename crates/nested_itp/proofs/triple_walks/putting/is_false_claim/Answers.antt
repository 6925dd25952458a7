use Rattle.nested_itp.proofs.TripleWalks.PuttingLaws.{false_is, false_none}
use Rattle.nested_itp.proofs.triple_walks.putting.is_false_claim.Goals as goal

pub returns-in-Some : goal.returns-in-Some
returns-in-Some c = λ g w t v known. false_is g w t v c.args.guide.now c.args.claim c.in-Some.found.now c.is_false.result known c.in-Some.ensures c.is_false.ensures

pub returns-in-None : goal.returns-in-None
returns-in-None c = λ g w t v known. false_none g w t v c.args.guide.now c.args.claim known c.in-None.ensures
