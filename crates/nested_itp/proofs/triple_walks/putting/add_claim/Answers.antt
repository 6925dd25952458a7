use Rattle.std.proofs.lemmas.Result.{on_ok_weaker}
use Rattle.nested_itp.specs.TripleWalks.Goals.{plain_goal}
use Rattle.nested_itp.proofs.TripleWalks.PuttingLaws.{claim_absent, claim_given}
use Rattle.nested_itp.proofs.triple_walks.putting.add_claim.Goals as goal

pub returns-in_default : goal.returns-in_default
returns-in_default c = λ g w t v led known. claim_absent g w t v c.args.guide.now c.args.claim (plain_goal c.args.goal.now) known c.in_default.ensures

pub returns : goal.returns
returns c =
    on_ok_weaker c.give.result
    (λ e. λ g w t v led known. claim_given g w t v c.args.guide.now c.args.claim c.in-Some.found.now c.is_used.result c.in_ok-given.given (plain_goal c.args.goal.now) (plain_goal c.give.new.self) led known
    c.in-Some.ensures c.in_ok-given.ensures c.is_used.ensures e) c.give.ensures
