use Rattle.proof_reuse.proofs.FoundLaws.{adds_some, adds_nothing}
use Rattle.proof_reuse.proofs.founds.add_line.Goals as goal

pub returns-in_default : goal.returns-in_default
returns-in_default c =
    adds_nothing c.args.founds.now.preds.items c.args.founds.now.numbers.items c.push.new.self.items c.args.found c.in_default.is c.in_ok-push.ensures.items

pub returns : goal.returns
returns c =
    adds_some c.args.founds.now.preds.items c.put.new.preds.items c.args.founds.now.numbers.items c.push-2.new.self.items c.args.found c.in-Some.found c.in_ok-place.place
    c.in_ok-number.number c.in-Some.is c.in_ok-place.ensures c.in_ok-number.ensures c.in_ok-push-2.ensures.items
