use Rattle.proof_reuse.proofs.SettlingLaws.{kept_some, kept_none}
use Rattle.proof_reuse.proofs.settling.keep.Goals as goal

pub loop-answer-preserved-in-Continue-1 : goal.loop-answer-preserved-in-Continue-1
loop-answer-preserved-in-Continue-1 c = kept_some c.loop-answer.yielded c.in-Some.answer c.in-Some-answer.proof c.args.proofs.now.items c.loop-answer.proofs.items c.push.new.self.items
    c.in-Some-answer.is c.loop-answer.invariant c.in_ok-push.ensures.items

pub loop-answer-preserved : goal.loop-answer-preserved
loop-answer-preserved c = kept_none c.loop-answer.yielded c.in-Some.answer c.args.proofs.now.items c.loop-answer.proofs.items c.in_default.not-Some c.loop-answer.invariant
