use Rattle.trace_replay.proofs.ToldChoices.Steps.{kind_pushed}
use Rattle.trace_replay.proofs.told_choices.kinds.add.Goals as goal

pub returns : goal.returns
returns c = kind_pushed c.args.kinds.now.items c.push.new.self.items c.args.kind c.in_ok-push.ensures.items
