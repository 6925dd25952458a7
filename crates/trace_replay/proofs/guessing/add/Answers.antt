use Rattle.std.proofs.Common.{◌∙◌, [], ◌∷◌, sym, append-nil}
use Rattle.trace_replay.proofs.ChoicesAdded.{numbers_behind, one_more_fit}
use Rattle.trace_replay.proofs.guessing.add.Goals as goal

pub returns-in_ok-push-clause-behind : goal.returns-in_ok-push-clause-behind
returns-in_ok-push-clause-behind c = numbers_behind c.args.choices.now.items c.push.new.self.items (c.fitting.result ∷ []) c.in_ok-push.ensures.items

pub returns-in_ok-push-clause-fit : goal.returns-in_ok-push-clause-fit
returns-in_ok-push-clause-fit c = one_more_fit c.args.choices.now.items c.push.new.self.items c.fitting.result c.in_ok-push.ensures.items c.requires c.fitting.ensures

pub returns-in_err-push-clause-behind : goal.returns-in_err-push-clause-behind
returns-in_err-push-clause-behind c = numbers_behind c.args.choices.now.items c.push.new.self.items [] (c.in_err-push.ensures.items ∙ sym (append-nil c.args.choices.now.items))

pub returns-in_default-clause-behind : goal.returns-in_default-clause-behind
returns-in_default-clause-behind c = numbers_behind c.args.choices.now.items c.args.choices.now.items [] (sym (append-nil c.args.choices.now.items))
