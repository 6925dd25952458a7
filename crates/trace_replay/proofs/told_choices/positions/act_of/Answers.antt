use Rattle.std.proofs.Common.{◌∙◌, sym}
use Rattle.trace_replay.proofs.ActsRead.{act_is_named, act_is_another, no_act}
use Rattle.trace_replay.proofs.told_choices.positions.act_of.Goals as goal

pub returns-in_err-act : goal.returns-in_err-act
returns-in_err-act c = rw c.from_residual.ensures (no_act c.acts.result.now c.args.icfg.now.acts c.args.letter c.acts.ensures.value c.in_err-act.ensures.lookup.3)

pub returns-then-has_act : goal.returns-then-has_act
returns-then-has_act c =
    act_is_named c.acts.result.now c.args.icfg.now.acts c.args.letter c.in_ok-act.act.now c.acts.ensures.value c.in_ok-act.ensures.lookup.3.0 c.in_ok-act.ensures.lookup.1 (sym c.has_act.ensures ∙ c.if-has_act.true)

pub returns-else-has_act : goal.returns-else-has_act
returns-else-has_act c =
    act_is_another c.acts.result.now c.args.icfg.now.acts c.args.letter c.in_ok-act.act.now c.acts.ensures.value c.in_ok-act.ensures.lookup.3.0 c.in_ok-act.ensures.lookup.1 (sym c.has_act.ensures ∙ c.if-has_act.false)
