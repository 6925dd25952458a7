use Rattle.nwa_base.specs.declared.letters.Kind.TheVariants as kinds
use Rattle.proof_names.specs.Outlines.{node}
use Rattle.proof_check.proofs.SoundLaws.{back_no_edge, back_not_joined, back_other_entry, back_rest}
use Rattle.proof_check.proofs.sound.back_is_sound.Goals as goal

pub returns-then-not-has_back : goal.returns-then-not-has_back
returns-then-not-has_back c =
    back_no_edge c.args.icfg.now c.args.plan.now c.args.exit c.args.before c.args.to (record { id = c.args.id; kind = kinds.Back; call = c.args.call }) (node c.node-left.result.now) (node c.node-caller.result.now)
    (node c.node-end.result.now) c.nwa.result.now c.has_back.result
    c.node-left.ensures c.node-caller.ensures c.node-end.ensures c.nwa.ensures.value c.has_back.ensures c.if-not-has_back.true

pub returns-then-not-has_step : goal.returns-then-not-has_step
returns-then-not-has_step c =
    back_not_joined c.args.icfg.now c.args.plan.now c.args.exit c.args.before c.args.to (record { id = c.args.id; kind = kinds.Back; call = c.args.call }) (node c.node-left.result.now) (node c.node-caller.result.now)
    (node c.node-end.result.now) c.has_step.result
    c.node-left.ensures c.node-caller.ensures c.node-end.ensures c.has_step.ensures c.if-not-has_step.true

pub returns-then-end-caller : goal.returns-then-end-caller
returns-then-end-caller c =
    back_other_entry c.args.icfg.now c.args.plan.now c.args.exit c.args.before c.args.to (record { id = c.args.id; kind = kinds.Back; call = c.args.call }) (node c.node-left.result.now) (node c.node-caller.result.now)
    (node c.node-end.result.now)
    c.node-left.ensures c.node-caller.ensures c.node-end.ensures c.if-end-caller.true

pub returns : goal.returns
returns c =
    back_rest c.args.icfg.now c.args.plan.now c.args.exit c.args.before c.args.to (record { id = c.args.id; kind = kinds.Back; call = c.args.call }) (node c.node-left.result.now) (node c.node-caller.result.now)
    (node c.node-end.result.now) c.nwa.result.now c.has_back.result
    c.has_step.result c.back_is_shown.result c.deref.result.now c.node-left.ensures c.node-caller.ensures c.node-end.ensures c.nwa.ensures.value c.has_back.ensures c.if-not-has_back.false
    c.has_step.ensures c.if-not-has_step.false c.if-end-caller.false c.deref.ensures.value c.back_is_shown.ensures
