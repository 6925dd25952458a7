use Rattle.nwa_base.specs.declared.letters.Kind.TheVariants as kinds
use Rattle.proof_names.specs.Outlines.{node}
use Rattle.proof_check.proofs.SoundLaws.{call_no_edge, call_other_entry, call_rest}
use Rattle.proof_check.proofs.sound.call_is_sound.Goals as goal

pub returns-then-not-has_call : goal.returns-then-not-has_call
returns-then-not-has_call c =
    call_no_edge c.args.icfg.now c.args.plan.now c.args.from c.args.to (record { id = c.args.id; kind = kinds.Call; call = 0 }) (node c.node-before.result.now) (node c.node-end.result.now)
    c.has_call.result c.node-before.ensures c.node-end.ensures (rw c.nwa.ensures.value at c.has_call.ensures) c.if-not-has_call.true

pub returns-then-end-to : goal.returns-then-end-to
returns-then-end-to c =
    call_other_entry c.args.icfg.now c.args.plan.now c.args.from c.args.to (record { id = c.args.id; kind = kinds.Call; call = 0 }) (node c.node-before.result.now) (node c.node-end.result.now)
    c.node-before.ensures c.node-end.ensures c.if-end-to.true

pub returns : goal.returns
returns c =
    call_rest c.args.icfg.now c.args.plan.now c.args.from c.args.to (record { id = c.args.id; kind = kinds.Call; call = 0 }) (node c.node-before.result.now) (node c.node-end.result.now)
    c.has_call.result c.call_is_shown.result c.deref.result.now c.node-before.ensures c.node-end.ensures (rw c.nwa.ensures.value at c.has_call.ensures) c.if-not-has_call.false c.if-end-to.false c.deref.ensures.value
    c.call_is_shown.ensures
