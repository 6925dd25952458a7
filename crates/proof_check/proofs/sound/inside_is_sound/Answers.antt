use Rattle.nwa_base.specs.declared.letters.Kind.TheVariants as kinds
use Rattle.proof_names.specs.Outlines.{node}
use Rattle.proof_check.proofs.SoundLaws.{inside_no_edge, inside_other_entry, inside_rest}
use Rattle.proof_check.proofs.sound.inside_is_sound.Goals as goal

pub returns-then-not-has_inside : goal.returns-then-not-has_inside
returns-then-not-has_inside c =
    inside_no_edge c.args.icfg.now c.args.plan.now c.args.from c.args.to (record { id = c.args.id; kind = kinds.Inside; call = 0 }) (node c.node-before.result.now) (node c.node-end.result.now)
    c.nwa.result.now c.has_inside.result c.node-before.ensures c.node-end.ensures c.nwa.ensures.value c.has_inside.ensures c.if-not-has_inside.true

pub returns-then-end-before : goal.returns-then-end-before
returns-then-end-before c =
    inside_other_entry c.args.icfg.now c.args.plan.now c.args.from c.args.to (record { id = c.args.id; kind = kinds.Inside; call = 0 }) (node c.node-before.result.now) (node c.node-end.result.now)
    c.node-before.ensures c.node-end.ensures c.if-end-before.true

pub returns : goal.returns
returns c =
    inside_rest c.args.icfg.now c.args.plan.now c.args.from c.args.to (record { id = c.args.id; kind = kinds.Inside; call = 0 }) (node c.node-before.result.now) (node c.node-end.result.now)
    c.nwa.result.now c.has_inside.result c.inside_is_shown.result c.deref.result.now c.node-before.ensures c.node-end.ensures c.nwa.ensures.value c.has_inside.ensures c.if-not-has_inside.false
    c.if-end-before.false c.deref.ensures.value c.inside_is_shown.ensures
