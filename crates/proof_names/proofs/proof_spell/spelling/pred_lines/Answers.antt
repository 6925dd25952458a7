use Rattle.proof_form.specs.Lines as lines
use Rattle.proof_names.specs.ProofSpell.Drafts.{MayBeNamed}
use Rattle.proof_names.specs.ProofSpell.Spelled.{SpellsPred}
use Rattle.proof_names.proofs.ProofSpell.CorrespondLaws.{correspond_more, all_got}
use Rattle.proof_names.proofs.proof_spell.spelling.pred_lines.Goals as goal

pub pred_line-requires : goal.pred_line-requires
pred_line-requires c =
    all_got (MayBeNamed c.args.icfg.now) c.args.preds.now c.loop-scoped.scoped-index c.scoped-item.result c.scoped-item.result c.requires c.loop-scoped-test.true c.scoped-item.is

pub loop-scoped-preserved : goal.loop-scoped-preserved
loop-scoped-preserved c =
    correspond_more (λ line. SpellsPred c.args.icfg.now (lines.pred line)) c.loop-scoped.lines.items c.push.new.self.items c.args.preds.now c.loop-scoped.scoped-index
    c.in_ok-pred_line.field-0 c.scoped-item.result c.scoped-item.result c.loop-scoped.invariant c.loop-scoped-test.true c.scoped-item.is c.in_ok-pred_line.ensures c.in_ok-push.ensures.items
