use Rattle.std.proofs.Common.{◌∙◌, sym}
use Rattle.std.proofs.lemmas.List.Folds.{list_all-map}
use Rattle.proof_form.specs.Lines as form
use Rattle.proof_names.proofs.AllLaws.{passes_at}
use Rattle.proof_reuse.proofs.FoundLaws.{found_none, found_next, found_all}
use Rattle.proof_reuse.proofs.founds.founds_of.Goals as goal

pub pred_found-requires : goal.pred_found-requires
pred_found-requires c =
    passes_at (λ n. form.is_pred (form.pred n)) c.args.lines.now c.loop-line.line-index c.line-item.result (sym (list_all-map form.is_pred form.pred c.args.lines.now) ∙ c.requires)
    c.loop-line-test.true c.line-item.is

pub loop-line-init : goal.loop-line-init
loop-line-init c = found_none c.args.icfg.now _ _ c.new.ensures.items c.new-2.ensures.items

pub loop-line-preserved : goal.loop-line-preserved
loop-line-preserved c =
    found_next c.args.icfg.now c.args.lines.now c.loop-line.line-index c.line-item.result c.loop-line.founds.preds.items c.add_line.new.founds.preds.items
    c.loop-line.founds.numbers.items c.add_line.new.founds.numbers.items c.in_ok-found.found c.loop-line-test.true c.line-item.is c.in_ok-found.ensures c.loop-line.invariant
    c.in_ok-add_line.ensures

pub returns : goal.returns
returns c = found_all c.args.icfg.now c.args.lines.now c.loop-line.line-index c.loop-line.founds.preds.items c.loop-line.founds.numbers.items c.loop-line-test.false c.loop-line.invariant
