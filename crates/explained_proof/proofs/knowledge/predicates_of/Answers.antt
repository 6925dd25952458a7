use Rattle.std.proofs.Common.{◌∙◌, map, sym, ap}
use Rattle.std.specs.List.{list_all}
use Rattle.std.proofs.lemmas.List.{take_all}
use Rattle.std.proofs.lemmas.List.Folds.{list_all-map}
use Rattle.proof_form.specs.declared.lines.PredLine.{PredLine}
use Rattle.proof_form.specs.Lines as form
use Rattle.proof_names.specs.Predicates.{pred_named}
use Rattle.proof_names.proofs.AllLaws.{passes_at}
use Rattle.explained_proof.specs.Known as spec
use Rattle.explained_proof.proofs.KnowledgeLaws.{lines_valid, lines_said}
use Rattle.explained_proof.proofs.knowledge.predicates_of.Goals as goal

pub predicate_of-requires : goal.predicate_of-requires
predicate_of-requires c =
    let ls = c.preds-lines.result.now in
    passes_at (λ (n : PredLine). form.is_pred (form.pred n)) ls c.loop-line.line-index c.line-item.result
    (sym (list_all-map form.is_pred form.pred ls) ∙ ap (list_all form.is_pred) c.preds-lines.ensures.value ∙ lines_valid c.args.annotation.now c.preds-lines.ensures.valid)
    c.loop-line-test.true c.line-item.is

pub returns : goal.returns
returns c = λ k.
    let ls = c.preds-lines.result.now in
    lines_said c.args.icfg.now c.args.annotation.now c.loop-line.list.items ls
    (c.loop-line.invariant ∙ ap (map (λ (line : PredLine). spec.formula_in (pred_named c.args.icfg.now (form.pred line)))) (take_all c.loop-line.line-index ls c.loop-line-test.false))
    c.preds-lines.ensures.value k
