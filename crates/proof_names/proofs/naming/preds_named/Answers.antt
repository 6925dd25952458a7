use Rattle.std.proofs.Common.{◌≡◌, ◌∙◌, Some, map, sym}
use Rattle.std.proofs.lemmas.List.Folds.{list_all-map}
use Rattle.proof_form.specs.Lines as form
use Rattle.proof_names.specs.Predicates.{pred_named}
use Rattle.proof_names.proofs.AllLaws.{passes_at}
use Rattle.proof_names.proofs.NodeLaws.{no_value}
use Rattle.proof_names.proofs.PairLaws.{so_far_mapped, stops_mapped}
use Rattle.proof_names.proofs.SoFarLaws.{so_far_start, mapped_end}
use Rattle.proof_names.proofs.naming.preds_named.Goals as goal

pub pred_named-requires : goal.pred_named-requires
pred_named-requires c =
    passes_at (λ n. form.is_pred (form.pred n)) c.args.lines.now c.loop-k.k c.index-lines-k.result (sym (list_all-map form.is_pred form.pred c.args.lines.now) ∙ c.requires)
    c.loop-k-test.true c.index-lines-k.is

pub returns-in-None-clause-at : goal.returns-in-None-clause-at
returns-in-None-clause-at c =
    λ i e. stops_mapped form.pred (λ k line s. pred_named c.args.icfg.now line ≡ Some s) c.args.lines.now 0 i c.loop-k.k c.loop-k.preds.items c.index-lines-k.result c.loop-k.invariant
    c.loop-k-test.true c.index-lines-k.is (λ s r. no_value (pred_named c.args.icfg.now (form.pred c.index-lines-k.result)) s (sym c.in-None.is ∙ c.in_ok-pred.ensures) r) (c.unnamed.ensures i (cc))

pub loop-k-preserved : goal.loop-k-preserved
loop-k-preserved c =
    so_far_mapped form.pred (λ k line s. pred_named c.args.icfg.now line ≡ Some s) c.args.lines.now c.loop-k.k c.loop-k.preds.items _ c.index-lines-k.result c.in-Some.pred c.loop-k.invariant
    c.loop-k-test.true c.index-lines-k.is (sym c.in_ok-pred.ensures ∙ c.in-Some.is) c.in_ok-push-in-Some.ensures.items

pub loop-k-init : goal.loop-k-init
loop-k-init c = so_far_start (λ k line s. pred_named c.args.icfg.now line ≡ Some s) (map form.pred c.args.lines.now) c.in_ok-preds.preds.items c.in_ok-preds.ensures.items

pub returns-clause-ok : goal.returns-clause-ok
returns-clause-ok c = mapped_end form.pred (λ k line s. pred_named c.args.icfg.now line ≡ Some s) c.args.lines.now c.loop-k.k c.loop-k.preds.items c.loop-k.invariant c.loop-k-test.false c.loop-k.auto.k-end
