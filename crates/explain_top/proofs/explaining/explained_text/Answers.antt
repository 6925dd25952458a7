use Rattle.std.proofs.Common.{◌∙◌, sym, subst, IfOk}
use Rattle.std.proofs.lemmas.Result.{IfOk-weaker}
use Rattle.typed_tree.specs.TypingRules.TypedParts.{typed_program}
use Rattle.text_reports.specs.Answers.{answer_of}
use Rattle.explain_top.specs.Report.{Kind, Explains}
use Rattle.explain_top.proofs.ExplainLaws.{failure_kind}
use Rattle.explain_top.proofs.explaining.explained_text.Goals as goal

pub returns-then-starts_with-clause-reported : goal.returns-then-starts_with-clause-reported
returns-then-starts_with-clause-reported c =
    subst
    (λ (k : Kind). IfOk c.explained_failure.result (λ a. Explains k c.args.text.now c.args.all (typed_program c.args.program.now) c.args.icfg.now c.args.second.now (answer_of a)))
    (sym (failure_kind c.args.second.now (sym c.starts_with.ensures.value ∙ c.if-starts_with.true)))
    c.explained_failure.ensures

pub returns-else-starts_with-2-clause-safe : goal.returns-else-starts_with-2-clause-safe
returns-else-starts_with-2-clause-safe c = IfOk-weaker c.explained_proof.result _ _ (λ a h kind zero. h zero) c.explained_proof.ensures.safe
