use Rattle.std.proofs.Common.{◌∙◌}
use Rattle.std.proofs.lemmas.Result.{IfOk-weaker}
use Rattle.boogie_tree.specs.View as view
use Rattle.typed_tree.specs.TypingRules.TypedParts.{typed_program}
use Rattle.explain_top.proofs.trace_story.telling.told_letters.Goals as goal

pub returns : goal.returns
returns c =
    IfOk-weaker c.told_by.result _ _
    (λ text h. h (typed_program c.args.program.now) (view.program c.args.tree.now) (c.deref.ensures.value ∙ c.in_ok-sites.ensures) c.in_ok-table.ensures)
    c.told_by.ensures
