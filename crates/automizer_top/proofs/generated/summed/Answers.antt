use Rattle.std.proofs.lemmas.Result.{IfOk-weaker}
use Rattle.typed_tree.specs.TypingRules.TypedParts.{typed_program}
use Rattle.automizer_top.proofs.BigLaws.{big_is_safe}
use Rattle.automizer_top.proofs.generated.summed.Goals as goal

pub returns-clause-safe : goal.returns-clause-safe
returns-clause-safe g c =
    let t = typed_program c.in_ok-program.program in
    IfOk-weaker c.decided-answer.result _ _ (λ a h z u typed. big_is_safe c.args.count t c.in-Ok.icfg c.in_ok-program.ensures c.in-Ok.ensures (h z) u typed) c.decided-answer.ensures.safe
