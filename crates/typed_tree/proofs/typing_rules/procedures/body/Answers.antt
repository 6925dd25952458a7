use Rattle.std.proofs.Common.{ap, map}
use Rattle.std.specs.Option.{option_map}
use Rattle.std.proofs.lemmas.Result.{err_from_is_err_and}
use Rattle.typed_tree.specs.TypedView as view
use Rattle.typed_tree.specs.TypingRules.Ties.Judged.{context}
use Rattle.typed_tree.proofs.TypingRules.ProcedureParts.{body_fault}
use Rattle.typed_tree.proofs.typing_rules.procedures.body.Goals as goal

pub returns-in_err-block-in-Some : goal.returns-in_err-block-in-Some
returns-in_err-block-in-Some c =
    let p = err_from_is_err_and c.from_residual-in_err-block-in-Some.result c.from_residual-in_err-block-in-Some.ensures.1 in
    rw (p.1, p.2)
    (body_fault c.args.globals.now (map view.procedure c.args.procs.now) (view.procedure c.args.checked.now) (context c.in_ok-frame-in-Some.frame)
    (view.statements c.in-Some.listed.items) (view.statements c.deref.result.now) _
    c.in_ok-frame-in-Some.ensures (ap (option_map (λ b. view.statements b.items)) c.in-Some.is) (ap view.statements c.deref.ensures.value) c.in_err-block-in-Some.ensures)
