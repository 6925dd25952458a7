use Rattle.std.proofs.Common.{map}
use Rattle.std.proofs.lemmas.Result.{err_from_is_err_and}
use Rattle.typed_tree.specs.TypedView as view
use Rattle.typed_tree.proofs.TypingRules.ProcedureParts.{specified_fault, procedure_judged}
use Rattle.typed_tree.proofs.typing_rules.procedures.procedure.Goals as goal

pub returns-in_err-specifications : goal.returns-in_err-specifications
returns-in_err-specifications c =
    let p = err_from_is_err_and c.from_residual.result c.from_residual.ensures.1 in
    rw (p.1, p.2)
    (specified_fault c.args.globals.now (map view.procedure c.args.procs.now) (view.procedure c.args.checked.now) _ c.in_err-specifications.ensures)

pub returns : goal.returns
returns c =
    procedure_judged _ c.args.globals.now (map view.procedure c.args.procs.now) (view.procedure c.args.checked.now)
    c.in_ok-specifications.ensures c.body.ensures
