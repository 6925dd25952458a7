use Rattle.std.proofs.Common.{ap, Err, sym, refl, ◌∙◌}
use Rattle.std.proofs.lemmas.Result.{err_from_is_err_and}
use Rattle.typed_tree.specs.TypedView.{expression}
use Rattle.typed_tree.proofs.Parts.{mismatched, rule_broken, operation_big}
use Rattle.typed_tree.proofs.typing.operated.Goals as goal

pub returns-in_default : goal.returns-in_default
returns-in_default c = λ s old a h k.
    mismatched s old c.args.at c.args.op a (expression c.args.right.now) c.args.first.now c.args.second.now h k (sym c.operation_type.ensures ∙ c.in_default.is)

pub returns-in_err-check_operator : goal.returns-in_err-check_operator
returns-in_err-check_operator c = λ s old a h k.
    let p = err_from_is_err_and c.from_residual.result c.from_residual.ensures.1 in
    rw (p.1, p.2)
    (rule_broken s old c.args.at c.args.op a (expression c.args.right.now) c.in_err-check_operator.field-0.0
    (c.in_err-check_operator.ensures.broken refl) c.in_err-check_operator.ensures.fault)

pub returns-in-Err-TooBig : goal.returns-in-Err-TooBig
returns-in-Err-TooBig c = λ s old a h k.
    operation_big s old c.args.at c.args.op a (expression c.args.right.now) c.args.first.now c.args.second.now h k
    (c.operation.ensures.too_big (c.in-Err-TooBig.is ∙ ap Err c.in-Err-TooBig.field-0-is))
