use Rattle.std.proofs.Common.{false, refl}
use Rattle.typed_tree.specs.TypedView.{expression}
use Rattle.cond_jumps.specs.Comparisons.{equal}
use Rattle.cond_jumps.specs.Forms.{Linears, column}
use Rattle.cond_jumps.specs.Frames.{frame_environment}
use Rattle.cond_jumps.specs.Paths.{linear}
use Rattle.cond_jumps.specs.Ties.SumView.{IsSumOf}
use Rattle.cond_jumps.proofs.ComparedAnswers.{own_rows_fit, both_compared, second_refused}
use Rattle.cond_jumps.proofs.equations.equation.Goals as goal

pub returns-in_err-b : goal.returns-in_err-b
returns-in_err-b c =
    let b : Linears = linear (frame_environment c.args.frame.now.columns.items) false (expression c.args.value.now) in
    let h : IsSumOf (column c.args.number c.args.base) c.in_ok-a.a = record { seen = c.in_ok-a.ensures; fit = refl } in
    second_refused equal (column c.args.number) b c.args.base c.in_ok-later.field-0 c.in_ok-a.a c.in_err-b.field-0.0 c.from_residual-in_err-b.result h c.in_ok-later.ensures
    c.from_residual-in_err-b.ensures.1 c.in_err-b.ensures

pub returns : goal.returns
returns c =
    let b : Linears = linear (frame_environment c.args.frame.now.columns.items) false (expression c.args.value.now) in
    let h : IsSumOf (column c.args.number c.args.base) c.in_ok-a.a = record { seen = c.in_ok-a.ensures; fit = refl } in
    both_compared equal (column c.args.number) b c.args.base c.in_ok-later.field-0 c.in_ok-a.a c.in_ok-b.b c.compared.result h c.in_ok-later.ensures c.in_ok-b.ensures c.compared.ensures

pub compared-requires-clause-first : goal.compared-requires-clause-first
compared-requires-clause-first c =
    own_rows_fit (column c.args.number c.args.base) c.in_ok-a.a (record { seen = c.in_ok-a.ensures; fit = refl })

pub compared-requires-clause-second : goal.compared-requires-clause-second
compared-requires-clause-second c =
    own_rows_fit (linear (frame_environment c.args.frame.now.columns.items) false (expression c.args.value.now) c.in_ok-later.field-0) c.in_ok-b.b c.in_ok-b.ensures
