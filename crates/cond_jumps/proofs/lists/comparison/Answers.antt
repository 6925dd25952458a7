use Rattle.std.proofs.Common.{Bool, true, false, sym, subst, FitsSigned}
use Rattle.std.specs.Int.{w128}
use Rattle.std.proofs.lemmas.Int.{to_z-of_z}
use Rattle.typed_tree.specs.TypedView.{expression}
use Rattle.cond_jumps.specs.Comparisons.{compared}
use Rattle.cond_jumps.specs.Conjunctions.{Just}
use Rattle.cond_jumps.specs.Forms.{Linears}
use Rattle.cond_jumps.specs.Frames.{frame_environment}
use Rattle.cond_jumps.specs.ListView.{IsPlanAnswer, row_by}
use Rattle.cond_jumps.specs.Paths.{linear}
use Rattle.cond_jumps.proofs.ComparedAnswers.{own_rows_fit, both_compared, first_refused, second_refused}
use Rattle.cond_jumps.proofs.lists.comparison.Goals as goal

pub returns-in_err-a : goal.returns-in_err-a
returns-in_err-a c =
    let a : Linears = linear (frame_environment c.args.frame.now.columns.items) c.args.old (expression c.args.left.now) in
    let b : Linears = linear (frame_environment c.args.frame.now.columns.items) c.args.old (expression c.args.right.now) in
    first_refused (row_by c.args.kind c.args.k c.args.turned) a b c.args.base c.in_err-a.field-0.0 c.from_residual.result c.from_residual.ensures.1 c.in_err-a.ensures

pub returns-in_err-b : goal.returns-in_err-b
returns-in_err-b c =
    let a : Linears = linear (frame_environment c.args.frame.now.columns.items) c.args.old (expression c.args.left.now) in
    let b : Linears = linear (frame_environment c.args.frame.now.columns.items) c.args.old (expression c.args.right.now) in
    second_refused (row_by c.args.kind c.args.k c.args.turned) a b c.args.base c.in_ok-later.field-0 c.in_ok-a.a c.in_err-b.field-0.0 c.from_residual-in_err-b.result c.in_ok-a.ensures
    c.in_ok-later.ensures c.from_residual-in_err-b.ensures.1 c.in_err-b.ensures

pub returns-then-turned : goal.returns-then-turned
returns-then-turned c =
    let f : FitsSigned w128 c.args.k = c.ranges.k in
    let e = simp to_z-of_z at c.compared_above.ensures in
    let a : Linears = linear (frame_environment c.args.frame.now.columns.items) c.args.old (expression c.args.left.now) in
    let b : Linears = linear (frame_environment c.args.frame.now.columns.items) c.args.old (expression c.args.right.now) in
    subst (λ (t : Bool). IsPlanAnswer (Just (compared (row_by c.args.kind c.args.k t) a b)) c.args.base c.compared_above.result) (sym c.if-turned.true)
    (both_compared (row_by c.args.kind c.args.k true) a b c.args.base c.in_ok-later.field-0 c.in_ok-a.a c.in_ok-b.b c.compared_above.result c.in_ok-a.ensures c.in_ok-later.ensures
    c.in_ok-b.ensures e)

pub returns-else-turned : goal.returns-else-turned
returns-else-turned c =
    let f : FitsSigned w128 c.args.k = c.ranges.k in
    let e = simp to_z-of_z at c.compared.ensures in
    let a : Linears = linear (frame_environment c.args.frame.now.columns.items) c.args.old (expression c.args.left.now) in
    let b : Linears = linear (frame_environment c.args.frame.now.columns.items) c.args.old (expression c.args.right.now) in
    subst (λ (t : Bool). IsPlanAnswer (Just (compared (row_by c.args.kind c.args.k t) a b)) c.args.base c.compared.result) (sym c.if-turned.false)
    (both_compared (row_by c.args.kind c.args.k false) a b c.args.base c.in_ok-later.field-0 c.in_ok-a.a c.in_ok-b.b c.compared.result c.in_ok-a.ensures c.in_ok-later.ensures
    c.in_ok-b.ensures e)

pub compared_above-requires-clause-first : goal.compared_above-requires-clause-first
compared_above-requires-clause-first c =
    own_rows_fit (linear (frame_environment c.args.frame.now.columns.items) c.args.old (expression c.args.left.now) c.args.base) c.in_ok-a.a c.in_ok-a.ensures

pub compared_above-requires-clause-second : goal.compared_above-requires-clause-second
compared_above-requires-clause-second c =
    own_rows_fit (linear (frame_environment c.args.frame.now.columns.items) c.args.old (expression c.args.right.now) c.in_ok-later.field-0) c.in_ok-b.b c.in_ok-b.ensures

pub compared-requires-clause-first : goal.compared-requires-clause-first
compared-requires-clause-first c =
    own_rows_fit (linear (frame_environment c.args.frame.now.columns.items) c.args.old (expression c.args.left.now) c.args.base) c.in_ok-a.a c.in_ok-a.ensures

pub compared-requires-clause-second : goal.compared-requires-clause-second
compared-requires-clause-second c =
    own_rows_fit (linear (frame_environment c.args.frame.now.columns.items) c.args.old (expression c.args.right.now) c.in_ok-later.field-0) c.in_ok-b.b c.in_ok-b.ensures
