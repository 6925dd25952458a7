use Rattle.std.proofs.Common.{FitsSigned, refl, rules, arith}
use Rattle.std.specs.Int.{w128}
use Rattle.boogie_run.specs.StepView.{happening}
use Rattle.boogie_run.proofs.TopSteps.{has_way, now_true, not_true}
use Rattle.boogie_run.proofs.actions.suppose.Goals as goal

pub go-requires-clause-way : goal.go-requires-clause-way
go-requires-clause-way c = has_way (happening c.args.config.now) _ c.requires.here (omega arith)

pub returns-clause-answer : goal.returns-clause-answer
returns-clause-answer c =
    let value = rw c.env.ensures at c.in_ok-value.ensures in
    (value.2, rw (now_true _ _ value.0 c.if-branch-eq0.false, c.in_ok-go.ensures.went refl) refl)

pub returns-then-branch-eq0-clause-answer : goal.returns-then-branch-eq0-clause-answer
returns-then-branch-eq0-clause-answer c =
    let f : FitsSigned w128 c.in_ok-value.field-0 = search rules in
    let value = rw c.env.ensures at c.in_ok-value.ensures in
    (value.2, rw (not_true _ _ value.0 c.if-branch-eq0.true f) refl)
