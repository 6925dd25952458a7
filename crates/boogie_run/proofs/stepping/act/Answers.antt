use Rattle.std.proofs.Common.{ap, sym, subst, ◌∙◌, FitsSigned}
use Rattle.std.specs.Int.{w128}
use Rattle.std.proofs.lemmas.Int.{to_z-of_z}
use Rattle.boogie_run.specs.BoogiePoints.Told.{Told}
use Rattle.boogie_run.specs.BoogiePoints.View.{action_view}
use Rattle.boogie_run.specs.StepView.{Performs}
use Rattle.boogie_run.proofs.stepping.act.Goals as goal

pub returns-in-Check-clause-answer : goal.returns-in-Check-clause-answer
returns-in-Check-clause-answer c =
    subst (λ (a : Told). Performs c.args.config.now c.args.chosen a c.check.result c.check.new.config) (sym (ap action_view c.in-Check.is) ∙ c.action_here.ensures) c.check.ensures.answer

pub returns-in-Suppose-clause-answer : goal.returns-in-Suppose-clause-answer
returns-in-Suppose-clause-answer c =
    subst (λ (a : Told). Performs c.args.config.now c.args.chosen a c.suppose.result c.suppose.new.config) (sym (ap action_view c.in-Suppose.is) ∙ c.action_here.ensures) c.suppose.ensures.answer

pub returns-in-Demand-clause-answer : goal.returns-in-Demand-clause-answer
returns-in-Demand-clause-answer c =
    subst (λ (a : Told). Performs c.args.config.now c.args.chosen a c.demand.result c.demand.new.config) (sym (ap action_view c.in-Demand.is) ∙ c.action_here.ensures) c.demand.ensures.answer

pub returns-in-Write-clause-answer : goal.returns-in-Write-clause-answer
returns-in-Write-clause-answer c =
    subst (λ (a : Told). Performs c.args.config.now c.args.chosen a c.assign.result c.assign.new.config) (sym (ap action_view c.in-Write.is) ∙ c.action_here.ensures) c.assign.ensures.answer

pub returns-in-Guess-clause-answer : goal.returns-in-Guess-clause-answer
returns-in-Guess-clause-answer c =
    let f : FitsSigned w128 c.args.chosen = c.ranges.chosen in
    subst (λ (a : Told). Performs c.args.config.now c.args.chosen a c.guess.result c.guess.new.config) (sym (ap action_view c.in-Guess.is) ∙ c.action_here.ensures) (simp to_z-of_z at c.guess.ensures.answer)

pub returns-in-Test-clause-answer : goal.returns-in-Test-clause-answer
returns-in-Test-clause-answer c =
    subst (λ (a : Told). Performs c.args.config.now c.args.chosen a c.test.result c.test.new.config) (sym (ap action_view c.in-Test.is) ∙ c.action_here.ensures) c.test.ensures.answer

pub returns-in-Pick-clause-answer : goal.returns-in-Pick-clause-answer
returns-in-Pick-clause-answer c =
    let f : FitsSigned w128 c.args.chosen = c.ranges.chosen in
    subst (λ (a : Told). Performs c.args.config.now c.args.chosen a c.pick.result c.pick.new.config) (sym (ap action_view c.in-Pick.is) ∙ c.action_here.ensures) (simp to_z-of_z at c.pick.ensures.answer)

pub returns-in-Jump-clause-answer : goal.returns-in-Jump-clause-answer
returns-in-Jump-clause-answer c =
    subst (λ (a : Told). Performs c.args.config.now c.args.chosen a c.jump.result c.jump.new.config) (sym (ap action_view c.in-Jump.is) ∙ c.action_here.ensures) c.jump.ensures.answer

pub returns-in-Enter-clause-answer : goal.returns-in-Enter-clause-answer
returns-in-Enter-clause-answer c =
    subst (λ (a : Told). Performs c.args.config.now c.args.chosen a c.enter.result c.enter.new.config) (sym (ap action_view c.in-Enter.is) ∙ c.action_here.ensures) c.enter.ensures.answer

pub returns-in-Keep-clause-answer : goal.returns-in-Keep-clause-answer
returns-in-Keep-clause-answer c =
    let f : FitsSigned w128 c.args.chosen = c.ranges.chosen in
    subst (λ (a : Told). Performs c.args.config.now c.args.chosen a c.keep.result c.keep.new.config) (sym (ap action_view c.in-Keep.is) ∙ c.action_here.ensures) (simp to_z-of_z at c.keep.ensures.answer)

pub returns-in-Grant-clause-answer : goal.returns-in-Grant-clause-answer
returns-in-Grant-clause-answer c =
    subst (λ (a : Told). Performs c.args.config.now c.args.chosen a c.grant.result c.grant.new.config) (sym (ap action_view c.in-Grant.is) ∙ c.action_here.ensures) c.grant.ensures.answer

pub returns-in-Finish-clause-answer : goal.returns-in-Finish-clause-answer
returns-in-Finish-clause-answer c =
    subst (λ (a : Told). Performs c.args.config.now c.args.chosen a c.finish.result c.finish.new.config) (sym (ap action_view c.in-Finish.is) ∙ c.action_here.ensures) c.finish.ensures.answer

pub returns-in-Leave-clause-answer : goal.returns-in-Leave-clause-answer
returns-in-Leave-clause-answer c =
    subst (λ (a : Told). Performs c.args.config.now c.args.chosen a c.leave.result c.leave.new.config) (sym (ap action_view c.in-Leave.is) ∙ c.action_here.ensures) c.leave.ensures.answer

pub check-requires-clause-here : goal.check-requires-clause-here
check-requires-clause-here c = sym c.action_here.ensures ∙ ap action_view c.in-Check.is

pub returns-in-Check-clause-fits : goal.returns-in-Check-clause-fits
returns-in-Check-clause-fits c = c.check.ensures.fits

pub suppose-requires-clause-here : goal.suppose-requires-clause-here
suppose-requires-clause-here c = sym c.action_here.ensures ∙ ap action_view c.in-Suppose.is

pub returns-in-Suppose-clause-fits : goal.returns-in-Suppose-clause-fits
returns-in-Suppose-clause-fits c = c.suppose.ensures.fits

pub demand-requires-clause-here : goal.demand-requires-clause-here
demand-requires-clause-here c = sym c.action_here.ensures ∙ ap action_view c.in-Demand.is

pub returns-in-Demand-clause-fits : goal.returns-in-Demand-clause-fits
returns-in-Demand-clause-fits c = c.demand.ensures.fits

pub assign-requires-clause-here : goal.assign-requires-clause-here
assign-requires-clause-here c = sym c.action_here.ensures ∙ ap action_view c.in-Write.is

pub returns-in-Write-clause-fits : goal.returns-in-Write-clause-fits
returns-in-Write-clause-fits c = c.assign.ensures.fits

pub guess-requires-clause-here : goal.guess-requires-clause-here
guess-requires-clause-here c = sym c.action_here.ensures ∙ ap action_view c.in-Guess.is

pub returns-in-Guess-clause-fits : goal.returns-in-Guess-clause-fits
returns-in-Guess-clause-fits c = c.guess.ensures.fits

pub test-requires-clause-here : goal.test-requires-clause-here
test-requires-clause-here c = sym c.action_here.ensures ∙ ap action_view c.in-Test.is

pub returns-in-Test-clause-fits : goal.returns-in-Test-clause-fits
returns-in-Test-clause-fits c = c.test.ensures.fits

pub pick-requires-clause-here : goal.pick-requires-clause-here
pick-requires-clause-here c = sym c.action_here.ensures ∙ ap action_view c.in-Pick.is

pub returns-in-Pick-clause-fits : goal.returns-in-Pick-clause-fits
returns-in-Pick-clause-fits c = c.pick.ensures.fits

pub jump-requires-clause-here : goal.jump-requires-clause-here
jump-requires-clause-here c = sym c.action_here.ensures ∙ ap action_view c.in-Jump.is

pub returns-in-Jump-clause-fits : goal.returns-in-Jump-clause-fits
returns-in-Jump-clause-fits c = c.jump.ensures.fits

pub enter-requires-clause-here : goal.enter-requires-clause-here
enter-requires-clause-here c = sym c.action_here.ensures ∙ ap action_view c.in-Enter.is

pub returns-in-Enter-clause-fits : goal.returns-in-Enter-clause-fits
returns-in-Enter-clause-fits c = c.enter.ensures.fits

pub keep-requires-clause-here : goal.keep-requires-clause-here
keep-requires-clause-here c = sym c.action_here.ensures ∙ ap action_view c.in-Keep.is

pub returns-in-Keep-clause-fits : goal.returns-in-Keep-clause-fits
returns-in-Keep-clause-fits c = c.keep.ensures.fits

pub grant-requires-clause-here : goal.grant-requires-clause-here
grant-requires-clause-here c = sym c.action_here.ensures ∙ ap action_view c.in-Grant.is

pub returns-in-Grant-clause-fits : goal.returns-in-Grant-clause-fits
returns-in-Grant-clause-fits c = c.grant.ensures.fits

pub finish-requires-clause-here : goal.finish-requires-clause-here
finish-requires-clause-here c = sym c.action_here.ensures ∙ ap action_view c.in-Finish.is

pub returns-in-Finish-clause-fits : goal.returns-in-Finish-clause-fits
returns-in-Finish-clause-fits c = c.finish.ensures.fits

pub leave-requires-clause-here : goal.leave-requires-clause-here
leave-requires-clause-here c = sym c.action_here.ensures ∙ ap action_view c.in-Leave.is

pub returns-in-Leave-clause-fits : goal.returns-in-Leave-clause-fits
returns-in-Leave-clause-fits c = c.leave.ensures.fits
