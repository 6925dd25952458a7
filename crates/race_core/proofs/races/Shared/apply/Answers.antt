use Rattle.std.proofs.Common.{◌∙◌, ap, sym}
use Rattle.race_core.specs.declared.events.Event.{Event}
use Rattle.race_core.specs.Races.{Race}
use Rattle.race_core.specs.Steps.{after, outcome}
use Rattle.race_core.proofs.Interleaved.{program_stays, limit_stays}
use Rattle.race_core.proofs.races.Shared.apply.Goals as goal

pub returns-in-Publish-clause-state : goal.returns-in-Publish-clause-state
returns-in-Publish-clause-state g c =
    c.publish.ensures.state ∙ ap (λ (x : Event g.row.E.Denot). after c.args.self.now x) (sym c.in-Publish.is)

pub returns-in-Publish-clause-same : goal.returns-in-Publish-clause-same
returns-in-Publish-clause-same g c =
    let s = returns-in-Publish-clause-state g c in (
      ap (λ (r : Race g.row.E.Denot). r.program) s ∙ program_stays c.args.self.now c.args.event,
      ap (λ (r : Race g.row.E.Denot). r.limit) s ∙ limit_stays c.args.self.now c.args.event,
    )

pub returns-in-Publish-clause-answer : goal.returns-in-Publish-clause-answer
returns-in-Publish-clause-answer g c =
    c.publish.ensures.answer ∙ ap (λ (x : Event g.row.E.Denot). outcome c.args.self.now x) (sym c.in-Publish.is)

pub returns-in-Finish-clause-state : goal.returns-in-Finish-clause-state
returns-in-Finish-clause-state g c =
    c.finish.ensures.state ∙ ap (λ (x : Event g.row.E.Denot). after c.args.self.now x) (sym c.in-Finish.is)

pub returns-in-Finish-clause-same : goal.returns-in-Finish-clause-same
returns-in-Finish-clause-same g c =
    let s = returns-in-Finish-clause-state g c in (
      ap (λ (r : Race g.row.E.Denot). r.program) s ∙ program_stays c.args.self.now c.args.event,
      ap (λ (r : Race g.row.E.Denot). r.limit) s ∙ limit_stays c.args.self.now c.args.event,
    )

pub returns-in-Finish-clause-answer : goal.returns-in-Finish-clause-answer
returns-in-Finish-clause-answer g c =
    c.finish.ensures.answer ∙ ap (λ (x : Event g.row.E.Denot). outcome c.args.self.now x) (sym c.in-Finish.is)
