use Rattle.std.proofs.Common.{◌∙◌, ap, arith, sym, length, length-append, [], ◌∷◌, Option}
use Rattle.std.specs.Arc.{arc_value}
use Rattle.race_core.specs.declared.events.Why.{Why}
use Rattle.race_core.specs.declared.events.Outcome.TheVariants.{Published}
use Rattle.race_core.specs.Races.{Race}
use Rattle.race_core.specs.Steps.{published, publish_outcome}
use Rattle.race_core.proofs.Legality.{fair_next, fair_keeps}
use Rattle.race_core.proofs.Interleaved.{publication_is_taken}
use Rattle.race_core.proofs.races.Shared.publish.Goals as goal

pub add-requires-clause-room : goal.add-requires-clause-room
add-requires-clause-room g c κs within =
    let r = c.args.self.now in
    ((publication_is_taken r.end (length r.history) r.limit c.args.base).0 (sym c.in-None.ensures.value)).1

pub add-requires-clause-next : goal.add-requires-clause-next
add-requires-clause-next g c κs within =
    let r = c.args.self.now in
    let taken = (publication_is_taken r.end (length r.history) r.limit c.args.base).0 (sym c.in-None.ensures.value) in
    fair_next g.E.Evidence.automaton r.program r.history c.args.base c.args.entry (arc_value c.args.kept)
    (omega (arith, taken.2)) (c.requires (omega (arith, taken.2)))

pub add-requires-clause-keeps : goal.add-requires-clause-keeps
add-requires-clause-keeps g c κs within =
    let r = c.args.self.now in
    let taken = (publication_is_taken r.end (length r.history) r.limit c.args.base).0 (sym c.in-None.ensures.value) in
    fair_keeps g.E.Evidence.automaton r.program r.history c.args.base c.args.entry (arc_value c.args.kept)
    (omega (arith, taken.2)) (c.requires (omega (arith, taken.2)))

pub returns-in-None-clause-state : goal.returns-in-None-clause-state
returns-in-None-clause-state g c =
    c.add.ensures ∙ ap (λ (o : Option Why). published o c.args.self.now c.args.entry (arc_value c.args.kept)) c.in-None.ensures.value

pub returns-in-None-clause-answer : goal.returns-in-None-clause-answer
returns-in-None-clause-answer g c =
    let h = c.args.self.now.history in
    let more = c.version.ensures ∙ ap (λ (r : Race g.row.E.Denot). length r.history) c.add.ensures ∙ length-append h (c.args.entry ∷ []) in
    ap Published more
    ∙ ap (λ (o : Option Why). publish_outcome o (length h) (λ why. record { why = why; entry = c.args.entry; kept = c.args.kept })) c.in-None.ensures.value
