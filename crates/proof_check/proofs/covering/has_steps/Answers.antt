use Rattle.std.proofs.Common.{◌∙◌, ap}
use Rattle.nwa_base.specs.Automata.{Automaton}
use Rattle.nwa_base.specs.Edges.{leaving}
use Rattle.proof_check.proofs.CoverLaws.{steps_tested, steps_missed}
use Rattle.proof_check.proofs.covering.has_steps.Goals as goal

pub returns-then-has_steps_along : goal.returns-then-has_steps_along
returns-then-has_steps_along c =
    λ x e. steps_tested c.args.icfg.now c.args.plan.now c.args.number c.args.place x c.insides_leaving.result.now c.calls_leaving.result.now c.has_steps_along.result
    c.has_steps_along-then-has_steps_along.result
    (c.insides_leaving.ensures ∙ ap (λ (m : Automaton). leaving c.args.place m.insides) c.nwa.ensures.value)
    (c.calls_leaving.ensures ∙ ap (λ (m : Automaton). leaving c.args.place m.calls) c.nwa-then-has_steps_along.ensures.value)
    c.has_steps_along.ensures c.if-has_steps_along.true c.has_steps_along-then-has_steps_along.ensures e

pub returns-else-has_steps_along : goal.returns-else-has_steps_along
returns-else-has_steps_along c =
    λ x e. steps_missed c.args.icfg.now c.args.plan.now c.args.number c.args.place x c.insides_leaving.result.now c.has_steps_along.result
    (c.insides_leaving.ensures ∙ ap (λ (m : Automaton). leaving c.args.place m.insides) c.nwa.ensures.value) c.has_steps_along.ensures c.if-has_steps_along.false e
