use Rattle.std.proofs.Common.{◌≡◌, ◌≢◌, ◌∙◌, map, ap, sym, subst, arith}
use Rattle.modular_cut.specs.View.{plain_part}
use Rattle.race_verdicts.specs.declared.verdicts.Verdict.{Verdict}
use Rattle.automizer_top.specs.Verdicts.{verdict_status}
use Rattle.automizer_top.specs.Parts.{ReportsParts}
use Rattle.automizer_top.specs.Ties.Answers.{decided_answer}
use Rattle.automizer_top.proofs.PartLoops.{part_graph, many_graphs, one_more_safe, one_is_unsafe, all_are_safe, none_has_errors}
use Rattle.automizer_top.proofs.parts.decided.Goals as goal

pub index-requires : goal.index-requires
index-requires g c = omega (arith, many_graphs c.args.lowered.now.parts.items c.args.lowered.now.graphs.items c.requires.graphs)

pub raced-requires-clause-graph : goal.raced-requires-clause-graph
raced-requires-clause-graph g c κs within =
    part_graph c.args.lowered.now.parts.items c.args.lowered.now.graphs.items c.loop-number.number c.index-part.result.now c.index.result.now c.requires.graphs (omega arith)
    c.index-part.ensures c.index.ensures

pub returns-then-verdict_status-ne0-clause-reported : goal.returns-then-verdict_status-ne0-clause-reported
returns-then-verdict_status-ne0-clause-reported g c =
    let d = c.in-Ok.decision in
    let same : c.in-Ok-add_decision.verdict ≡ d.verdict = c.in-Ok-add_decision.ensures.verdict in
    let other : verdict_status d.verdict ≢ 0 = λ z. c.if-verdict_status-ne0.true (c.verdict_status.ensures ∙ ap verdict_status same ∙ z) in
    let reported = one_is_unsafe c.args.limits c.args.lowered.now.parts.items c.args.lowered.now.graphs.items c.loop-number.number c.loop-number.text.items
    c.add_decision.new.text.items c.loop-number.races.items c.add_decision.new.races.items c.index-part.result.now (decided_answer d) (omega arith)
    c.index-part.ensures c.loop-number.invariant c.in-Ok.ensures.reported other (c.in-Ok-add_decision.ensures.alone other) c.in-Ok-add_decision.ensures.race in
    subst (λ (v : Verdict). ReportsParts c.args.limits (map plain_part c.args.lowered.now.parts.items)
    (record { bytes = c.add_decision.new.text.items; status = verdict_status v; races = c.add_decision.new.races.items })) (sym same) reported

pub loop-number-preserved : goal.loop-number-preserved
loop-number-preserved g c =
    let ps = c.args.lowered.now.parts.items in
    let gs = c.args.lowered.now.graphs.items in
    let d = c.in-Ok.decision in
    let zero : verdict_status d.verdict ≡ 0 = sym (ap verdict_status c.in-Ok-add_decision.ensures.verdict) ∙ sym c.verdict_status.ensures ∙ c.if-verdict_status-ne0.false in
    one_more_safe c.args.limits ps gs c.loop-number.number c.loop-number.text.items c.add_decision.new.text.items c.loop-number.races.items
    c.add_decision.new.races.items c.index-part.result.now c.index.result.now (decided_answer d) (omega arith) c.index-part.ensures
    (omega (arith, many_graphs ps gs c.requires.graphs)) c.index.ensures c.loop-number.invariant c.in-Ok.ensures.reported zero (c.in-Ok.ensures.safe zero)
    (c.in-Ok-add_decision.ensures.safe zero) c.in-Ok-add_decision.ensures.race

pub returns-clause-reported : goal.returns-clause-reported
returns-clause-reported g c =
    all_are_safe c.args.limits c.args.lowered.now.parts.items c.args.lowered.now.graphs.items c.loop-number.number c.loop-number.text.items c.loop-number.races.items (omega arith) c.loop-number.invariant

pub returns-clause-safe : goal.returns-clause-safe
returns-clause-safe g c = λ z.
    none_has_errors c.args.limits c.args.lowered.now.parts.items c.args.lowered.now.graphs.items c.loop-number.number c.loop-number.text.items c.loop-number.races.items
    (omega (arith, many_graphs c.args.lowered.now.parts.items c.args.lowered.now.graphs.items c.requires.graphs)) c.loop-number.invariant
