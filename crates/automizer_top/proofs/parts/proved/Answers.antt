use Rattle.std.proofs.Common.{◌≡◌, ◌<◌, ◌∙◌, ◌+◌, ℕ, List, Some, length, refl, sym, ap, subst, arith}
use Rattle.modular_cut.specs.View.{plain_part}
use Rattle.text_reports.specs.Answers.{answer_of}
use Rattle.text_reports.specs.ReportTexts.{accepted_answer, syntax_answer}
use Rattle.automizer_top.specs.PartTexts.{modular_line, text_behind}
use Rattle.automizer_top.specs.Ties.PartViews.{JudgesPart, ChecksOn}
use Rattle.automizer_top.proofs.PartOnce.{behind_is_short}
use Rattle.automizer_top.proofs.PartLoops.{part_graph, many_graphs, none_proved, one_more_proved, one_is_wrong, all_proved, all_have_none, end_empty, end_behind}
use Rattle.automizer_top.proofs.parts.proved.Goals as goal

pub loop-number-init : goal.loop-number-init
loop-number-init c =
    let ps = c.args.lowered.now.parts.items in
    let many : c.len.result ≡ length ps = omega arith in
    let line : c.deref.result.now ≡ modular_line (length ps) = c.deref.ensures.value ∙ c.in_ok-line.ensures ∙ ap modular_line many in
    let told : text_behind (modular_line (length ps)) c.args.text.now ≡ Some c.in-Some.rest.now =
    subst (λ (l : List ℕ). text_behind l c.args.text.now ≡ Some c.in-Some.rest.now) line (sym c.in-Some.ensures) in
    none_proved ps c.args.lowered.now.graphs.items c.args.text.now c.in-Some.rest.now _ told (behind_is_short (modular_line (length ps)) c.args.text.now c.in-Some.rest.now told) refl refl

pub index-requires-in-loop-number : goal.index-requires-in-loop-number
index-requires-in-loop-number c = omega (arith, many_graphs c.args.lowered.now.parts.items c.args.lowered.now.graphs.items c.requires.graphs)

pub checked_part-requires-clause-text : goal.checked_part-requires-clause-text
checked_part-requires-clause-text c = let short = c.loop-number.invariant.short in omega arith

pub checked_part-requires-clause-graph : goal.checked_part-requires-clause-graph
checked_part-requires-clause-graph c =
    (part_graph c.args.lowered.now.parts.items c.args.lowered.now.graphs.items c.loop-number.number c.index.result.now c.index-in-loop-number.result.now c.requires.graphs (omega arith)
    c.index.ensures c.index-in-loop-number.ensures).value

pub returns-in-Err-clause-reported : goal.returns-in-Err-clause-reported
returns-in-Err-clause-reported c =
    let wrong : JudgesPart (plain_part c.index.result.now) c.loop-number.left (answer_of c.in-Err.answer) = rw c.in-Err.is at c.in_ok-next.ensures in
    one_is_wrong c.args.lowered.now.parts.items c.args.lowered.now.graphs.items c.args.text.now c.loop-number.number c.loop-number.left c.index.result.now (answer_of c.in-Err.answer) (omega arith)
    c.index.ensures c.loop-number.invariant wrong

pub loop-number-preserved : goal.loop-number-preserved
loop-number-preserved c =
    let ps = c.args.lowered.now.parts.items in
    let gs = c.args.lowered.now.graphs.items in
    let within : c.loop-number.number < length ps = omega arith in
    let graph = part_graph ps gs c.loop-number.number c.index.result.now c.index-in-loop-number.result.now c.requires.graphs within c.index.ensures c.index-in-loop-number.ensures in
    let on : ChecksOn (plain_part c.index.result.now) c.index-in-loop-number.result.now c.loop-number.left c.in-Ok.next = rw c.in-Ok.is at c.in_ok-next.ensures in
    one_more_proved ps gs c.args.text.now c.loop-number.number c.loop-number.left c.in-Ok.next c.index.result.now c.index-in-loop-number.result.now within c.index.ensures
    (omega (arith, many_graphs ps gs c.requires.graphs)) c.index-in-loop-number.ensures graph.value c.loop-number.invariant on

pub returns-then-is_empty-clause-reported : goal.returns-then-is_empty-clause-reported
returns-then-is_empty-clause-reported c =
    all_proved c.args.lowered.now.parts.items c.args.lowered.now.graphs.items c.args.text.now c.loop-number.number c.loop-number.left accepted_answer (omega arith) c.loop-number.invariant
    (end_empty c.loop-number.left.before c.loop-number.left.text.now (sym c.is_empty.ensures ∙ c.if-is_empty.true))

pub returns-then-is_empty-clause-accepted : goal.returns-then-is_empty-clause-accepted
returns-then-is_empty-clause-accepted c = λ e.
    let ps = c.args.lowered.now.parts.items in
    let gs = c.args.lowered.now.graphs.items in
    all_have_none ps gs c.args.text.now c.loop-number.number c.loop-number.left (omega (arith, many_graphs ps gs c.requires.graphs)) c.loop-number.invariant

pub returns-clause-reported : goal.returns-clause-reported
returns-clause-reported c =
    all_proved c.args.lowered.now.parts.items c.args.lowered.now.graphs.items c.args.text.now c.loop-number.number c.loop-number.left (syntax_answer (c.loop-number.left.before + 1)) (omega arith) c.loop-number.invariant
    (end_behind c.loop-number.left.before c.loop-number.left.text.now (sym c.is_empty.ensures ∙ c.if-is_empty.false))
