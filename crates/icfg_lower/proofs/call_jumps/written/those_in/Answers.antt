use Rattle.std.proofs.Common.{◌∙◌, [], sym, ap}
use Rattle.std.proofs.lemmas.List.{take_all}
use Rattle.letter_acts.specs.Reading.{is_listed}
use Rattle.lowered_graph.specs.LoweredSteps.Edges.{those_in}
use Rattle.icfg_lower.proofs.CallJumps.FilterTurns.{passed_behind, missed_behind}
use Rattle.icfg_lower.proofs.call_jumps.written.those_in.Goals as goal
use Rattle.icfg_lower.proofs.call_jumps.written.those_in.Goals.{then-is_in+in_ok-push, else-is_in}

pub loop-number-preserved : goal.loop-number-preserved
loop-number-preserved c = elim c.if-is_in.branch [
  | then-is_in+in_ok-push w ↦
      passed_behind (is_listed c.args.list.now) [] c.args.numbers.now c.loop-number.number-index c.loop-number.inside.items c.if-is_in.inside.items c.loop-number-test.true
      (sym c.is_in.ensures ∙ w.if-is_in.true) c.loop-number.invariant (ap (λ v. v.items) w.inside-is ∙ w.in_ok-push.ensures.items)
  | else-is_in w ↦
      ap (λ v. v.items) w.inside-is
      ∙ missed_behind (is_listed c.args.list.now) [] c.args.numbers.now c.loop-number.number-index c.loop-number.inside.items c.loop-number-test.true
      (sym c.is_in.ensures ∙ w.if-is_in.false) c.loop-number.invariant
]

pub loop-number-init : goal.loop-number-init
loop-number-init c = c.new-inside.ensures.items

pub returns : goal.returns
returns c = c.loop-number.invariant ∙ ap (those_in c.args.list.now) (take_all c.loop-number.number-index c.args.numbers.now c.loop-number-test.false)
