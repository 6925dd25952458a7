use Rattle.std.proofs.Common.{◌∙◌, not, sym, ap}
use Rattle.letter_acts.specs.Reading.{is_listed}
use Rattle.icfg_lower.proofs.CallJumps.FilterTurns.{passed_behind, missed_behind}
use Rattle.icfg_lower.proofs.call_jumps.written.written_columns.Goals as goal
use Rattle.icfg_lower.proofs.call_jumps.written.written_columns.Goals.{then-not-is_in+in_ok-push, else-not-is_in}

pub loop-target-preserved : goal.loop-target-preserved
loop-target-preserved c = elim c.if-not-is_in.branch [
  | then-not-is_in+in_ok-push w ↦
      passed_behind (λ n. not (is_listed c.args.modified.now n)) c.args.modified.now c.args.targets.now c.loop-target.target-index c.loop-target.written.items c.if-not-is_in.written.items
      c.loop-target-test.true (ap not (sym c.is_in.ensures ∙ w.if-not-is_in.true)) c.loop-target.invariant (ap (λ v. v.items) w.written-is ∙ w.in_ok-push.ensures.items)
  | else-not-is_in w ↦
      ap (λ v. v.items) w.written-is
      ∙ missed_behind (λ n. not (is_listed c.args.modified.now n)) c.args.modified.now c.args.targets.now c.loop-target.target-index c.loop-target.written.items c.loop-target-test.true
      (ap not (sym c.is_in.ensures ∙ w.if-not-is_in.false)) c.loop-target.invariant
]
