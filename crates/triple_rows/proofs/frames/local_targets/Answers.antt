use Rattle.std.proofs.Common.{◌∙◌, not, sym, ap}
use Rattle.letter_acts.specs.Invariant.{is_global_at}
use Rattle.triple_rows.proofs.FilterLaws.{passed, missed}
use Rattle.triple_rows.proofs.frames.local_targets.Goals as goal
use Rattle.triple_rows.proofs.frames.local_targets.Goals.{then-not-is_global_at+in_ok-push, else-not-is_global_at}

pub loop-target-preserved : goal.loop-target-preserved
loop-target-preserved c = elim c.if-not-is_global_at.branch [
  | then-not-is_global_at+in_ok-push w ↦
      passed (λ t. not (is_global_at c.args.frame.now t)) c.args.targets.now c.loop-target.target-index c.loop-target.locals.items c.if-not-is_global_at.locals.items c.loop-target-test.true
      (ap not (sym c.is_global_at.ensures ∙ w.if-not-is_global_at.true)) c.loop-target.invariant (ap (λ v. v.items) w.locals-is ∙ w.in_ok-push.ensures.items)
  | else-not-is_global_at w ↦
      ap (λ v. v.items) w.locals-is ∙
      missed (λ t. not (is_global_at c.args.frame.now t)) c.args.targets.now c.loop-target.target-index c.loop-target.locals.items c.loop-target-test.true
      (ap not (sym c.is_global_at.ensures ∙ w.if-not-is_global_at.false)) c.loop-target.invariant
]
