use Rattle.std.proofs.Common.{◌∙◌, not, sym, ap}
use Rattle.letter_acts.specs.Reading.{is_listed}
use Rattle.triple_rows.proofs.FilterLaws.{passed, missed}
use Rattle.triple_rows.proofs.frames.unlisted.Goals as goal
use Rattle.triple_rows.proofs.frames.unlisted.Goals.{then-not-is_listed+in_ok-push, else-not-is_listed}

pub loop-number-preserved : goal.loop-number-preserved
loop-number-preserved c = elim c.if-not-is_listed.branch [
  | then-not-is_listed+in_ok-push w ↦
      passed (λ g. not (is_listed c.args.listed.now g)) c.args.numbers.now c.loop-number.number-index c.loop-number.others.items c.if-not-is_listed.others.items c.loop-number-test.true
      (ap not (sym c.is_listed.ensures ∙ w.if-not-is_listed.true)) c.loop-number.invariant (ap (λ v. v.items) w.others-is ∙ w.in_ok-push.ensures.items)
  | else-not-is_listed w ↦
      ap (λ v. v.items) w.others-is ∙
      missed (λ g. not (is_listed c.args.listed.now g)) c.args.numbers.now c.loop-number.number-index c.loop-number.others.items c.loop-number-test.true
      (ap not (sym c.is_listed.ensures ∙ w.if-not-is_listed.false)) c.loop-number.invariant
]
