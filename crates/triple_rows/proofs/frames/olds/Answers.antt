use Rattle.std.proofs.Common.{◌∙◌, ap}
use Rattle.triple_rows.proofs.FrontLaws.{olds_pass, olds_miss}
use Rattle.triple_rows.proofs.frames.olds.Goals as goal
use Rattle.triple_rows.proofs.frames.olds.Goals.{in-Some+in_ok-push, in_default}

pub loop-i-preserved : goal.loop-i-preserved
loop-i-preserved c = elim c.match-old_global.branch [
  | in-Some+in_ok-push w ↦
      olds_pass c.args.frame.now c.loop-i.i w.in-Some.global c.index-frame-i.result c.index-frame-i.result c.loop-i.numbers.items c.match-old_global.numbers.items
      c.index-frame-i.is c.loop-i-test.true w.in-Some.ensures c.loop-i.invariant (ap (λ v. v.items) w.numbers-is ∙ w.in_ok-push.ensures.items)
  | in_default w ↦
      ap (λ v. v.items) w.numbers-is ∙
      olds_miss c.args.frame.now c.loop-i.i c.index-frame-i.result c.index-frame-i.result c.loop-i.numbers.items
      c.index-frame-i.is c.loop-i-test.true w.in_default.ensures c.loop-i.invariant
]
