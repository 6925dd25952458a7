use Rattle.std.proofs.Common.{◌∙◌, sym, ap}
use Rattle.letter_acts.specs.FrameRows.Frames.{is_of}
use Rattle.letter_acts.proofs.FrameRows.LoopLaws.{types_pass, types_miss}
use Rattle.letter_acts.proofs.frame_rows.frames.types_in.Goals as goal
use Rattle.letter_acts.proofs.frame_rows.frames.types_in.Goals.{then-is_of+in_ok-push, else-is_of}

pub loop-i-preserved : goal.loop-i-preserved
loop-i-preserved c = elim c.if-is_of.branch [
  | then-is_of+in_ok-push w ↦
      types_pass (is_of c.args.class) c.args.frame.now c.loop-i.i c.index-frame-i.result c.index-frame-i.result c.loop-i.types.items c.if-is_of.types.items
      c.index-frame-i.is c.loop-i-test.true (sym c.is_of.ensures ∙ w.if-is_of.true) c.loop-i.invariant (ap (λ v. v.items) w.types-is ∙ w.in_ok-push.ensures.items)
  | else-is_of w ↦
      ap (λ v. v.items) w.types-is ∙
      types_miss (is_of c.args.class) c.args.frame.now c.loop-i.i c.index-frame-i.result c.index-frame-i.result c.loop-i.types.items
      c.index-frame-i.is c.loop-i-test.true (sym c.is_of.ensures ∙ w.if-is_of.false) c.loop-i.invariant
]
