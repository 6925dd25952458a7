use Rattle.std.proofs.Common.{◌↔◌, ◌∙◌, ◌+◌, Bool, drop, sym, ap, subst}
use Rattle.letter_acts.specs.Frames.{ConstantsFirst}
use Rattle.letter_acts.specs.Checks.{infos, ConstantsLeft}
use Rattle.letter_acts.proofs.LayoutLemmas.{constant_late, changing_step, constant_step, constants_end}
use Rattle.letter_acts.proofs.checks.frames.constants_stand_first.Goals as goal
use Rattle.letter_acts.proofs.checks.frames.constants_stand_first.Goals.{then-not-frame-i, else-not-frame-i+else-changing}

pub returns-then-changing : goal.returns-then-changing
returns-then-changing c =
    constant_late c.args.frame.now _ c.loop-i.i _ c.loop-i.changing c.index-frame-i.is c.loop-i-test.true (ap (λ x. x.1.constant) c.index-frame-i.is ∙ c.if-not-frame-i.false) c.if-changing.true c.loop-i.invariant

pub loop-i-preserved : goal.loop-i-preserved
loop-i-preserved c =
    let frame = c.args.frame.now in
    let Left : Bool → Type 0 = λ b. ConstantsLeft b (infos (drop (c.loop-i.i + 1) frame)) ↔ ConstantsFirst (infos frame) in
    elim c.if-not-frame-i.branch [
      | then-not-frame-i w ↦
          subst Left (sym w.changing-is)
          (changing_step frame _ c.loop-i.i _ c.loop-i.changing c.index-frame-i.is c.loop-i-test.true (ap (λ x. x.1.constant) c.index-frame-i.is ∙ w.if-not-frame-i.true) c.loop-i.invariant)
      | else-not-frame-i+else-changing w ↦
          subst Left (sym w.changing-is)
          (constant_step frame _ c.loop-i.i _ c.loop-i.changing c.index-frame-i.is c.loop-i-test.true (ap (λ x. x.1.constant) c.index-frame-i.is ∙ w.if-not-frame-i.false) w.if-changing.false c.loop-i.invariant)
    ]

pub returns : goal.returns
returns c = constants_end c.args.frame.now _ c.loop-i.i c.loop-i.changing c.loop-i-test.false c.loop-i.invariant
