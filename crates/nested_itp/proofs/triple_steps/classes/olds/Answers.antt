use Rattle.std.proofs.Common.{ℕ, List, ◌++◌, ap}
use Rattle.letter_acts.specs.Frames.{olds_of}
use Rattle.nested_itp.proofs.TripleSteps.ColumnLaws.{olds_next, olds_done}
use Rattle.nested_itp.proofs.triple_steps.classes.olds.Goals as goal

pub loop-i-init : goal.loop-i-init
loop-i-init c = ap (λ (l : List (ℕ × ℕ)). l ++ olds_of c.args.frame.now) c.new-olds.ensures.items

pub loop-i-preserved : goal.loop-i-preserved
loop-i-preserved c =
    olds_next c.args.frame.now c.loop-i.i c.in_ok-place.place c.index-frame-i.result c.index-frame-i.result c.loop-i.olds.items c.add_old.new.olds.items c.loop-i-test.true c.in_ok-place.ensures.value
    c.index-frame-i.is c.in_ok-add_old.ensures c.loop-i.invariant

pub returns : goal.returns
returns c = olds_done c.args.frame.now c.loop-i.i c.loop-i.olds.items c.loop-i-test.false c.loop-i.invariant
