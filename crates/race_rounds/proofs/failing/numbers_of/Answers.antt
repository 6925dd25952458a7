use Rattle.std.proofs.Common.{rules, pos, FitsSigned, get_or}
use Rattle.std.specs.Int.{w128}
use Rattle.std.proofs.lemmas.Int.{to_z-of_z}
use Rattle.boogie_run.specs.declared.types.Choice.{Choice}
use Rattle.race_rounds.proofs.NumbersTaken.{numbers_more, numbers_all}
use Rattle.race_rounds.proofs.failing.numbers_of.Goals as goal

pub loop-choice-preserved : goal.loop-choice-preserved
loop-choice-preserved c =
    let none : Choice = record { 0 = pos 0 } in
    let s : FitsSigned w128 (get_or c.args.choices.now c.loop-choice.choice-index none).0 = search rules in
    numbers_more c.args.choices.now c.loop-choice.choice-index none _ _ c.loop-choice-test.true c.loop-choice.invariant
    (simp to_z-of_z at c.in_ok-push.ensures.items)

pub returns : goal.returns
returns c = numbers_all c.args.choices.now c.loop-choice.choice-index _ c.loop-choice-test.false c.loop-choice.invariant
