use Rattle.std.proofs.Common.{◌∙◌, sym, arith}
use Rattle.letter_acts.specs.Frames.{is_variable}
use Rattle.letter_acts.proofs.CountLemmas.{places_pass, places_miss, places_end}
use Rattle.letter_acts.proofs.checks.columns.count_variables.Goals as goal
use Rattle.letter_acts.proofs.checks.columns.count_variables.Goals.{then-is_variable, else-is_variable}

pub loop-i-preserved : goal.loop-i-preserved
loop-i-preserved c =
    elim c.if-is_variable.branch [
      | then-is_variable w ↦
          let k = places_pass is_variable c.args.frame.now c.loop-i.i _ _ c.index-frame-i.is c.loop-i-test.true (sym c.is_variable.ensures ∙ w.if-is_variable.true) in
          (omega arith, omega (arith, k))
      | else-is_variable w ↦
          let k = places_miss is_variable c.args.frame.now c.loop-i.i _ _ c.index-frame-i.is c.loop-i-test.true (sym c.is_variable.ensures ∙ w.if-is_variable.false) in
          (omega arith, omega (arith, k))
    ]

pub returns-clause-value : goal.returns-clause-value
returns-clause-value c = omega (arith, places_end is_variable c.args.frame.now c.loop-i.i c.loop-i-test.false)
