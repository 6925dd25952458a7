use Rattle.std.proofs.Common.{◌∙◌, sym, arith}
use Rattle.std.proofs.lemmas.List.Sums.{prefix_len-drop_yes, prefix_len-drop_no, prefix_len-drop_all}
use Rattle.letter_acts.specs.Frames.{is_global}
use Rattle.letter_acts.proofs.checks.frames.count_globals.Goals as goal

pub returns-then-not-is_global_column-clause-value : goal.returns-then-not-is_global_column-clause-value
returns-then-not-is_global_column-clause-value c =
    omega (arith, prefix_len-drop_no is_global c.args.frame.now c.loop-i.i _ c.loop-i-test.true (sym c.is_global_column.ensures ∙ c.if-not-is_global_column.true))

pub loop-i-preserved : goal.loop-i-preserved
loop-i-preserved c =
    omega (arith, prefix_len-drop_yes is_global c.args.frame.now c.loop-i.i _ c.loop-i-test.true (sym c.is_global_column.ensures ∙ c.if-not-is_global_column.false))

pub returns-clause-value : goal.returns-clause-value
returns-clause-value c = omega (arith, prefix_len-drop_all is_global c.args.frame.now c.loop-i.i c.loop-i-test.false)
