use Rattle.std.proofs.Common.{arith, get_or, sym}
use Rattle.std.proofs.lemmas.Grind.{common_steps}
use Rattle.std.proofs.lemmas.List.Folds.{list_any_more}
use Rattle.typed_tree.proofs.TypingRules.Differ.{number_repeated, numbers_differ_more}
use Rattle.typed_tree.proofs.typing_rules.numbers.differ.Goals as goal

pub loop-number-preserved : goal.loop-number-preserved
loop-number-preserved c = record {
  found = λ q. grind (arith, common_steps, list_any_more, c.loop-number.invariant.found q);
  differ = numbers_differ_more c.args.numbers.now c.loop-number.number-index c.loop-number-test.true c.loop-number.invariant.differ
      (grind (arith, common_steps, c.loop-number.invariant.found (get_or c.args.numbers.now c.loop-number.number-index 0), c.in_ok-insert.ensures.added));
}

pub returns-then-not-branch : goal.returns-then-not-branch
returns-then-not-branch c =
    sym (number_repeated c.args.numbers.now c.loop-number.number-index c.loop-number-test.true
    (grind (arith, common_steps, c.loop-number.invariant.found (get_or c.args.numbers.now c.loop-number.number-index 0), c.in_ok-insert.ensures.added)))
