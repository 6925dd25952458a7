use Rattle.std.proofs.Common.{ℕ, get_or, refl, sym, ◌∙◌}
use Rattle.typed_tree.specs.TypingRules.Rules.{is_member}
use Rattle.typed_tree.proofs.TypingRules.LoopLaws.{plain_step, plain_fails, plain_end}
use Rattle.typed_tree.proofs.typing_rules.calls.all_listed.Goals as goal

pub loop-number-preserved : goal.loop-number-preserved
loop-number-preserved c =
    plain_step (λ (n : ℕ). is_member n c.args.frame.now.modifies) c.args.numbers.now c.loop-number.number-index (get_or c.args.numbers.now c.loop-number.number-index 0) 0 _ c.loop-number-test.true refl (sym c.has.ensures ∙ c.if-not-has.false) c.loop-number.invariant

pub returns-then-not-has : goal.returns-then-not-has
returns-then-not-has c =
    plain_fails (λ (n : ℕ). is_member n c.args.frame.now.modifies) c.args.numbers.now c.loop-number.number-index (get_or c.args.numbers.now c.loop-number.number-index 0) 0 _ c.loop-number-test.true refl (sym c.has.ensures ∙ c.if-not-has.true) c.loop-number.invariant

pub returns : goal.returns
returns c = plain_end (λ (n : ℕ). is_member n c.args.frame.now.modifies) c.args.numbers.now c.loop-number.number-index _ c.loop-number-test.false c.loop-number.invariant
