use Rattle.std.proofs.Common.{ℕ, get_or, refl, sym, ◌∙◌}
use Rattle.typed_tree.specs.TypingRules.Rules.{is_member}
use Rattle.typed_tree.proofs.TypingRules.LoopLaws.{plain_step, plain_fails, plain_end}
use Rattle.typed_tree.proofs.typing_rules.statements.all_named.Goals as goal

pub loop-label-preserved : goal.loop-label-preserved
loop-label-preserved c =
    plain_step (λ (n : ℕ). is_member n c.args.frame.now.labels) c.args.labels.now c.loop-label.label-index (get_or c.args.labels.now c.loop-label.label-index 0) 0 _ c.loop-label-test.true refl (sym c.has.ensures ∙ c.if-not-has.false) c.loop-label.invariant

pub returns-then-not-has : goal.returns-then-not-has
returns-then-not-has c =
    plain_fails (λ (n : ℕ). is_member n c.args.frame.now.labels) c.args.labels.now c.loop-label.label-index (get_or c.args.labels.now c.loop-label.label-index 0) 0 _ c.loop-label-test.true refl (sym c.has.ensures ∙ c.if-not-has.true) c.loop-label.invariant

pub returns : goal.returns
returns c = plain_end (λ (n : ℕ). is_member n c.args.frame.now.labels) c.args.labels.now c.loop-label.label-index _ c.loop-label-test.false c.loop-label.invariant
