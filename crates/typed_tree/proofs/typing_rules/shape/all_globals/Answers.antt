use Rattle.std.proofs.Common.{ℕ, get_or, refl, sym, ◌∙◌}
use Rattle.std.specs.Prelude.{not, slice_get}
use Rattle.boogie_tree.specs.declared.tree.VarInfo.{VarInfo}
use Rattle.typed_tree.specs.TypingRules.Rules.{meets}
use Rattle.typed_tree.proofs.TypingRules.LoopLaws.{plain_step, plain_fails, plain_end}
use Rattle.typed_tree.proofs.typing_rules.shape.all_globals.Goals as goal

pub loop-number-preserved : goal.loop-number-preserved
loop-number-preserved c =
    plain_step (λ (n : ℕ). meets (λ (v : VarInfo). not v.constant) (slice_get c.args.globals.now n)) c.args.numbers.now c.loop-number.number-index (get_or c.args.numbers.now c.loop-number.number-index 0) 0 _ c.loop-number-test.true refl (sym c.is_global.ensures ∙ c.if-not-is_global.false) c.loop-number.invariant

pub returns-then-not-is_global : goal.returns-then-not-is_global
returns-then-not-is_global c =
    plain_fails (λ (n : ℕ). meets (λ (v : VarInfo). not v.constant) (slice_get c.args.globals.now n)) c.args.numbers.now c.loop-number.number-index (get_or c.args.numbers.now c.loop-number.number-index 0) 0 _ c.loop-number-test.true refl (sym c.is_global.ensures ∙ c.if-not-is_global.true) c.loop-number.invariant

pub returns : goal.returns
returns c = plain_end (λ (n : ℕ). meets (λ (v : VarInfo). not v.constant) (slice_get c.args.globals.now n)) c.args.numbers.now c.loop-number.number-index _ c.loop-number-test.false c.loop-number.invariant
