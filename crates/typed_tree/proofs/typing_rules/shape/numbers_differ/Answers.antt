use Rattle.std.proofs.Common.{ℕ, Bool, List, ◌≡◌, nat_eq, get_or, IfOk, refl, subst, ◌∙◌}
use Rattle.std.proofs.lemmas.List.{take_all}
use Rattle.typed_tree.specs.TypingRules.Rules.{all_differ}
use Rattle.typed_tree.proofs.TypingRules.LoopLaws.{taken_step}
use Rattle.typed_tree.proofs.typing_rules.shape.numbers_differ.Goals as goal

pub loop-number-preserved : goal.loop-number-preserved
loop-number-preserved c =
    taken_step c.args.numbers.now c.loop-number.number-index (get_or c.args.numbers.now c.loop-number.number-index 0) c.from.result 0 c.loop-number.wide.items c.push.new.self.items
    c.loop-number-test.true refl c.from.ensures c.in_ok-push.ensures.items c.loop-number.invariant

pub returns : goal.returns
returns c =
    subst (λ (ns : List ℕ). IfOk c.differ.result (λ (b : Bool). b ≡ all_differ nat_eq ns))
    (c.deref.ensures.value ∙ c.loop-number.invariant ∙ take_all c.loop-number.number-index c.args.numbers.now c.loop-number-test.false) c.differ.ensures
