use Rattle.std.proofs.Common.{rules, sym}
use Rattle.typed_tree.proofs.TypingRules.Faults.{item_fault}
use Rattle.typed_tree.specs.TypedView as view
use Rattle.typed_tree.specs.Scope.{seen}
use Rattle.typed_tree.specs.TypingRules.Rules.{is_invariant}
use Rattle.typed_tree.proofs.TypingRules.LoopLaws.{all_step, all_end}
use Rattle.typed_tree.proofs.typing_rules.values.invariants.Goals as goal

pub returns-in_err-condition : goal.returns-in_err-condition
returns-in_err-condition c = search (rules, item_fault)

pub loop-invariant-preserved : goal.loop-invariant-preserved
loop-invariant-preserved c =
    all_step (is_invariant (seen c.args.scope.now)) view.invariant c.args.invariants.now c.loop-invariant.invariant-index c.invariant-item.result c.invariant-item.result _ c.loop-invariant-test.true c.invariant-item.is c.in_ok-condition.ensures c.loop-invariant.invariant

pub returns : goal.returns
returns c = sym (all_end (is_invariant (seen c.args.scope.now)) view.invariant c.args.invariants.now c.loop-invariant.invariant-index _ c.loop-invariant-test.false c.loop-invariant.invariant)
