use Rattle.std.proofs.Common.{rules, sym}
use Rattle.typed_tree.proofs.TypingRules.Faults.{item_fault}
use Rattle.typed_tree.specs.TypedView as view
use Rattle.typed_tree.specs.Scope.{seen}
use Rattle.typed_tree.specs.TypingRules.Rules.{is_condition}
use Rattle.typed_tree.proofs.TypingRules.LoopLaws.{all_step, all_end}
use Rattle.typed_tree.proofs.typing_rules.values.axioms.Goals as goal

pub returns-in_err-condition : goal.returns-in_err-condition
returns-in_err-condition c = search (rules, item_fault)

pub loop-axiom-preserved : goal.loop-axiom-preserved
loop-axiom-preserved c =
    all_step (is_condition (seen c.args.scope.now)) view.expression c.args.axioms.now c.loop-axiom.axiom-index c.axiom-item.result c.axiom-item.result _ c.loop-axiom-test.true c.axiom-item.is c.in_ok-condition.ensures c.loop-axiom.invariant

pub returns : goal.returns
returns c = sym (all_end (is_condition (seen c.args.scope.now)) view.expression c.args.axioms.now c.loop-axiom.axiom-index _ c.loop-axiom-test.false c.loop-axiom.invariant)
