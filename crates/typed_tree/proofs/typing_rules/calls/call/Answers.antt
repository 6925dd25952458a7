use Rattle.std.proofs.Common.{rules}
use Rattle.typed_tree.specs.TypedView as view
use Rattle.typed_tree.proofs.TypingRules.Faults.{absent_fault, call_target_fault, call_judged}
use Rattle.typed_tree.proofs.typing_rules.calls.call.Goals as goal

pub returns-in_default : goal.returns-in_default
returns-in_default c = search (rules, absent_fault)

pub returns-in_err-targets : goal.returns-in_err-targets
returns-in_err-targets c = search (rules, call_target_fault)

pub returns : goal.returns
returns c =
    call_judged _ _ _ _ _ _ (view.procedure c.in-Some.called.now) c.in_ok-targets.ensures c.in-Some.ensures c.agreed.ensures
