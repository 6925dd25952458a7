use Rattle.std.proofs.Common.{ap}
use Rattle.typed_tree.specs.TypedView as view
use Rattle.typed_tree.proofs.TypingRules.ProcedureParts.{required_judged, ensured_judged}
use Rattle.typed_tree.proofs.typing_rules.procedures.specification.Goals as goal

pub returns-in-Requires : goal.returns-in-Requires
returns-in-Requires c =
    required_judged _ c.args.globals.now (view.procedure c.args.checked.now) (view.specification c.args.said.now) (view.invariant c.in-Requires.required) _
    (ap view.specification c.in-Requires.is) c.requires_scope.ensures c.condition.ensures

pub returns-in-Ensures : goal.returns-in-Ensures
returns-in-Ensures c =
    ensured_judged _ c.args.globals.now (view.procedure c.args.checked.now) (view.specification c.args.said.now) (view.invariant c.in-Ensures.ensured) _
    (ap view.specification c.in-Ensures.is) c.ensures_scope.ensures c.condition-in-Ensures.ensures
