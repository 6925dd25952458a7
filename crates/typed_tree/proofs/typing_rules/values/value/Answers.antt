use Rattle.std.proofs.Common.{rules, refl, sym, ◌∙◌}
use Rattle.typed_tree.specs.Scope.{seen}
use Rattle.typed_tree.specs.TypedView.{expression}
use Rattle.typed_tree.proofs.TypingRules.Faults.{value_fault, other_type, right_of}
use Rattle.typed_tree.proofs.typing_rules.values.value.Goals as goal

pub returns-in_err-found : goal.returns-in_err-found
returns-in_err-found c = search (rules, value_fault)

pub returns-then-same : goal.returns-then-same
returns-then-same c =
    right_of (seen c.args.scope.now) c.args.wanted c.in_ok-found.found (expression c.args.expression.now) c.in_ok-found.ensures.found (sym c.same.ensures ∙ c.if-same.true) (c.in_ok-found.ensures.kept refl)

pub returns-else-same : goal.returns-else-same
returns-else-same c =
    other_type (seen c.args.scope.now) c.args.wanted c.in_ok-found.found c.args.expression.now c.in_ok-found.ensures.found (sym c.same.ensures ∙ c.if-same.false)
