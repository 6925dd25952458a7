use Rattle.std.proofs.Common.{rules, List, ap, sym, ◌∙◌, map, arith}
use Rattle.boogie_tree.specs.declared.tree.VarInfo.{VarInfo}
use Rattle.typed_tree.specs.Scope.{seen}
use Rattle.typed_tree.specs.TypedView.{expression}
use Rattle.typed_tree.specs.TypingRules.Rules.{arguments_agree}
use Rattle.typed_tree.proofs.TypingRules.Agreed.{argument_count_fault, argument_fault, arguments_step, arguments_end}
use Rattle.typed_tree.proofs.typing_rules.calls.arguments.Goals as goal

pub returns-then-params-values : goal.returns-then-params-values
returns-then-params-values c = search (rules, argument_count_fault)

pub returns-in_err-value : goal.returns-in_err-value
returns-in_err-value c = search (rules, argument_fault)

pub loop-index-preserved : goal.loop-index-preserved
loop-index-preserved c = search (rules, arguments_step)

pub returns : goal.returns
returns c =
    ap (λ (vs : List VarInfo). arguments_agree (seen c.args.frame.now.scope) vs (map expression c.args.values.now)) (sym c.params-params.ensures)
    ∙ sym c.loop-index.invariant
    ∙ arguments_end (seen c.args.frame.now.scope) c.params-params.result.now c.args.values.now c.loop-index.index (omega arith) (omega arith)
