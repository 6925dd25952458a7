use Rattle.std.proofs.Common.{rules, List, ap, sym, ◌∙◌, arith}
use Rattle.boogie_tree.specs.declared.tree.VarInfo.{VarInfo}
use Rattle.typed_tree.specs.Scope.{seen}
use Rattle.typed_tree.specs.TypingRules.Rules.{results_agree}
use Rattle.typed_tree.proofs.TypingRules.Agreed.{result_count_fault, result_fault, results_step, results_end}
use Rattle.typed_tree.proofs.typing_rules.calls.returned.Goals as goal

pub returns-then-results-columns : goal.returns-then-results-columns
returns-then-results-columns c = search (rules, result_count_fault)

pub returns-then-not-has : goal.returns-then-not-has
returns-then-not-has c = search (rules, result_fault)

pub loop-index-preserved : goal.loop-index-preserved
loop-index-preserved c = search (rules, results_step)

pub returns : goal.returns
returns c =
    ap (λ (vs : List VarInfo). results_agree (seen c.args.frame.now.scope) vs c.args.columns.now) (sym c.results-results.ensures)
    ∙ sym c.loop-index.invariant
    ∙ results_end (seen c.args.frame.now.scope) c.results-results.result.now c.args.columns.now c.loop-index.index (omega arith) (omega arith)
