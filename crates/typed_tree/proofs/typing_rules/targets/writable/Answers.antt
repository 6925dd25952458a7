use Rattle.std.proofs.Common.{rules, get_or, refl, sym}
use Rattle.typed_tree.proofs.TypingRules.Faults.{element_fault}
use Rattle.boogie_tree.specs.declared.tree.Column.TheVariants.{Global}
use Rattle.typed_tree.specs.TypingRules.Ties.Judged.{context}
use Rattle.typed_tree.specs.TypingRules.Rules.{is_writable}
use Rattle.typed_tree.proofs.TypingRules.LoopLaws.{plain_step, plain_end}
use Rattle.typed_tree.proofs.typing_rules.targets.writable.Goals as goal

pub returns-in_err-target : goal.returns-in_err-target
returns-in_err-target c = search (rules, element_fault)

pub loop-column-preserved : goal.loop-column-preserved
loop-column-preserved c =
    plain_step (is_writable (context c.args.frame.now)) c.args.columns.now c.loop-column.column-index (get_or c.args.columns.now c.loop-column.column-index (Global 0)) (Global 0) _
    c.loop-column-test.true refl c.in_ok-target.ensures c.loop-column.invariant

pub returns : goal.returns
returns c = sym (plain_end (is_writable (context c.args.frame.now)) c.args.columns.now c.loop-column.column-index _ c.loop-column-test.false c.loop-column.invariant)
