use Rattle.std.proofs.Common.{get_or, refl}
use Rattle.boogie_tree.specs.declared.tree.Column.TheVariants.{Global}
use Rattle.typed_tree.specs.TypingRules.Ties.ColumnKey.{column_key}
use Rattle.typed_tree.proofs.TypingRules.LoopLaws.{numbers_step, numbers_end}
use Rattle.typed_tree.proofs.typing_rules.targets.column_keys.Goals as goal

pub loop-column-preserved : goal.loop-column-preserved
loop-column-preserved c =
    numbers_step column_key c.args.columns.now c.loop-column.column-index (get_or c.args.columns.now c.loop-column.column-index (Global 0)) (Global 0) c.column_key.result
    c.loop-column.keys.items c.push.new.self.items _ c.loop-column-test.true refl c.column_key.ensures c.in_ok-push.ensures.items c.loop-column.invariant

pub returns : goal.returns
returns c = numbers_end column_key c.args.columns.now c.loop-column.column-index c.loop-column.keys.items _ c.loop-column-test.false c.loop-column.invariant
