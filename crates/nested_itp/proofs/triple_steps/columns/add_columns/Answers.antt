use Rattle.nested_itp.proofs.TripleSteps.ColumnLaws.{columns_added}
use Rattle.nested_itp.proofs.triple_steps.columns.add_columns.Goals as goal

pub loop-i-preserved : goal.loop-i-preserved
loop-i-preserved c =
    columns_added c.args.made.now.items c.loop-i.made.items c.push.new.self.items c.args.first c.loop-i.i c.in_ok-column_at.field-0 c.loop-i.invariant c.in_ok-push.ensures.items
    c.in_ok-column_at.ensures.value
