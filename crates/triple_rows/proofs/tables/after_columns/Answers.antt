use Rattle.triple_rows.proofs.TableLaws.{after_next, after_ends}
use Rattle.triple_rows.proofs.tables.after_columns.Goals as goal

pub loop-i-preserved : goal.loop-i-preserved
loop-i-preserved c =
    after_next c.args.base c.args.first c.args.count c.loop-i.i c.args.written.now c.loop-i.columns.items c.requires.differ c.loop-i-test.true c.requires.within c.loop-i.invariant

pub returns : goal.returns
returns c =
    after_ends c.args.base c.args.first c.args.count c.loop-i.i c.args.written.now c.loop-i.columns.items c.requires.differ c.requires.before c.loop-i-test.false c.loop-i.invariant
