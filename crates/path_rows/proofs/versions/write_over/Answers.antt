use Rattle.path_rows.proofs.LoopLemmas.{written_next, written_short, written_ends}
use Rattle.path_rows.proofs.versions.write_over.Goals as goal

pub returns-then-i-news : goal.returns-then-i-news
returns-then-i-news c = written_short c.args.here.now c.loop-i.here c.args.columns.now c.args.news.now c.loop-i.i c.if-i-news.true c.loop-i.invariant

pub returns : goal.returns
returns c = written_ends c.args.here.now c.loop-i.here c.args.columns.now c.args.news.now c.loop-i.i c.loop-i-test.false c.loop-i.invariant

pub loop-i-preserved : goal.loop-i-preserved
loop-i-preserved c = written_next c.args.here.now c.loop-i.here c.args.columns.now c.args.news.now c.loop-i.i c.loop-i-test.true c.if-i-news.false c.loop-i.invariant
