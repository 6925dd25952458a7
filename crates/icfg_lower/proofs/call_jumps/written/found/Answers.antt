use Rattle.lowered_graph.specs.LoweredSteps.Edges.{found_from}
use Rattle.icfg_lower.proofs.ReadSteps.{found_here, found_behind, found_nowhere}
use Rattle.icfg_lower.proofs.call_jumps.written.found.Goals as goal

pub loop-i-preserved : goal.loop-i-preserved
loop-i-preserved c = found_behind c.loop-i.i c.args.list.now c.args.number (found_from 0 c.args.list.now c.args.number) c.loop-i-test.true c.if-list-i.false c.loop-i.invariant

pub returns-then-list-i : goal.returns-then-list-i
returns-then-list-i c = found_here c.loop-i.i c.args.list.now c.args.number (found_from 0 c.args.list.now c.args.number) c.loop-i-test.true c.if-list-i.true c.loop-i.invariant

pub returns : goal.returns
returns c = found_nowhere c.loop-i.i c.args.list.now c.args.number (found_from 0 c.args.list.now c.args.number) c.loop-i-test.false c.loop-i.invariant
