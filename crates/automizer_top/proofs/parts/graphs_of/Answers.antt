use Rattle.text_reports.specs.Answers.{answer_of}
use Rattle.automizer_top.proofs.PartLoops.{one_graph_more, no_graph, all_graphs}
use Rattle.automizer_top.proofs.parts.graphs_of.Goals as goal

pub loop-part-preserved : goal.loop-part-preserved
loop-part-preserved c =
    one_graph_more c.args.parts.now c.loop-part.part-index c.loop-part.graphs.items c.push.new.self.items c.part-item.result c.in-Ok.icfg c.loop-part-test.true c.part-item.is c.loop-part.invariant
    (rw c.in-Ok.is at c.in_ok-icfg.ensures.graph) c.in_ok-push-in-Ok.ensures.items

pub returns-in-Err : goal.returns-in-Err
returns-in-Err c =
    no_graph c.args.parts.now c.loop-part.part-index c.loop-part.graphs.items c.part-item.result (answer_of c.in-Err.answer) c.loop-part-test.true c.part-item.is c.loop-part.invariant
    (rw c.in-Err.is at c.in_ok-icfg.ensures.graph)

pub returns : goal.returns
returns c = all_graphs c.args.parts.now c.loop-part.part-index c.loop-part.graphs.items c.loop-part-test.false c.loop-part.invariant
