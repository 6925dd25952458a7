use Rattle.explained_proof.specs.Explained as spec
use Rattle.explained_proof.specs.Ties.Views as view
use Rattle.explained_proof.proofs.ProcedureLaws.{starts_on}
use Rattle.explained_proof.proofs.procedures.Telling.starts.Goals as goal

pub loop-node-preserved : goal.loop-node-preserved
loop-node-preserved c =
    starts_on (spec.has_no_predicate (view.told c.args.self.now).known) c.entered-node-items.result.now c.loop-node.node-index c.loop-node.nodes.items c.push_start.new.nodes.items c.loop-node-test.true
    c.loop-node.invariant c.in_ok-push_start.ensures
