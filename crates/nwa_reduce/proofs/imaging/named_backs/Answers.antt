use Rattle.std.proofs.Common.{arith}
use Rattle.nwa_reduce.specs.Ties.Naming.{named}
use Rattle.nwa_reduce.specs.Images.{IsNamedBack}
use Rattle.nwa_reduce.proofs.CollectLemmas.{collected_none, collected_skips, collected_puts, collected_all, one_back, back_there}
use Rattle.nwa_reduce.proofs.imaging.named_backs.Goals as goal
use Rattle.nwa_reduce.proofs.imaging.named_backs.Goals.{in-Some+in_ok-insert_full, in_default}

pub loop-edge-init : goal.loop-edge-init
loop-edge-init c = collected_none (IsNamedBack (named c.args.names.now.of.items)) _ c.new-set.ensures.empty

pub loop-edge-preserved : goal.loop-edge-preserved
loop-edge-preserved c =
    elim c.match-back.branch [
      | in-Some+in_ok-insert_full w ↦
          rw w.set-is
          (collected_puts (IsNamedBack (named c.args.names.now.of.items)) _ c.args.edges.now c.loop-edge.edge-index _ c.loop-edge.set.keys _ w.in-Some.named
          c.loop-edge-test.true w.in-Some.ensures (one_back (named c.args.names.now.of.items)) (back_there c.loop-edge.set.keys w.in-Some.named)
          w.in_ok-insert_full.ensures.keys c.loop-edge.invariant)
      | in_default w ↦
          rw w.set-is
          (collected_skips (IsNamedBack (named c.args.names.now.of.items)) c.args.edges.now c.loop-edge.edge-index _ c.loop-edge.set.keys
          c.loop-edge-test.true (λ y h. w.in_default.ensures y.0 y.1 y.3 h.0 h.1 h.3) c.loop-edge.invariant)
    ]

pub returns : goal.returns
returns c =
    collected_all (IsNamedBack (named c.args.names.now.of.items)) c.args.edges.now c.loop-edge.edge-index c.loop-edge.set.keys (omega arith) c.loop-edge.invariant
