use Rattle.itp_automaton.proofs.SourceLaws.{taken_next}
use Rattle.itp_automaton.proofs.building.copied_proofs.Goals as goal

pub loop-known-preserved : goal.loop-known-preserved
loop-known-preserved c =
    taken_next c.args.proofs.now c.loop-known.known-index c.known-item.result c.in_ok-copied_proof.field-0 c.loop-known.copies.items c.push.new.self.items c.loop-known-test.true
    c.known-item.is c.in_ok-copied_proof.ensures c.loop-known.invariant c.in_ok-push.ensures.items
