use Rattle.std.proofs.Common.{arith}
use Rattle.proof_build.specs.ProofUnwind.Exploring.{Stage}
use Rattle.proof_build.specs.ProofUnwind.Ties.Searches.{stage_of, exits_of}
use Rattle.proof_build.proofs.ProofUnwind.OpenedLaws.{explored_first, opened_first, exits_first, opened_at_last}
use Rattle.proof_build.proofs.proof_unwind.unwinding.open_all.Goals as goal

pub loop-next-init : goal.loop-next-init
loop-next-init c =
    let s : Stage = stage_of c.args.search.now in
    record {
      exploring = explored_first c.args.graph.now c.args.union.now s c.requires.over c.requires.nodes c.requires.steps;
      opened = opened_first c.args.graph.now s c.requires.steps;
      exits = exits_first c.args.graph.now s.nodes (exits_of c.new-exits.result) c.new-exits.ensures;
    }

pub returns-clause-opened : goal.returns-clause-opened
returns-clause-opened c =
    let s : Stage = stage_of c.loop-next.search in
    opened_at_last c.args.graph.now s.nodes s.steps c.loop-next.next
    (omega (arith, c.states.ensures.value, c.loop-next.invariant.exploring.states, c.loop-next-test.false)) c.loop-next.invariant.exploring.along c.loop-next.invariant.opened
