use Rattle.std.proofs.Common.{◌-◌, ◌^◌}
use Rattle.proof_build.specs.ProofUnwind.Exploring.{Explores, AreOpened, AreExits}
use Rattle.proof_build.specs.ProofUnwind.Ties.Searches.{stage_of, exits_of}
use Rattle.proof_build.proofs.proof_unwind.unwinding.open_all.Given as goal

abbrev pub invariant-loop-next : goal.invariant-loop-next
invariant-loop-next l = record {
  exploring : Explores l.graph l.union (stage_of l.search);
  opened : AreOpened l.graph (stage_of l.search).nodes l.search.steps l.next;
  exits : AreExits l.graph (stage_of l.search).nodes l.next (exits_of l.exits);
}

abbrev pub decreases-loop-next : goal.decreases-loop-next
decreases-loop-next l = 2 ^ 32 - l.next
