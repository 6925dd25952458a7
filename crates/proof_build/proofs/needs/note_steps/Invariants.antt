use Rattle.std.proofs.Common.{cond, take}
use Rattle.proof_build.specs.ProofUnwind.Spots.{nodes_of}
use Rattle.proof_build.specs.Ties.Needs.{inside_numbers, call_numbers, NotesSteps}
use Rattle.proof_build.proofs.needs.note_steps.Given as goal

abbrev pub invariant-loop-step : goal.invariant-loop-step
invariant-loop-step l =
    NotesSteps (cond l.is_call l.union.calls l.union.insides) (cond l.is_call call_numbers inside_numbers) (nodes_of l.nodes) (take l.step-index l.steps) l.initial.noted l.noted
