use Rattle.std.proofs.Common.{take}
use Rattle.proof_build.specs.Ties.Needs.{NotesBacks}
use Rattle.proof_build.proofs.needs.note_back.Given as goal

abbrev pub invariant-loop-target : goal.invariant-loop-target
invariant-loop-target l = NotesBacks l.union.backs l.exits l.before l.letter (take l.target-index l.after) l.initial.noted l.noted
