use Rattle.std.proofs.Common.{cond, take}
use Rattle.proof_build.specs.Ties.Needs.{inside_numbers, call_numbers, NotesAll}
use Rattle.proof_build.proofs.needs.note_after.Given as goal

abbrev pub invariant-loop-target : goal.invariant-loop-target
invariant-loop-target l = NotesAll (cond l.is_call l.union.calls l.union.insides) (cond l.is_call call_numbers inside_numbers) l.before l.letter (take l.target-index l.after) l.initial.noted l.noted
