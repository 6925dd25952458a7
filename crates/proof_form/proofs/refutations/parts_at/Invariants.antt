use Rattle.std.proofs.Common.{◌-◌, length}
use Rattle.proof_form.specs.Reading.{item_follows, many}
use Rattle.proof_form.specs.RefutationReading.{part_at}
use Rattle.proof_form.proofs.ManyLaws.{Reached}
use Rattle.proof_form.proofs.refutations.parts_at.Given as goal

abbrev pub invariant-loop-turn : goal.invariant-loop-turn
invariant-loop-turn l =
    Reached l.parts.items (many part_at item_follows (l._turn-end - l._turn) l.rest) (many part_at item_follows (length l.fn.bytes) l.fn.bytes)
