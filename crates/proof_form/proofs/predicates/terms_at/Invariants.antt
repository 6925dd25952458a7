use Rattle.std.proofs.Common.{◌-◌, length}
use Rattle.proof_form.specs.Reading.{item_follows, many}
use Rattle.proof_form.specs.PredicateReading.{term_at}
use Rattle.proof_form.proofs.ManyLaws.{Reached}
use Rattle.proof_form.proofs.predicates.terms_at.Given as goal

abbrev pub invariant-loop-turn : goal.invariant-loop-turn
invariant-loop-turn l =
    Reached l.terms.items (many term_at item_follows (l._turn-end - l._turn) l.rest) (many term_at item_follows (length l.fn.bytes) l.fn.bytes)
