-- What is taken from an annotation, as contracts see it.
use Rattle.proof_reuse.specs.declared.taking.Earlier.{Earlier}
use Rattle.proof_reuse.specs.Ties.Choices.{Taken}

abbrev pub taken : Earlier → Taken
taken e = record { preds = e.preds.items; insides = e.insides.keys; calls = e.calls.keys; backs = e.backs.keys }
