use Rattle.modular_cut.proofs.TypedParts.{parts_are_typed}
use Rattle.modular_cut.proofs.Whole.{parts_suffice}
use Rattle.modular_cut.proofs.laws.parts_of_typed_programs.Goals as goal

pub returns-clause-typed : goal.returns-clause-typed
returns-clause-typed a t n q b typed plain is has = parts_are_typed t n q b typed plain is has

pub returns-clause-suffice : goal.returns-clause-suffice
returns-clause-suffice a t valid every = parts_suffice t valid every
