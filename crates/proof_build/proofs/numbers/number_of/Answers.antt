use Rattle.proof_build.proofs.NumberLaws.{no_number}
use Rattle.proof_build.proofs.numbers.number_of.Goals as goal

pub returns-in_default-place_of-clause-number : goal.returns-in_default-place_of-clause-number
returns-in_default-place_of-clause-number c = no_number c.args.preds.now c.args.scoped.now c.in_default.ensures c.in_default-place_of.ensures
