use Rattle.nested_itp.proofs.NestedRefutations.StepLaws.{steps_refute}
use Rattle.nested_itp.proofs.nested_refutations.laws.refutations_refute.Goals as goal

pub returns : goal.returns
returns c = steps_refute
