use Rattle.nested_itp.proofs.NestedRefutations.StepLaws.{steps_wait}
use Rattle.nested_itp.proofs.nested_refutations.laws.stops_have_groups.Goals as goal

pub returns : goal.returns
returns c = steps_wait
