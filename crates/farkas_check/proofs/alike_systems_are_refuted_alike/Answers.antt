use Rattle.farkas_check.proofs.AlikeLaws.{refuted_alike}
use Rattle.farkas_check.proofs.alike_systems_are_refuted_alike.Goals as goal

pub returns : goal.returns
returns c = refuted_alike
