use Rattle.std.proofs.Common.{ap}
use Rattle.proof_names.specs.Outlines.{Sketch}
use Rattle.proof_names.proofs.OnceLaws.{names_one}
use Rattle.proof_names.proofs.laws.nodes_are_named_once.Goals as goal

pub returns : goal.returns
returns c = λ g a s t n m. ap (λ (x : Sketch). x.nodes) (names_one g a s t n m)
