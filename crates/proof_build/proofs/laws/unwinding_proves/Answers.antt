use Rattle.proof_build.proofs.ScopeLaws.{may_be_spelled}
use Rattle.proof_build.proofs.ProvingLaws.{proves}
use Rattle.proof_build.proofs.laws.unwinding_proves.Goals as goal

pub returns-clause-spelled : goal.returns-clause-spelled
returns-clause-spelled c = may_be_spelled

pub returns-clause-proves : goal.returns-clause-proves
returns-clause-proves c = λ g bs u i m h v a s n o. proves g bs u i m h s o v a n
