use Rattle.std.proofs.Common.{length, arith}
use Rattle.proof_build.proofs.ProofUnwind.OpeningLaws.{all_opened}
use Rattle.proof_build.proofs.proof_unwind.laws.opened_closed.Goals as goal

pub returns : goal.returns
returns c = λ m nodes s h. all_opened m nodes s (length nodes) (omega arith) h
