use Rattle.std.proofs.Common.{subst}
use Rattle.rayon.proofs.ListFacts.{IfOk-then}
use Rattle.triple_rows.specs.Cuts.{columns_of}
use Rattle.triple_rows.specs.Halves.{said_before, said_after}
use Rattle.hoare_check.specs.Halves.{IsSourceHalf, IsTargetHalf}
use Rattle.hoare_check.proofs.JointLaws.{first_missing, second_missing, found_of_triple}
use Rattle.hoare_check.proofs.halves.refuted_at_once.Goals as goal

pub returns-in-None : goal.returns-in-None
returns-in-None c = λ al t agrees s k. first_missing al t agrees (subst (IsSourceHalf al t) c.in-None.is s)

pub returns-in-None-target : goal.returns-in-None-target
returns-in-None-target c = λ al t agrees s k. second_missing al t agrees (subst (IsTargetHalf al t) c.in-None-target.is k)

pub returns-in-Some-target : goal.returns-in-Some-target
returns-in-Some-target c = IfOk-then c.refuted_of_halves.result _ _ c.refuted_of_halves.ensures (λ found h al t agrees s k.
    found_of_triple al t agrees found (h (columns_of al t) (said_before al t) (said_after al t) (subst (IsSourceHalf al t) c.in-Some.is s) (subst (IsTargetHalf al t) c.in-Some-target.is k)))
