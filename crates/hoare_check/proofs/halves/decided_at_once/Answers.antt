use Rattle.rayon.proofs.ListFacts.{IfOk-then}
use Rattle.hoare_check.proofs.JointLaws.{found_of_both}
use Rattle.hoare_check.proofs.halves.decided_at_once.Goals as goal

pub returns : goal.returns
returns c = IfOk-then c.decided.result _ _ c.decided.ensures (λ found d n p q h k.
    found_of_both n p q c.args.first.now c.args.second.now h k c.in_ok-system.system found (c.in_ok-system.ensures.system p q h.is_system k.is_system) d)
