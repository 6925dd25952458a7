use Rattle.int_decide.specs.Answers.{RefutesWithin}
use Rattle.hoare_check.proofs.proving.decided_at.Goals as goal

pub returns-in-Some : goal.returns-in-Some
returns-in-Some c =
    let found : RefutesWithin 0 c.args.system.now c.in-Some.refutation = rw c.in-Some.is at c.in_ok-refutation.ensures in
    (record { fits = c.requires.fits; system = c.args.system.now; is_system = c.requires.system; refutes = found.refutes }, found.tree)
