use Rattle.letter_acts.specs.Invariant.{alphabet_of}
use Rattle.farkas_check.specs.Refutes.{Refutes}
use Rattle.triple_rows.specs.Triples.{IsRefuted, system_of}
use Rattle.triple_rows.proofs.PlainLaws.{refuted_alike_as_plain}
use Rattle.proof_check.proofs.RefutingLaws.{tests_same}
use Rattle.proof_check.proofs.refuting.is_refuted.Goals as goal

pub returns-in-Ok : goal.returns-in-Ok
returns-in-Ok c =
    tests_same c.check.result (Refutes c.args.proof.now c.in-Ok.system) (IsRefuted (alphabet_of c.args.icfg.now) c.args.triple.now c.args.proof.now)
    (λ h. record { fits = c.in-Ok.ensures.fits; system = c.in-Ok.system; is_system = c.in-Ok.ensures.value; refutes = h })
    (λ r. refuted_alike_as_plain (system_of (alphabet_of c.args.icfg.now) c.args.triple.now) c.args.proof.now r.system c.in-Ok.system r.is_system c.in-Ok.ensures.value r.refutes)
    c.check.ensures.exact
