use Rattle.nwa_base.proofs.RunLemmas.{run_accepts}
use Rattle.nwa_base.proofs.tracing.run_of.Goals as goal

pub returns-in_default : goal.returns-in_default
returns-in_default c =
    let h = rw (c.in_default.is, c.letters.ensures.value) at c.in_ok-past.ensures in
    λ r. h (run_accepts _ _ r.0 r.1)

pub returns-in_default-final_pair : goal.returns-in_default-final_pair
returns-in_default-final_pair c =
    let h = rw (c.in-Some.is, c.letters.ensures.value) at c.in_ok-past.ensures in
    λ r. c.in_default-final_pair.ensures (rw c.as_slice.ensures.value (h.ends (run_accepts _ _ r.0 r.1)))
