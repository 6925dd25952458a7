use Rattle.std.proofs.Common.{◌≡◌, Err}
use Rattle.proof_check.specs.declared.rejects.Reject.TheVariants.{At}
use Rattle.proof_check.proofs.checking.check.Goals as goal

pub returns-in_err-named_proof-clause-accepts : goal.returns-in_err-named_proof-clause-accepts
returns-in_err-named_proof-clause-accepts c = λ p item cause e.
    let h = rw e at c.from_residual.ensures.1 in
    let w : c.named_proof.result ≡ Err c.in_err-named_proof.field-0.0 = c.in_err-named_proof.was in
    let q : c.named_proof.result ≡ Err (At item cause) = cc in
    c.named_proof.ensures.accepts p item cause q

pub returns-in_err-named_proof-clause-first : goal.returns-in_err-named_proof-clause-first
returns-in_err-named_proof-clause-first c = λ item cause e.
    let h = rw e at c.from_residual.ensures.1 in
    let w : c.named_proof.result ≡ Err c.in_err-named_proof.field-0.0 = c.in_err-named_proof.was in
    let q : c.named_proof.result ≡ Err (At item cause) = cc in
    c.named_proof.ensures.first item cause q
