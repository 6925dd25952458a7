-- What the check of a refutation answers.
use Rattle.std.proofs.Common.{◌↔◌, Bool}
use Rattle.std.specs.Prelude.{Result, Ok, Err, IfOk, IsTrue}

-- a test of one fact is a test of an equivalent one
pub tests_same : {E : Type 0} (r : Result Bool E) (P Q : Type 0) → (P → Q) → (Q → P) → IfOk r (λ yes. IsTrue yes ↔ P) → IfOk r (λ yes. IsTrue yes ↔ Q)
tests_same (Ok b) P Q f g h = (λ t. f (h.0 t), λ q. h.1 (g q))
tests_same (Err e) P Q f g h = tt
