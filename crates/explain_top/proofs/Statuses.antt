-- Whether a status is 0.
use Rattle.std.proofs.Common.{◌≡◌, ℕ, zero, suc, refl, inl, inr, ◌⊎◌, arith}

pub zero_or_not : (n : ℕ) → (n ≡ 0) ⊎ (n ≡ 0 → ⊥)
zero_or_not zero = inl refl
zero_or_not (suc n) = inr (λ e. omega (arith, e))
