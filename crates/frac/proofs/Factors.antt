-- How the factors of a product of whole numbers may change places.
use Rattle.std.proofs.Common.{◌≡◌, ℤ, ◌*ℤ◌, ap, sym, ◌∙◌}
use Rattle.math_facts.proofs.Whole.{product_comm, product_assoc, product_swap}

-- the last two of three factors may change places
pub product_right_swap : (a b c : ℤ) → (a *ℤ b) *ℤ c ≡ (a *ℤ c) *ℤ b
product_right_swap a b c = product_assoc a b c ∙ ap (λ (z : ℤ). a *ℤ z) (product_comm b c) ∙ sym (product_assoc a c b)

-- a factor goes to the first of two others
pub product_inner : (a b c : ℤ) → a *ℤ (b *ℤ c) ≡ (b *ℤ a) *ℤ c
product_inner a b c = product_swap a b c ∙ sym (product_assoc b a c)

-- the factors of two products may be paired the other way
pub product_pairs : (a b c d : ℤ) → (a *ℤ b) *ℤ (c *ℤ d) ≡ (a *ℤ c) *ℤ (b *ℤ d)
product_pairs a b c d = product_assoc a b (c *ℤ d) ∙ ap (λ (z : ℤ). a *ℤ z) (product_swap b c d) ∙ sym (product_assoc a c (b *ℤ d))
