-- Columns below a number.
use Rattle.std.proofs.Common.{◌≡◌, ◌↔◌, ℕ, ◌<◌, List, [], ◌∷◌, subst}
use Rattle.std.specs.List.{AllByRecursion}
use Rattle.std.specs.Prelude.{ℤ}
use Rattle.math_facts.specs.Terms.{IsBelow}

pub below_all : (n : ℕ) (ts : List (ℕ × ℤ)) → AllByRecursion (λ t. t.0 < n) ts ↔ IsBelow n ts
below_all n [] = (λ a. a, λ a. a)
below_all n (t ∷ ts) = (λ a. (a.0, (below_all n ts).0 a.1), λ a. (a.0, (below_all n ts).1 a.1))

-- a list that is read through another
pub all_along : {X : Type 0} (P : X → Type 0) (Q : Type 0) (xs ys : List X) → xs ≡ ys → (Q ↔ AllByRecursion P xs) → Q ↔ AllByRecursion P ys
all_along {X} P Q xs ys e h = subst (λ (zs : List X). Q ↔ AllByRecursion P zs) e h
