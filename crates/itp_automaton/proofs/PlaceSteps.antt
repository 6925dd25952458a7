-- What holds of all members of a list, at one place.
use Rattle.std.proofs.Common.{ℕ, zero, suc, ◌<◌, List, [], ◌∷◌, length, get_or, arith}
use Rattle.std.specs.List.{AllByRecursion}

pub at_place : {X : Type 0} (P : X → Type 0) (xs : List X) (i : ℕ) (d : X) → i < length xs → AllByRecursion P xs → P (get_or xs i d)
at_place P [] i d l h = absurd (omega (arith, l))
at_place P (x ∷ xs) zero d l h = h.0
at_place P (x ∷ xs) (suc i) d l h = at_place P xs i d (omega (arith, l)) h.1
