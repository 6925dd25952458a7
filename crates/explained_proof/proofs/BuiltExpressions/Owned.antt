-- Loops that take a list apart.
use Rattle.std.proofs.Common.{◌≡◌, List, [], ◌∷◌, ◌++◌, sym, ap, ◌∙◌, append_assoc}

-- one element is taken from what is left
pub next_all : {X : Type 0} (ys : List X) (x : X) (rest was all : List X) → was ≡ x ∷ rest → ys ++ was ≡ all → (ys ++ x ∷ []) ++ rest ≡ all
next_all ys x rest was all e h = append_assoc ys (x ∷ []) rest ∙ ap (λ zs. ys ++ zs) (sym e) ∙ h
