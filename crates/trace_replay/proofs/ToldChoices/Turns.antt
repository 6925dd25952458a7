-- One turn of a loop that makes a list from another one.
use Rattle.std.proofs.Common.{◌≡◌, ◌∙◌, ℕ, ◌+◌, ◌<◌, List, ◌∷◌, ◌++◌, length, get_or, drop, sym, append_assoc}
use Rattle.std.proofs.lemmas.List.{drop_more}

-- what is made of the first member that is left, and then of the others, is what is made of all that are left
pub turn : {X Y : Type 0} (F : List X → List Y) (xs : List X) (i : ℕ) (d : X) (done new whole front : List Y) → i < length xs →
    F (get_or xs i d ∷ drop (i + 1) xs) ≡ front ++ F (drop (i + 1) xs) → new ≡ done ++ front → done ++ F (drop i xs) ≡ whole → new ++ F (drop (i + 1) xs) ≡ whole
turn F xs i d done new whole front l step e w =
    (λ j. e j ++ F (drop (i + 1) xs)) ∙ append_assoc done front (F (drop (i + 1) xs)) ∙ (λ j. done ++ sym step j) ∙ (λ j. done ++ F (sym (drop_more xs i d l) j)) ∙ w
