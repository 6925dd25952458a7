-- Loops that count over a list.
use Rattle.std.proofs.Common.{◌≡◌, ℕ, ◌+◌, ◌<◌, ◌≤◌, List, [], ◌∷◌, length, drop, get_or, ap, sym, ◌∙◌, arith}
use Rattle.std.proofs.lemmas.List.{at_drop_more, at_drop_all}

-- one member more is counted
pub counted_more : {X : Type 0} (f : List X → ℕ) (xs : List X) (i : ℕ) (x : X) (count m n total : ℕ) → i < length xs → x ≡ get_or xs i x → ((rest : List X) → f (x ∷ rest) ≡ n + f rest) →
    m ≡ n → count + f (drop i xs) ≡ total → (count + m) + f (drop (i + 1) xs) ≡ total
counted_more f xs i x count m n total l is more e so_far =
    let whole : f (drop i xs) ≡ n + f (drop (i + 1) xs) = at_drop_more f xs i x l ∙ ap (λ z. f (z ∷ drop (i + 1) xs)) (sym is) ∙ more (drop (i + 1) xs) in
    omega arith

-- none is left
pub counted_all : {X : Type 0} (f : List X → ℕ) (xs : List X) (i : ℕ) (count total : ℕ) → length xs ≤ i → f [] ≡ 0 → count + f (drop i xs) ≡ total → count ≡ total
counted_all f xs i count total l none so_far =
    let whole : f (drop i xs) ≡ f [] = at_drop_all f xs i l in
    omega arith
