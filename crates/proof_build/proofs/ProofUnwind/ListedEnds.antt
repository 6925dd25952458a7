-- Lists that are made from the lists of one member after the other.
use Rattle.std.proofs.Common.{◌≡◌, ℕ, ◌+◌, ◌<◌, ◌≤◌, List, [], ◌++◌, length, take, get_or, sym, ap, ◌∙◌}
use Rattle.std.specs.List.{flat_map}
use Rattle.std.proofs.lemmas.List.{take_more, take_all, flat_map_more}

-- one member more
pub ends_next : {X Y : Type 0} (f : X → List Y) (now new : List Y) (xs : List X) (i : ℕ) (d : X) → i < length xs → now ≡ flat_map f (take i xs) →
    new ≡ now ++ f (get_or xs i d) → new ≡ flat_map f (take (i + 1) xs)
ends_next {X = X} {Y = Y} f now new xs i d l h e =
    e ∙ ap (λ (ys : List Y). ys ++ f (get_or xs i d)) h ∙ flat_map_more f [] (take i xs) (get_or xs i d) ∙ ap (λ (zs : List X). flat_map f zs) (sym (take_more xs i d l))

-- all members
pub ends_all : {X Y : Type 0} (f : X → List Y) (now : List Y) (xs : List X) (i : ℕ) → length xs ≤ i → now ≡ flat_map f (take i xs) → now ≡ flat_map f xs
ends_all {X = X} f now xs i l h = h ∙ ap (λ (zs : List X). flat_map f zs) (take_all i xs l)
