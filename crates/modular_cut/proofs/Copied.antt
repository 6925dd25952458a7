-- Lists that are made member by member.
use Rattle.std.proofs.Common.{◌≡◌, ℕ, ◌+◌, ◌<◌, ◌≤◌, List, [], ◌∷◌, ◌++◌, map, length, take, drop, get_or, refl, ap, sym, ◌∙◌, append_assoc, append-nil}
use Rattle.std.proofs.lemmas.List.{at_drop_more, at_drop_all, map-append, take_more}

-- one member more
pub made_step : {X Y Z : Type 0} (f : X → Y) (g : Z → Y) (xs : List X) (i : ℕ) (x : X) (z : Z) (old new : List Z) (w : List Y) → i < length xs → x ≡ get_or xs i x → g z ≡ f x →
    new ≡ old ++ z ∷ [] → map g old ++ map f (drop i xs) ≡ w → map g new ++ map f (drop (i + 1) xs) ≡ w
made_step f g xs i x z old new w l is same n so_far =
    ap (λ (zs : List _). map g zs ++ map f (drop (i + 1) xs)) n
    ∙ ap (λ (ys : List _). ys ++ map f (drop (i + 1) xs)) (map-append g old (z ∷ []))
    ∙ append_assoc (map g old) (g z ∷ []) (map f (drop (i + 1) xs))
    ∙ ap (λ y. map g old ++ y ∷ map f (drop (i + 1) xs)) same
    ∙ ap (λ a. map g old ++ f a ∷ map f (drop (i + 1) xs)) is
    ∙ sym (at_drop_more (λ (zs : List _). map g old ++ map f zs) xs i x l)
    ∙ so_far

-- none is left
pub made_end : {X Y Z : Type 0} (f : X → Y) (g : Z → Y) (xs : List X) (i : ℕ) (old : List Z) (w : List Y) → length xs ≤ i → map g old ++ map f (drop i xs) ≡ w → map g old ≡ w
made_end f g xs i old w l so_far = sym (append-nil (map g old)) ∙ sym (at_drop_all (λ (zs : List _). map g old ++ map f zs) xs i l) ∙ so_far

-- one more of the first members themselves
pub taken_more : {X : Type 0} (all : List X) (i : ℕ) (x y : X) (old new : List X) → i < length all → x ≡ get_or all i x → y ≡ x → new ≡ old ++ y ∷ [] → old ≡ take i all →
    new ≡ take (i + 1) all
taken_more all i x y old new l is same n so_far =
    n ∙ ap (λ (ys : List _). ys ++ y ∷ []) so_far ∙ ap (λ z. take i all ++ z ∷ []) (same ∙ is) ∙ sym (take_more all i x l)

pub map_twice : {X Y Z : Type 0} (g : Y → Z) (f : X → Y) (xs : List X) → map g (map f xs) ≡ map (λ x. g (f x)) xs
map_twice g f [] = refl
map_twice g f (x ∷ xs) = ap (λ (zs : List _). g (f x) ∷ zs) (map_twice g f xs)
