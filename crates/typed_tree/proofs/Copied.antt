-- Lists that are copied member by member.
use Rattle.std.proofs.Common.{◌≡◌, ℕ, ◌+◌, ◌<◌, ◌≤◌, List, [], ◌∷◌, ◌++◌, map, length, take, drop, get_or, ap, sym, ◌∙◌, append_assoc, append-nil}
use Rattle.std.proofs.lemmas.List.{at_drop_more, at_drop_all, map-append, take_more}

-- one member more
pub copied_more : {X Y : Type 0} (f : X → Y) (all : List X) (i : ℕ) (x y : X) (old new : List X) → i < length all → x ≡ get_or all i x → f y ≡ f x → new ≡ old ++ y ∷ [] →
    map f old ++ map f (drop i all) ≡ map f all → map f new ++ map f (drop (i + 1) all) ≡ map f all
copied_more f all i x y old new l is same n so_far =
    ap (λ (ys : List _). map f ys ++ map f (drop (i + 1) all)) n
    ∙ ap (λ (ys : List _). ys ++ map f (drop (i + 1) all)) (map-append f old (y ∷ []))
    ∙ append_assoc (map f old) (f y ∷ []) (map f (drop (i + 1) all))
    ∙ ap (λ z. map f old ++ z ∷ map f (drop (i + 1) all)) same
    ∙ ap (λ z. map f old ++ f z ∷ map f (drop (i + 1) all)) is
    ∙ sym (at_drop_more (λ (zs : List _). map f old ++ map f zs) all i x l)
    ∙ so_far

-- nothing is left
pub copied_all : {X Y : Type 0} (f : X → Y) (all : List X) (i : ℕ) (old : List X) → length all ≤ i → map f old ++ map f (drop i all) ≡ map f all → map f old ≡ map f all
copied_all f all i old l so_far = sym (append-nil (map f old)) ∙ sym (at_drop_all (λ (zs : List _). map f old ++ map f zs) all i l) ∙ so_far

-- one more of the first members themselves
pub taken_more : {X : Type 0} (all : List X) (i : ℕ) (x y : X) (old new : List X) → i < length all → x ≡ get_or all i x → y ≡ x → new ≡ old ++ y ∷ [] → old ≡ take i all →
    new ≡ take (i + 1) all
taken_more all i x y old new l is same n so_far =
    n ∙ ap (λ (ys : List _). ys ++ y ∷ []) so_far ∙ ap (λ z. take i all ++ z ∷ []) (same ∙ is) ∙ sym (take_more all i x l)
