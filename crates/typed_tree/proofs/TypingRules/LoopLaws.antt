-- Loops over the members of a list, from the first one on.
use Rattle.std.proofs.Common.{◌≡◌, ℕ, ◌+◌, ◌<◌, ◌≤◌, ◌^◌, Bool, true, false, ◌&&◌, List, [], ◌∷◌, ◌++◌, map, length, take, drop, get_or, ap, sym, ◌∙◌, append_assoc, append-nil, arith}
use Rattle.std.specs.List.{list_all}
use Rattle.std.proofs.lemmas.List.{at_drop_more, at_drop_all, map-append, take_more}
use Rattle.typed_tree.specs.TypingRules.Ties.CappedCounts.{capped}

-- ---- whether all pass

-- one member more passes
pub all_step : {X Y : Type 0} (p : Y → Bool) (v : X → Y) (xs : List X) (i : ℕ) (x d : X) (w : Bool) → i < length xs → x ≡ get_or xs i d → p (v x) ≡ true →
    list_all p (map v (drop i xs)) ≡ w → list_all p (map v (drop (i + 1) xs)) ≡ w
all_step p v xs i x d w l is passes so_far =
    ap (λ (b : Bool). b && list_all p (map v (drop (i + 1) xs))) (sym passes)
    ∙ ap (λ z. p (v z) && list_all p (map v (drop (i + 1) xs))) is
    ∙ sym (at_drop_more (λ (zs : List _). list_all p (map v zs)) xs i d l)
    ∙ so_far

-- none is left
pub all_end : {X Y : Type 0} (p : Y → Bool) (v : X → Y) (xs : List X) (i : ℕ) (w : Bool) → length xs ≤ i → list_all p (map v (drop i xs)) ≡ w → true ≡ w
all_end p v xs i w l so_far = sym (at_drop_all (λ (zs : List _). list_all p (map v zs)) xs i l) ∙ so_far

-- ---- the same of the members themselves

pub plain_step : {X : Type 0} (p : X → Bool) (xs : List X) (i : ℕ) (x d : X) (w : Bool) → i < length xs → x ≡ get_or xs i d → p x ≡ true →
    list_all p (drop i xs) ≡ w → list_all p (drop (i + 1) xs) ≡ w
plain_step p xs i x d w l is passes so_far =
    ap (λ (b : Bool). b && list_all p (drop (i + 1) xs)) (sym passes)
    ∙ ap (λ z. p z && list_all p (drop (i + 1) xs)) is
    ∙ sym (at_drop_more (list_all p) xs i d l)
    ∙ so_far

pub plain_fails : {X : Type 0} (p : X → Bool) (xs : List X) (i : ℕ) (x d : X) (w : Bool) → i < length xs → x ≡ get_or xs i d → p x ≡ false →
    list_all p (drop i xs) ≡ w → false ≡ w
plain_fails p xs i x d w l is fails so_far =
    ap (λ (b : Bool). b && list_all p (drop (i + 1) xs)) (sym fails)
    ∙ ap (λ z. p z && list_all p (drop (i + 1) xs)) is
    ∙ sym (at_drop_more (list_all p) xs i d l)
    ∙ so_far

pub plain_end : {X : Type 0} (p : X → Bool) (xs : List X) (i : ℕ) (w : Bool) → length xs ≤ i → list_all p (drop i xs) ≡ w → true ≡ w
plain_end p xs i w l so_far = sym (at_drop_all (list_all p) xs i l) ∙ so_far

-- ---- lists that are made member by member

-- one member more
pub made_step : {X Y Z : Type 0} (f : X → Y) (g : Z → Y) (xs : List X) (i : ℕ) (x d : X) (z : Z) (old new : List Z) (w : List Y) → i < length xs → x ≡ get_or xs i d → g z ≡ f x →
    new ≡ old ++ z ∷ [] → map g old ++ map f (drop i xs) ≡ w → map g new ++ map f (drop (i + 1) xs) ≡ w
made_step f g xs i x d z old new w l is same n so_far =
    ap (λ (zs : List _). map g zs ++ map f (drop (i + 1) xs)) n
    ∙ ap (λ (ys : List _). ys ++ map f (drop (i + 1) xs)) (map-append g old (z ∷ []))
    ∙ append_assoc (map g old) (g z ∷ []) (map f (drop (i + 1) xs))
    ∙ ap (λ y. map g old ++ y ∷ map f (drop (i + 1) xs)) same
    ∙ ap (λ a. map g old ++ f a ∷ map f (drop (i + 1) xs)) is
    ∙ sym (at_drop_more (λ (zs : List _). map g old ++ map f zs) xs i d l)
    ∙ so_far

-- none is left
pub made_end : {X Y Z : Type 0} (f : X → Y) (g : Z → Y) (xs : List X) (i : ℕ) (old : List Z) (w : List Y) → length xs ≤ i → map g old ++ map f (drop i xs) ≡ w → map g old ≡ w
made_end f g xs i old w l so_far = sym (append-nil (map g old)) ∙ sym (at_drop_all (λ (zs : List _). map g old ++ map f zs) xs i l) ∙ so_far

-- the same where what is made is not looked at through a function
pub numbers_step : {X Y : Type 0} (f : X → Y) (xs : List X) (i : ℕ) (x d : X) (y : Y) (old new w : List Y) → i < length xs → x ≡ get_or xs i d → y ≡ f x →
    new ≡ old ++ y ∷ [] → old ++ map f (drop i xs) ≡ w → new ++ map f (drop (i + 1) xs) ≡ w
numbers_step f xs i x d y old new w l is same n so_far =
    ap (λ (ys : List _). ys ++ map f (drop (i + 1) xs)) n
    ∙ append_assoc old (y ∷ []) (map f (drop (i + 1) xs))
    ∙ ap (λ y. old ++ y ∷ map f (drop (i + 1) xs)) same
    ∙ ap (λ a. old ++ f a ∷ map f (drop (i + 1) xs)) is
    ∙ sym (at_drop_more (λ (zs : List _). old ++ map f zs) xs i d l)
    ∙ so_far

pub numbers_end : {X Y : Type 0} (f : X → Y) (xs : List X) (i : ℕ) (old w : List Y) → length xs ≤ i → old ++ map f (drop i xs) ≡ w → old ≡ w
numbers_end f xs i old w l so_far = sym (append-nil old) ∙ sym (at_drop_all (λ (zs : List _). old ++ map f zs) xs i l) ∙ so_far

-- one more of the first members
pub taken_step : {X : Type 0} (xs : List X) (i : ℕ) (x y d : X) (old new : List X) → i < length xs → x ≡ get_or xs i d → y ≡ x → new ≡ old ++ y ∷ [] → old ≡ take i xs →
    new ≡ take (i + 1) xs
taken_step xs i x y d old new l is same n so_far =
    n ∙ ap (λ (ys : List _). ys ++ y ∷ []) so_far ∙ ap (λ z. take i xs ++ z ∷ []) (same ∙ is) ∙ sym (take_more xs i d l)

-- ---- counts that stop

counted_on : (count m n rest whole next total : ℕ) → next ≡ capped (count + m) → m ≡ capped n → whole ≡ n + rest → capped (count + whole) ≡ capped total → capped (next + rest) ≡ capped total
counted_on count m n rest whole next total e c w so_far = omega arith

-- one member more is counted
pub counted_step : {X : Type 0} (f : List X → ℕ) (xs : List X) (i : ℕ) (x : X) (count m n next total : ℕ) → i < length xs → x ≡ get_or xs i x →
    ((rest : List X) → f (x ∷ rest) ≡ n + f rest) → next ≡ capped (count + m) → m ≡ capped n → capped (count + f (drop i xs)) ≡ capped total →
    capped (next + f (drop (i + 1) xs)) ≡ capped total
counted_step f xs i x count m n next total l is more e c so_far =
    counted_on count m n (f (drop (i + 1) xs)) (f (drop i xs)) next total e c
    (at_drop_more f xs i x l ∙ ap (λ z. f (z ∷ drop (i + 1) xs)) (sym is) ∙ more (drop (i + 1) xs)) so_far

-- a count that stops is no more than where it stops
pub capped_within : (n next : ℕ) → next ≡ capped n → next ≤ 2 ^ 32
capped_within n next e = omega arith

-- ---- lists that are seen through a function

-- one member more is made, looked at through g, and seen as n
pub seen_step : {X Y Z : Type 0} (g : Z → Y) (f : List X → List Y) (n : Y) (xs : List X) (i : ℕ) (x : X) (z : Z) (old new : List Z) (w : List Y) → i < length xs → x ≡ get_or xs i x →
    ((rest : List X) → f (x ∷ rest) ≡ n ∷ f rest) → g z ≡ n → new ≡ old ++ z ∷ [] → map g old ++ f (drop i xs) ≡ w → map g new ++ f (drop (i + 1) xs) ≡ w
seen_step g f n xs i x z old new w l is more same e so_far =
    ap (λ (zs : List _). map g zs ++ f (drop (i + 1) xs)) e
    ∙ ap (λ (ys : List _). ys ++ f (drop (i + 1) xs)) (map-append g old (z ∷ []))
    ∙ append_assoc (map g old) (g z ∷ []) (f (drop (i + 1) xs))
    ∙ ap (λ y. map g old ++ y ∷ f (drop (i + 1) xs)) same
    ∙ ap (λ (ys : List _). map g old ++ ys) (sym (more (drop (i + 1) xs)))
    ∙ ap (λ a. map g old ++ f (a ∷ drop (i + 1) xs)) is
    ∙ sym (at_drop_more (λ (zs : List _). map g old ++ f zs) xs i x l)
    ∙ so_far

pub seen_end : {X Y Z : Type 0} (g : Z → Y) (f : List X → List Y) (xs : List X) (i : ℕ) (old : List Z) (w : List Y) → length xs ≤ i → f [] ≡ [] → map g old ++ f (drop i xs) ≡ w → map g old ≡ w
seen_end g f xs i old w l none so_far =
    sym (append-nil (map g old)) ∙ ap (λ (ys : List _). map g old ++ ys) (sym none) ∙ sym (at_drop_all (λ (zs : List _). map g old ++ f zs) xs i l) ∙ so_far

-- the same where what is made is not looked at through a function
pub grown_step : {X Y : Type 0} (f : List X → List Y) (n : Y) (xs : List X) (i : ℕ) (x : X) (y : Y) (old new w : List Y) → i < length xs → x ≡ get_or xs i x →
    ((rest : List X) → f (x ∷ rest) ≡ n ∷ f rest) → y ≡ n → new ≡ old ++ y ∷ [] → old ++ f (drop i xs) ≡ w → new ++ f (drop (i + 1) xs) ≡ w
grown_step f n xs i x y old new w l is more same e so_far =
    ap (λ (ys : List _). ys ++ f (drop (i + 1) xs)) e
    ∙ append_assoc old (y ∷ []) (f (drop (i + 1) xs))
    ∙ ap (λ y. old ++ y ∷ f (drop (i + 1) xs)) same
    ∙ ap (λ (ys : List _). old ++ ys) (sym (more (drop (i + 1) xs)))
    ∙ ap (λ a. old ++ f (a ∷ drop (i + 1) xs)) is
    ∙ sym (at_drop_more (λ (zs : List _). old ++ f zs) xs i x l)
    ∙ so_far

pub grown_end : {X Y : Type 0} (f : List X → List Y) (xs : List X) (i : ℕ) (old w : List Y) → length xs ≤ i → f [] ≡ [] → old ++ f (drop i xs) ≡ w → old ≡ w
grown_end f xs i old w l none so_far =
    sym (append-nil old) ∙ ap (λ (ys : List _). old ++ ys) (sym none) ∙ sym (at_drop_all (λ (zs : List _). old ++ f zs) xs i l) ∙ so_far

-- ---- a function of what is left

pub left_step : {X Y : Type 0} (f : List X → Y) (xs : List X) (i : ℕ) (x : X) (w : Y) → i < length xs → x ≡ get_or xs i x → f (x ∷ drop (i + 1) xs) ≡ f (drop (i + 1) xs) →
    f (drop i xs) ≡ w → f (drop (i + 1) xs) ≡ w
left_step f xs i x w l is same so_far = sym same ∙ ap (λ z. f (z ∷ drop (i + 1) xs)) is ∙ sym (at_drop_more f xs i x l) ∙ so_far

pub left_end : {X Y : Type 0} (f : List X → Y) (xs : List X) (i : ℕ) (w : Y) → length xs ≤ i → f (drop i xs) ≡ w → f [] ≡ w
left_end f xs i w l so_far = sym (at_drop_all f xs i l) ∙ so_far
