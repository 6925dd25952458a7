-- Loops that look for the member of a number, where each item of a list gives one member or none.
use Rattle.std.proofs.Common.{◌≡◌, ◌∙◌, ◌<◌, ◌≤◌, ℕ, zero, suc, ◌+◌, ◌-◌, List, [], ◌∷◌, ◌++◌, length, drop, get_or, ap, sym, arith, Option, None, Some}
use Rattle.std.specs.Prelude.{slice_get}
use Rattle.std.proofs.lemmas.List.{drop_more, drop_all}
use Rattle.boogie_run.proofs.BoogiePoints.CountSteps.{counted_more}

-- what the next item gives, and what those behind it give
parted : {X Y : Type 0} (f : List X → List Y) (xs : List X) (i : ℕ) (x : X) → i < length xs → x ≡ get_or xs i x →
    ((y : X) (ys : List X) → f (y ∷ ys) ≡ f (y ∷ []) ++ f ys) → f (drop i xs) ≡ f (x ∷ []) ++ f (drop (i + 1) xs)
parted f xs i x h g step = ap f (drop_more xs i x h) ∙ ap (λ z. f (z ∷ drop (i + 1) xs)) (sym g) ∙ step x (drop (i + 1) xs)

-- it gives none
pub none_given : {X Y : Type 0} (f : List X → List Y) (xs : List X) (i : ℕ) (x : X) (left : ℕ) (whole : Option Y) → i < length xs → x ≡ get_or xs i x →
    ((y : X) (ys : List X) → f (y ∷ ys) ≡ f (y ∷ []) ++ f ys) → f (x ∷ []) ≡ [] → slice_get (f (drop i xs)) left ≡ whole → slice_get (f (drop (i + 1) xs)) left ≡ whole
none_given f xs i x left whole h g step none so_far =
    ap (λ zs. slice_get zs left) (sym (parted f xs i x h g step ∙ ap (λ zs. zs ++ f (drop (i + 1) xs)) none)) ∙ so_far

-- it gives the member that is looked for
pub given_here : {X Y : Type 0} (f : List X → List Y) (xs : List X) (i : ℕ) (x : X) (y : Y) (left : ℕ) (whole : Option Y) → i < length xs → x ≡ get_or xs i x →
    ((z : X) (zs : List X) → f (z ∷ zs) ≡ f (z ∷ []) ++ f zs) → f (x ∷ []) ≡ y ∷ [] → left ≡ 0 → slice_get (f (drop i xs)) left ≡ whole → Some y ≡ whole
given_here f xs i x y left whole h g step one e so_far =
    sym (ap (slice_get (y ∷ f (drop (i + 1) xs))) e) ∙ sym (ap (λ zs. slice_get zs left) (parted f xs i x h g step ∙ ap (λ zs. zs ++ f (drop (i + 1) xs)) one)) ∙ so_far

-- it gives one before that member
pub given_before : {X Y : Type 0} (f : List X → List Y) (xs : List X) (i : ℕ) (x : X) (y : Y) (left : ℕ) (whole : Option Y) → i < length xs → x ≡ get_or xs i x →
    ((z : X) (zs : List X) → f (z ∷ zs) ≡ f (z ∷ []) ++ f zs) → f (x ∷ []) ≡ y ∷ [] → 0 < left → slice_get (f (drop i xs)) left ≡ whole →
    slice_get (f (drop (i + 1) xs)) (left - 1) ≡ whole
given_before f xs i x y zero whole h g step one l so_far = absurd (omega arith)
given_before f xs i x y (suc n) whole h g step one l so_far =
    let e : suc n - 1 ≡ n = omega arith in
    ap (slice_get (f (drop (i + 1) xs))) e ∙ sym (ap (λ zs. slice_get zs (suc n)) (parted f xs i x h g step ∙ ap (λ zs. zs ++ f (drop (i + 1) xs)) one)) ∙ so_far

-- no item is left
pub none_left : {X Y : Type 0} (f : List X → List Y) (xs : List X) (i left : ℕ) (whole : Option Y) → length xs ≤ i → f [] ≡ [] → slice_get (f (drop i xs)) left ≡ whole → None ≡ whole
none_left f xs i left whole h none so_far = sym (ap (λ zs. slice_get zs left) (ap f (drop_all i xs h) ∙ none)) ∙ so_far

-- Loops that count what the items of a list give.
pub counted_on : {X : Type 0} (f : List X → ℕ) (xs : List X) (i : ℕ) (x : X) (count new m n total : ℕ) → i < length xs → x ≡ get_or xs i x → ((rest : List X) → f (x ∷ rest) ≡ n + f rest) →
    m ≡ n → new ≡ count + m → count + f (drop i xs) ≡ total → new + f (drop (i + 1) xs) ≡ total
counted_on f xs i x count new m n total h g more e more_is so_far =
    let next = counted_more f xs i x count m n total h g more e so_far in
    omega arith
