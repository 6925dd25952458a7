-- What one more member adds to a list that is made, or folded, member by member.
use Rattle.std.proofs.Common.{◌≡◌, ℕ, zero, suc, ◌+◌, ◌<◌, ◌≤◌, List, [], ◌∷◌, ◌++◌, length, map, take, get_or, sym, ap, ◌∙◌, subst, append_assoc, arith}
use Rattle.std.specs.List.{AllByRecursion, flat_map, fold}
use Rattle.std.proofs.lemmas.List.{take_more, take_all, map-append, flat_map_more}
use Rattle.fm_elim.specs.Folds.{FoldFits}
use Rattle.fm_elim.proofs.Lists.{all_append}
use Rattle.fm_elim.proofs.Written.{written}
use Rattle.fm_elim.proofs.FoldLaws.{fold_more, fits_more}

-- what holds of each member holds of one
pub all_item : {X : Type 0} (P : X → Type 0) (xs : List X) (i : ℕ) (d x : X) → i < length xs → x ≡ get_or xs i d → AllByRecursion P xs → P x
all_item {X = X} P xs i d x l e h = subst P (sym e) (at xs i l h)
  where
    at : (ys : List X) (j : ℕ) → j < length ys → AllByRecursion P ys → P (get_or ys j d)
    at [] j m k = absurd (omega (arith, m))
    at (y ∷ ys) zero m k = k.0
    at (y ∷ ys) (suc j) m k = at ys j (omega (arith, m)) k.1

-- also of one that is to be rewritten next
pub written_item : {X : Type 0} (f : X → X) (P : X → Type 0) (xs items : List X) (i : ℕ) (d : X) → items ≡ written f i xs → i < length items →
    AllByRecursion P xs → P (get_or items i d)
written_item {X = X} f P xs items i d e l h = subst (λ (zs : List X). P (get_or zs i d)) (sym e) (at xs i (subst (λ (zs : List X). i < length zs) e l) h)
  where
    at : (ys : List X) (j : ℕ) → j < length (written f j ys) → AllByRecursion P ys → P (get_or (written f j ys) j d)
    at [] zero m k = absurd (omega (arith, m))
    at [] (suc j) m k = absurd (omega (arith, m))
    at (y ∷ ys) zero m k = k.0
    at (y ∷ ys) (suc j) m k = at ys j (omega (arith, m)) k.1

-- the members so far with the next
pub more_of : {X : Type 0} (xs : List X) (i : ℕ) (x : X) → i < length xs → x ≡ get_or xs i x → take (i + 1) xs ≡ take i xs ++ x ∷ []
more_of {X = X} xs i x l e = subst (λ (y : X). take (i + 1) xs ≡ take i xs ++ y ∷ []) (sym e) (take_more xs i x l)

-- ---- the images of the members so far

pub mapped_next : {X Y : Type 0} (f : X → Y) (P : X → Type 0) (begin now new : List Y) (xs : List X) (i : ℕ) (x : X) (y : Y) → i < length xs → x ≡ get_or xs i x →
    now ≡ begin ++ map f (take i xs) → AllByRecursion P (take i xs) → P x × (y ≡ f x) → new ≡ now ++ y ∷ [] →
    (new ≡ begin ++ map f (take (i + 1) xs)) × AllByRecursion P (take (i + 1) xs)
mapped_next {X = X} {Y = Y} f P begin now new xs i x y l e h a p n =
    let v : new ≡ begin ++ map f (take i xs ++ x ∷ []) =
    n ∙ ap (λ (z : Y). now ++ z ∷ []) p.1 ∙ ap (λ (zs : List Y). zs ++ f x ∷ []) h ∙ append_assoc begin (map f (take i xs)) (f x ∷ []) ∙
    ap (λ (zs : List Y). begin ++ zs) (sym (map-append f (take i xs) (x ∷ []))) in
    subst (λ (zs : List X). (new ≡ begin ++ map f zs) × AllByRecursion P zs) (sym (more_of xs i x l e)) (v, all_append P (take i xs) (x ∷ []) a (p.0, tt))

pub mapped_end : {X Y : Type 0} (f : X → Y) (P : X → Type 0) (begin now : List Y) (xs : List X) (i : ℕ) → length xs ≤ i →
    now ≡ begin ++ map f (take i xs) → AllByRecursion P (take i xs) → AllByRecursion P xs × (now ≡ begin ++ map f xs)
mapped_end {X = X} f P begin now xs i l h a = subst (λ (zs : List X). AllByRecursion P zs × (now ≡ begin ++ map f zs)) (take_all i xs l) (a, h)

-- ---- the lists that the members so far give

-- after some members
pub flat_on : {X Y : Type 0} (f : X → List Y) (P : X → Type 0) (begin now new : List Y) (ys : List X) (x : X) →
    now ≡ begin ++ flat_map f ys → AllByRecursion P ys → P x × (new ≡ now ++ f x) → (new ≡ begin ++ flat_map f (ys ++ x ∷ [])) × AllByRecursion P (ys ++ x ∷ [])
flat_on {Y = Y} f P begin now new ys x h a p =
    (p.1 ∙ ap (λ (zs : List Y). zs ++ f x) h ∙ flat_map_more f begin ys x, all_append P ys (x ∷ []) a (p.0, tt))

pub flat_next : {X Y : Type 0} (f : X → List Y) (P : X → Type 0) (begin now new : List Y) (xs : List X) (i : ℕ) (x : X) → i < length xs → x ≡ get_or xs i x →
    now ≡ begin ++ flat_map f (take i xs) → AllByRecursion P (take i xs) → P x × (new ≡ now ++ f x) →
    (new ≡ begin ++ flat_map f (take (i + 1) xs)) × AllByRecursion P (take (i + 1) xs)
flat_next {X = X} f P begin now new xs i x l e h a p =
    subst (λ (zs : List X). (new ≡ begin ++ flat_map f zs) × AllByRecursion P zs) (sym (more_of xs i x l e)) (flat_on f P begin now new (take i xs) x h a p)

pub flat_end : {X Y : Type 0} (f : X → List Y) (P : X → Type 0) (begin now : List Y) (xs : List X) (i : ℕ) → length xs ≤ i →
    now ≡ begin ++ flat_map f (take i xs) → AllByRecursion P (take i xs) → AllByRecursion P xs × (now ≡ begin ++ flat_map f xs)
flat_end {X = X} f P begin now xs i l h a = subst (λ (zs : List X). AllByRecursion P zs × (now ≡ begin ++ flat_map f zs)) (take_all i xs l) (a, h)

-- ---- folds

pub fold_next : {A B : Type 0} (f : B → A → B) (P : B → A → Type 0) (b : B) (xs : List A) (i : ℕ) (d x : A) (now new : B) → i < length xs → x ≡ get_or xs i d →
    now ≡ fold f b (take i xs) → FoldFits f P b (take i xs) → P now x → new ≡ f now x →
    (new ≡ fold f b (take (i + 1) xs)) × FoldFits f P b (take (i + 1) xs)
fold_next {A = A} {B = B} f P b xs i d x now new l e h a p n = (
  n ∙ ap (λ (y : B). f y x) h ∙ ap (λ (y : A). f (fold f b (take i xs)) y) e ∙ sym (fold_more f b xs i d l),
  fits_more f P b xs i d l a (subst (λ (y : A). P (fold f b (take i xs)) y) e (subst (λ (y : B). P y x) h p)),
)

pub fold_end : {A B : Type 0} (f : B → A → B) (P : B → A → Type 0) (b : B) (xs : List A) (i : ℕ) (now : B) → length xs ≤ i →
    now ≡ fold f b (take i xs) → FoldFits f P b (take i xs) → FoldFits f P b xs × (now ≡ fold f b xs)
fold_end {A = A} f P b xs i now l h a = subst (λ (zs : List A). FoldFits f P b zs × (now ≡ fold f b zs)) (take_all i xs l) (a, h)
