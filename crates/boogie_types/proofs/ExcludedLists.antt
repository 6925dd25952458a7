-- What is missing in a part is missing in the whole.
use Rattle.std.proofs.Common.{◌≡◌, ℕ, zero, suc, ◌<◌, Bool, true, false, cond, List, [], ◌∷◌, length, get_or, Option, None, Some, ◌⊎◌, inl, inr, ⊎_elim, Contains, refl, ap, ◌∙◌, arith}
use Rattle.std.specs.Option.{option_map, option_and_then}
use Rattle.std.specs.List.{list_all, list_any}
use Rattle.std.proofs.lemmas.List.Folds.{list_all_at, list_any_at}
use Rattle.boogie_types.specs.Naming.{each, from_both}

-- ---- options

pub option_map_none : {X Y : Type 0} (f : X → Y) (o : Option X) → o ≡ None → option_map f o ≡ None
option_map_none {X} f o e = ap (λ (p : Option X). option_map f p) e

pub and_then_none : {X Y : Type 0} (f : X → Option Y) (o : Option X) → o ≡ None → option_and_then f o ≡ None
and_then_none {X} f o e = ap (λ (p : Option X). option_and_then f p) e

-- nothing comes of any value
pub and_then_nothing : {X Y : Type 0} (f : X → Option Y) (o : Option X) → ((x : X) → f x ≡ None) → option_and_then f o ≡ None
and_then_nothing f None h = refl
and_then_nothing f (Some x) h = h x

pub both_left_none : {X Y Z : Type 0} (f : X → Y → Z) (x : Option X) (y : Option Y) → x ≡ None → from_both f x y ≡ None
both_left_none f x y e = and_then_none (λ a. option_map (f a) y) x e

pub both_right_none : {X Y Z : Type 0} (f : X → Y → Z) (x : Option X) (y : Option Y) → y ≡ None → from_both f x y ≡ None
both_right_none f x y e = and_then_nothing (λ a. option_map (f a) y) x (λ a. option_map_none (f a) y e)

pub if_none : {X : Type 0} (b : Bool) (o : Option X) → o ≡ None → cond b o None ≡ None
if_none true o e = e
if_none false o e = refl

-- ---- members of lists

pub no_member : {X : Type 0} (x : X) {P : Type 0} → Contains [] x → P
no_member x (k, l, e) = let f : ⊥ = omega (arith, l) in absurd f

pub member_cases : {X : Type 0} (y : X) (ys : List X) (x : X) → Contains (y ∷ ys) x → (y ≡ x) ⊎ Contains ys x
member_cases y ys x (k, l, e) = at k l e
  where
    at : (k : ℕ) → k < length (y ∷ ys) → get_or (y ∷ ys) k x ≡ x → (y ≡ x) ⊎ Contains ys x
    at zero l e = inl e
    at (suc k) l e = inr (k, omega (arith, l), e)

pub any_of_member : {X : Type 0} (t : X → Bool) (xs : List X) (x : X) → Contains xs x → t x ≡ true → list_any t xs ≡ true
any_of_member t xs x (k, l, e) h = list_any_at t xs k x l (ap t e ∙ h)

pub all_of_member : {X : Type 0} (t : X → Bool) (xs : List X) (x : X) → Contains xs x → t x ≡ false → list_all t xs ≡ false
all_of_member t xs x (k, l, e) h = list_all_at t xs k x l (ap t e ∙ h)

-- there is not one for each where there is none for one
pub each_none : {X Y : Type 0} (f : X → Option Y) (xs : List X) (x : X) → Contains xs x → f x ≡ None → each f xs ≡ None
each_none f [] x c h = no_member x c
each_none {X} {Y} f (y ∷ ys) x c h =
    ⊎_elim
    (λ (e : y ≡ x). both_left_none (λ (a : Y) (bs : List Y). a ∷ bs) (f y) (each f ys) (ap f e ∙ h))
    (λ (d : Contains ys x). both_right_none (λ (a : Y) (bs : List Y). a ∷ bs) (f y) (each f ys) (each_none f ys x d h))
    (member_cases y ys x c)
