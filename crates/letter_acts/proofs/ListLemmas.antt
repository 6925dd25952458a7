-- Small facts about lists: all members, members, numbers and places.
use Rattle.std.proofs.Common.{◌≡◌, ◌↔◌, ◌∙◌, ◌⊎◌, ℕ, zero, suc, ◌+◌, ◌<◌, ◌≤◌, Bool, true, false, List, [], ◌∷◌, ◌++◌, length, refl, ap, subst, inl, inr, arith}
use Rattle.std.specs.Prelude.{map, slice_get, IsSomeAnd}
use Rattle.std.specs.List.{AllByRecursion}
use Rattle.nwa_base.specs.Members.{Member}
use Rattle.letter_acts.specs.Frames.{added, places}

-- a number is below another, or it and so many more
pub below_or_from : (c n : ℕ) → (c < n) ⊎ ((k : ℕ) × (c ≡ n + k))
below_or_from c zero = inr (c, omega arith)
below_or_from zero (suc n) = inl (omega arith)
below_or_from (suc c) (suc n) = elim (below_or_from c n) [ inl h ↦ inl (omega arith) | inr h ↦ inr (h.0, omega (arith, h.1)) ]

pub same_or_not : (a b : ℕ) → (a ≡ b) ⊎ (a ≡ b → ⊥)
same_or_not zero zero = inl refl
same_or_not zero (suc b) = inr (λ e. omega (arith, e))
same_or_not (suc a) zero = inr (λ e. omega (arith, e))
same_or_not (suc a) (suc b) = elim (same_or_not a b) [ inl e ↦ inl (ap suc e) | inr n ↦ inr (λ e. n (omega (arith, e))) ]

pub member_or_not : (xs : List ℕ) (x : ℕ) → Member xs x ⊎ (Member xs x → ⊥)
member_or_not [] x = inr (λ m. m)
member_or_not (y ∷ ys) x = elim (same_or_not y x) [
  | inl e ↦ inl (inl e)
  | inr n ↦ elim (member_or_not ys x) [ inl m ↦ inl (inr m) | inr k ↦ inr (λ m. elim m [ inl e ↦ n e | inr i ↦ k i ]) ]
]

pub all_weaker : {X : Type 0} (P Q : X → Type 0) → ((x : X) → P x → Q x) → (xs : List X) → AllByRecursion P xs → AllByRecursion Q xs
all_weaker P Q f [] h = tt
all_weaker P Q f (x ∷ xs) h = (f x h.0, all_weaker P Q f xs h.1)

pub all_member : {X : Type 0} (P : X → Type 0) (xs : List X) (x : X) → Member xs x → AllByRecursion P xs → P x
all_member P [] x m h = absurd m
all_member P (y ∷ ys) x m h = elim m [ inl e ↦ subst P e h.0 | inr k ↦ all_member P ys x k h.1 ]

pub all_from_members : {X : Type 0} (P : X → Type 0) (xs : List X) → ((x : X) → Member xs x → P x) → AllByRecursion P xs
all_from_members P [] f = tt
all_from_members P (x ∷ xs) f = (f x (inl refl), all_from_members P xs (λ y m. f y (inr m)))

pub all_append : {X : Type 0} (P : X → Type 0) (xs ys : List X) → AllByRecursion P xs → AllByRecursion P ys → AllByRecursion P (xs ++ ys)
all_append P [] ys h g = g
all_append P (x ∷ xs) ys h g = (h.0, all_append P xs ys h.1 g)

-- a place at which something stands is within the list
pub some_within : {X : Type 0} (P : X → Type 0) (xs : List X) (i : ℕ) → IsSomeAnd (slice_get xs i) P → i < length xs
some_within P [] i h = absurd h
some_within P (x ∷ xs) zero h = omega arith
some_within P (x ∷ xs) (suc i) h = let k = some_within P xs i h in omega (arith, k)

-- two maps of a list are equal exactly where they are at each member
pub maps_equal : {X Y : Type 0} (f g : X → Y) (xs : List X) → (map f xs ≡ map g xs) ↔ AllByRecursion (λ x. f x ≡ g x) xs
maps_equal f g [] = (λ e. tt, λ h. refl)
maps_equal f g (x ∷ xs) = (
  λ e. let h : f x ≡ g x = cc in let t : map f xs ≡ map g xs = cc in (h, (maps_equal f g xs).0 t),
  λ h. let t = (maps_equal f g xs).1 h.1 in let e = h.0 in cc,
)

pub map_map : {X Y Z : Type 0} (f : X → Y) (g : Y → Z) (xs : List X) → map g (map f xs) ≡ map (λ x. g (f x)) xs
map_map f g [] = refl
map_map {Z} f g (x ∷ xs) = ap (λ (l : List Z). g (f x) ∷ l) (map_map f g xs)

pub added-append : {X : Type 0} (b : Bool) (x : X) (xs ys : List X) → added b x (xs ++ ys) ≡ added b x xs ++ ys
added-append true x xs ys = refl
added-append false x xs ys = refl

pub places-append : {X : Type 0} (test : X → Bool) (xs ys : List X) (n m : ℕ) → m ≡ n + length xs → places test n (xs ++ ys) ≡ places test n xs ++ places test m ys
places-append test [] ys n m e = ap (λ (k : ℕ). places test k ys) (let i : n ≡ m = omega (arith, e) in i)
places-append test (x ∷ xs) ys n m e =
    ap (added (test x) n) (places-append test xs ys (suc n) m (omega (arith, e))) ∙
    added-append (test x) n (places test (suc n) xs) (places test m ys)

pub places_none : {X : Type 0} (test : X → Bool) (xs : List X) (n : ℕ) → AllByRecursion (λ x. test x ≡ false) xs → places test n xs ≡ []
places_none test [] n h = refl
places_none test (x ∷ xs) n h = ap (λ (b : Bool). added b n (places test (suc n) xs)) h.0 ∙ places_none test xs (suc n) h.1

-- so many numbers from n on
abbrev pub counted_up : ℕ → ℕ → List ℕ
counted_up n zero = []
counted_up n (suc k) = n ∷ counted_up (suc n) k

pub length-counted_up : (n k : ℕ) → length (counted_up n k) ≡ k
length-counted_up n zero = refl
length-counted_up n (suc k) = ap suc (length-counted_up (suc n) k)

pub counted_up_member : (n k c : ℕ) → n ≤ c → c < n + k → Member (counted_up n k) c
counted_up_member n zero c l h = absurd (omega arith)
counted_up_member n (suc k) c l h = elim (below_or_from n c) [ inl b ↦ inr (counted_up_member (suc n) k c (omega arith) (omega arith)) | inr g ↦ inl (let e = g.1 in omega (arith, e)) ]

pub counted_up_below : (n k c : ℕ) → Member (counted_up n k) c → c < n + k
counted_up_below n zero c m = absurd m
counted_up_below n (suc k) c m = elim m [ inl e ↦ omega (arith, e) | inr h ↦ (let b = counted_up_below (suc n) k c h in omega (arith, b)) ]
