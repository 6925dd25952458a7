-- What holds of each member of a list, through the ways in which lists are made from lists.
use Rattle.std.proofs.Common.{◌≡◌, Bool, true, false, List, [], ◌∷◌, ◌++◌, None, Some, map, if◌then◌else◌, refl, sym, subst}
use Rattle.std.specs.Prelude.{MatchOption}
use Rattle.std.specs.List.{AllByRecursion, filter, flat_map}
use Rattle.fm_elim.specs.Folds.{first, others}

pub all_append : {X : Type 0} (P : X → Type 0) (xs ys : List X) → AllByRecursion P xs → AllByRecursion P ys → AllByRecursion P (xs ++ ys)
all_append P [] ys h k = k
all_append P (x ∷ xs) ys h k = (h.0, all_append P xs ys h.1 k)

pub all_parts : {X : Type 0} (P : X → Type 0) (xs ys : List X) → AllByRecursion P (xs ++ ys) → AllByRecursion P xs × AllByRecursion P ys
all_parts P [] ys h = (tt, h)
all_parts P (x ∷ xs) ys h = let r = all_parts P xs ys h.1 in ((h.0, r.0), r.1)

pub all_weaker : {X : Type 0} (P Q : X → Type 0) (xs : List X) → ((x : X) → P x → Q x) → AllByRecursion P xs → AllByRecursion Q xs
all_weaker P Q [] f h = tt
all_weaker P Q (x ∷ xs) f h = (f x h.0, all_weaker P Q xs f h.1)

pub all_both : {X : Type 0} (P Q : X → Type 0) (xs : List X) → AllByRecursion P xs → AllByRecursion Q xs → AllByRecursion (λ x. P x × Q x) xs
all_both P Q [] h k = tt
all_both P Q (x ∷ xs) h k = ((h.0, k.0), all_both P Q xs h.1 k.1)

pub all_always : {X : Type 0} (P : X → Type 0) (xs : List X) → ((x : X) → P x) → AllByRecursion P xs
all_always P [] f = tt
all_always P (x ∷ xs) f = (f x, all_always P xs f)

pub all_map : {X Y : Type 0} (P : X → Type 0) (Q : Y → Type 0) (f : X → Y) (xs : List X) → ((x : X) → P x → Q (f x)) → AllByRecursion P xs → AllByRecursion Q (map f xs)
all_map P Q f [] g h = tt
all_map P Q f (x ∷ xs) g h = (g x h.0, all_map P Q f xs g h.1)

-- back from the images
pub all_mapped : {X Y : Type 0} (Q : Y → Type 0) (f : X → Y) (xs : List X) → AllByRecursion Q (map f xs) → AllByRecursion (λ x. Q (f x)) xs
all_mapped Q f [] h = tt
all_mapped Q f (x ∷ xs) h = (h.0, all_mapped Q f xs h.1)

pub all_flat_map : {X Y : Type 0} (P : X → Type 0) (Q : Y → Type 0) (f : X → List Y) (xs : List X) →
    ((x : X) → P x → AllByRecursion Q (f x)) → AllByRecursion P xs → AllByRecursion Q (flat_map f xs)
all_flat_map P Q f [] g h = tt
all_flat_map P Q f (x ∷ xs) g h = all_append Q (f x) (flat_map f xs) (g x h.0) (all_flat_map P Q f xs g h.1)

pub all_flat_mapped : {X Y : Type 0} (Q : Y → Type 0) (f : X → List Y) (xs : List X) →
    AllByRecursion Q (flat_map f xs) → AllByRecursion (λ x. AllByRecursion Q (f x)) xs
all_flat_mapped Q f [] h = tt
all_flat_mapped Q f (x ∷ xs) h = let r = all_parts Q (f x) (flat_map f xs) h in (r.0, all_flat_mapped Q f xs r.1)

-- what passes a test has what held before, and passes
pub all_filter : {X : Type 0} (P : X → Type 0) (p : X → Bool) (xs : List X) → AllByRecursion P xs → AllByRecursion (λ x. P x × (p x ≡ true)) (filter p xs)
all_filter P p [] h = tt
all_filter P p (x ∷ xs) h = by_test (p x) refl (all_filter P p xs h.1)
  where
    by_test : (b : Bool) → p x ≡ b → AllByRecursion (λ x. P x × (p x ≡ true)) (filter p xs) →
        AllByRecursion (λ x. P x × (p x ≡ true)) (if b then x ∷ filter p xs else filter p xs)
    by_test true e r = ((h.0, e), r)
    by_test false e r = r

-- back: what holds where a test passes
pub all_filtered : {X : Type 0} (P : X → Type 0) (p : X → Bool) (xs : List X) → AllByRecursion P (filter p xs) → AllByRecursion (λ x. p x ≡ true → P x) xs
all_filtered P p [] h = tt
all_filtered P p (x ∷ xs) h = by_test (p x) refl h (λ k. all_filtered P p xs k)
  where
    by_test : (b : Bool) → p x ≡ b → AllByRecursion P (if b then x ∷ filter p xs else filter p xs) →
        (AllByRecursion P (filter p xs) → AllByRecursion (λ x. p x ≡ true → P x) xs) → (p x ≡ true → P x) × AllByRecursion (λ x. p x ≡ true → P x) xs
    by_test true e k r = (λ d. k.0, r k.1)
    by_test false e k r = (λ d. absurd (cc), r k)

pub all_others : {X : Type 0} (P : X → Type 0) (p : X → Bool) (xs : List X) → AllByRecursion P xs → AllByRecursion P (others p xs)
all_others P p [] h = tt
all_others P p (x ∷ xs) h = by_test (p x) (all_others P p xs h.1)
  where
    by_test : (b : Bool) → AllByRecursion P (others p xs) → AllByRecursion P (if b then xs else x ∷ others p xs)
    by_test true r = h.1
    by_test false r = (h.0, r)

-- the first that passes has what holds of all, and passes
pub all_first : {X : Type 0} (P : X → Type 0) (p : X → Bool) (xs : List X) → AllByRecursion P xs →
    MatchOption (first p xs) (Unit {0}) (λ x. P x × (p x ≡ true))
all_first P p [] h = tt
all_first P p (x ∷ xs) h = by_test (p x) refl (all_first P p xs h.1)
  where
    by_test : (b : Bool) → p x ≡ b → MatchOption (first p xs) (Unit {0}) (λ x. P x × (p x ≡ true)) →
        MatchOption (if b then Some x else first p xs) (Unit {0}) (λ x. P x × (p x ≡ true))
    by_test true e r = (h.0, e)
    by_test false e r = r

-- where none passes, each fails
pub none_first : {X : Type 0} (p : X → Bool) (xs : List X) → first p xs ≡ None → AllByRecursion (λ x. p x ≡ false) xs
none_first p [] e = tt
none_first p (x ∷ xs) e = by_test (p x) refl e (λ h. none_first p xs h)
  where
    by_test : (b : Bool) → p x ≡ b → (if b then Some x else first p xs) ≡ None → (first p xs ≡ None → AllByRecursion (λ x. p x ≡ false) xs) →
        (p x ≡ false) × AllByRecursion (λ x. p x ≡ false) xs
    by_test true e h r = absurd (cc)
    by_test false e h r = (e, r h)

-- back from the first that passes and the others
pub all_of_others : {X : Type 0} (P : X → Type 0) (p : X → Bool) (xs : List X) (x : X) → first p xs ≡ Some x → P x → AllByRecursion P (others p xs) → AllByRecursion P xs
all_of_others P p [] x e h k = tt
all_of_others P p (y ∷ xs) x e h k = by_test (p y) e k (λ d l. all_of_others P p xs x d h l)
  where
    by_test : (b : Bool) → (if b then Some y else first p xs) ≡ Some x → AllByRecursion P (if b then xs else y ∷ others p xs) →
        (first p xs ≡ Some x → AllByRecursion P (others p xs) → AllByRecursion P xs) → P y × AllByRecursion P xs
    by_test true d k r = let s : x ≡ y = cc in (subst P s h, k)
    by_test false d k r = (k.0, r d k.1)

-- what holds of each pair, the other way round
pub all_swap : {X Y : Type 0} (R : X → Y → Type 0) (xs : List X) (ys : List Y) → AllByRecursion (λ x. AllByRecursion (λ y. R x y) ys) xs →
    AllByRecursion (λ y. AllByRecursion (λ x. R x y) xs) ys
all_swap R [] ys h = all_always (λ y. AllByRecursion (λ x. R x y) []) ys (λ y. tt)
all_swap R (x ∷ xs) ys h = all_both (λ y. R x y) (λ y. AllByRecursion (λ z. R z y) xs) ys h.0 (all_swap R xs ys h.1)

-- what holds of all holds of one in the middle
pub all_middle : {X : Type 0} (P : X → Type 0) (before : List X) (x : X) (rest xs : List X) → before ++ x ∷ rest ≡ xs → AllByRecursion P xs → P x
all_middle {X = X} P before x rest xs e h =
    (all_parts P before (x ∷ rest) (subst (λ (ys : List X). AllByRecursion P ys) (sym e) h)).1.0
