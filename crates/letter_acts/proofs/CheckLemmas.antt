-- What chains and loops that test each member of a list say.
use Rattle.std.proofs.Common.{◌≡◌, ◌↔◌, ℕ, zero, suc, ◌<◌, Bool, true, false, List, [], ◌∷◌, length, map, Option, MatchOption, MatchBool, refl, inl, inr, arith}
use Rattle.std.specs.List.{AllByRecursion, AllWithin, HoldsAt, FoldsTo}
use Rattle.std.specs.Fn.{Called}
use Rattle.std.specs.Iterator.{YieldsThen}
use Rattle.std.proofs.lemmas.Bool.{false≢true}
use Rattle.std.proofs.lemmas.Iterator.{YieldsList, cases_from_all, cases_from_any}
use Rattle.std.proofs.lemmas.List.Elements.{All-from_recursion, recursion_from_All}
use Rattle.nwa_base.specs.Members.{Member}
use denote.Param.Members.{Mut}

fails_somewhere : {B : Type 0} (P : B → Type 0) (all : List B) → (k : ℕ) × (k < length all) × HoldsAt (λ x. P x → ⊥) all k → AllByRecursion P all → ⊥
fails_somewhere P [] h a = omega (arith, h.1)
fails_somewhere P (x ∷ xs) h a = h.2 x (All-from_recursion P (x ∷ xs) a h.0 x h.1)

all_from_cases : {B : Type 0} (P : B → Type 0) (r : Bool) (all : List B) →
    MatchBool r (AllWithin P all 0 (length all)) ((k : ℕ) × (k < length all) × HoldsAt (λ x. P x → ⊥) all k) → (r ≡ true) ↔ AllByRecursion P all
all_from_cases P true all h = (λ e. recursion_from_All P all (λ k d l. h k d (omega arith) l), λ a. refl)
all_from_cases P false all h = (λ e. absurd (false≢true e), λ a. absurd (fails_somewhere P all h a))

-- `all` answered true exactly where each member is as the closure says
pub all_said : {S A B F : Type 0} {steps : S → Option A → S → Type 0} {v : A → B} {g : Mut F (A × Unit {0}) Bool} {s : S} {all : List B}
    (P : B → Type 0) (u : S) (f : F) (r : Bool) →
    (xs : List A) × (o : Option A) × (j : F) × YieldsThen steps s xs o u × FoldsTo (λ p x q. Called g p (x, tt) true q) f xs j ×
    MatchOption o (r ≡ true) (λ x. (r ≡ false) × ((h : F) × Called g j (x, tt) false h)) →
    YieldsList steps v s all →
    ((x : A) (q : F) → Called g f (x, tt) true q → (q ≡ f) × P (v x)) →
    ((x : A) (q : F) → Called g f (x, tt) false q → P (v x) → ⊥) →
    (r ≡ true) ↔ AllByRecursion P all
all_said {all} P u f r ran ys passes fails = all_from_cases P r all (cases_from_all u f r P (λ x. P x → ⊥) ran ys passes fails)

member_at : {B : Type 0} (x : B) (all : List B) → (k : ℕ) × (k < length all) × HoldsAt (λ y. y ≡ x) all k → Member all x
member_at x [] (k, l, h) = absurd (omega (arith, l))
member_at x (y ∷ ys) (zero, l, h) = inl (h x)
member_at x (y ∷ ys) (suc k, l, h) = inr (member_at x ys (k, omega (arith, l), λ d. h d))

no_member : {B : Type 0} (x : B) (all : List B) → AllByRecursion (λ y. y ≡ x → ⊥) all → Member all x → ⊥
no_member x [] a m = m
no_member x (y ∷ ys) a (inl e) = a.0 e
no_member x (y ∷ ys) a (inr m) = no_member x ys a.1 m

member_from_cases : {B : Type 0} (x : B) (r : Bool) (all : List B) →
    MatchBool r ((k : ℕ) × (k < length all) × HoldsAt (λ y. y ≡ x) all k) (AllWithin (λ y. y ≡ x → ⊥) all 0 (length all)) → (r ≡ true) ↔ Member all x
member_from_cases x true all h = (λ e. member_at x all h, λ m. refl)
member_from_cases x false all h =
    (λ e. absurd (false≢true e), λ m. absurd (no_member x all (recursion_from_All (λ y. y ≡ x → ⊥) all (λ k d l. h k d (omega arith) l)) m))

-- `any` answered true exactly where a member is the one looked for
pub any_said : {S A B F : Type 0} {steps : S → Option A → S → Type 0} {v : A → B} {g : Mut F (A × Unit {0}) Bool} {s : S} {all : List B}
    (y : B) (u : S) (f : F) (r : Bool) →
    (xs : List A) × (o : Option A) × (j : F) × YieldsThen steps s xs o u × FoldsTo (λ p x q. Called g p (x, tt) false q) f xs j ×
    MatchOption o (r ≡ false) (λ x. (r ≡ true) × ((h : F) × Called g j (x, tt) true h)) →
    YieldsList steps v s all →
    ((x : A) (q : F) → Called g f (x, tt) true q → v x ≡ y) →
    ((x : A) (q : F) → Called g f (x, tt) false q → (q ≡ f) × (v x ≡ y → ⊥)) →
    (r ≡ true) ↔ Member all y
any_said {all} y u f r ran ys passes fails = member_from_cases y r all (cases_from_any u f r (λ x. x ≡ y) (λ x. x ≡ y → ⊥) ran ys passes fails)

member_of_images : {B Y : Type 0} (f : B → Y) (y : Y) (all : List B) → (k : ℕ) × (k < length all) × HoldsAt (λ z. f z ≡ y) all k → Member (map f all) y
member_of_images f y [] h = omega (arith, h.1)
member_of_images f y (z ∷ zs) (zero, l, h) = inl (h z)
member_of_images f y (z ∷ zs) (suc k, l, h) = inr (member_of_images f y zs (k, omega (arith, l), λ d. h d))

no_image : {B Y : Type 0} (f : B → Y) (y : Y) (all : List B) → AllByRecursion (λ z. f z ≡ y → ⊥) all → Member (map f all) y → ⊥
no_image f y [] a m = m
no_image f y (z ∷ zs) a (inl e) = a.0 e
no_image f y (z ∷ zs) a (inr m) = no_image f y zs a.1 m

image_from_cases : {B Y : Type 0} (f : B → Y) (y : Y) (r : Bool) (all : List B) →
    MatchBool r ((k : ℕ) × (k < length all) × HoldsAt (λ z. f z ≡ y) all k) (AllWithin (λ z. f z ≡ y → ⊥) all 0 (length all)) → (r ≡ true) ↔ Member (map f all) y
image_from_cases f y true all h = (λ e. member_of_images f y all h, λ m. refl)
image_from_cases f y false all h =
    (λ e. absurd (false≢true e), λ m. absurd (no_image f y all (recursion_from_All (λ z. f z ≡ y → ⊥) all (λ k d l. h k d (omega arith) l)) m))

-- `any` answered true exactly where the image of a member is the one looked for
pub any_image_said : {S A B F Y : Type 0} {steps : S → Option A → S → Type 0} {v : A → B} {g : Mut F (A × Unit {0}) Bool} {s : S} {all : List B}
    (image : B → Y) (y : Y) (u : S) (f : F) (r : Bool) →
    (xs : List A) × (o : Option A) × (j : F) × YieldsThen steps s xs o u × FoldsTo (λ p x q. Called g p (x, tt) false q) f xs j ×
    MatchOption o (r ≡ false) (λ x. (r ≡ true) × ((h : F) × Called g j (x, tt) true h)) →
    YieldsList steps v s all →
    ((x : A) (q : F) → Called g f (x, tt) true q → image (v x) ≡ y) →
    ((x : A) (q : F) → Called g f (x, tt) false q → (q ≡ f) × (image (v x) ≡ y → ⊥)) →
    (r ≡ true) ↔ Member (map image all) y
any_image_said {all} image y u f r ran ys passes fails =
    image_from_cases image y r all (cases_from_any u f r (λ x. image x ≡ y) (λ x. image x ≡ y → ⊥) ran ys passes fails)

-- of each member's image the same as of the image of each
pub all_map : {X Y : Type 0} (f : X → Y) (P : Y → Type 0) (xs : List X) → AllByRecursion (λ x. P (f x)) xs ↔ AllByRecursion P (map f xs)
all_map f P [] = (λ a. a, λ a. a)
all_map f P (x ∷ xs) = (λ a. (a.0, (all_map f P xs).0 a.1), λ a. (a.0, (all_map f P xs).1 a.1))
