-- Lists whose members correspond: they are made member by member, seen through views, and read at a place.
use Rattle.std.proofs.Common.{◌≡◌, ◌∙◌, ℕ, zero, suc, ◌+◌, ◌<◌, ◌≤◌, Bool, true, List, [], ◌∷◌, ◌++◌, length, take, get_or, Option, Some, refl, sym, ap, subst, arith, add-one}
use Rattle.std.specs.Prelude.{map, slice_get}
use Rattle.std.specs.List.{list_all, AllByRecursion}
use Rattle.std.proofs.lemmas.List.{take_all}
use Rattle.proof_names.specs.Options.{with_first, all_some}
use Rattle.proof_names.specs.Pairs.{ArePaired}
use Rattle.proof_names.specs.ProofSpell.Correspond.{Correspond}

-- ---- lists that are made

one_more : {X Y : Type 0} (R : X → Y → Type 0) (xs : List X) (ys : List Y) (i : ℕ) (x : X) (y d : Y) → Correspond R xs (take i ys) → i < length ys → y ≡ get_or ys i d → R x y →
    Correspond R (xs ++ x ∷ []) (take (suc i) ys)
one_more R xs [] i x y d h l e r = absurd (omega arith)
one_more R [] (z ∷ ys) zero x y d h l e r = (subst (R x) e r, tt)
one_more R (w ∷ xs) (z ∷ ys) zero x y d h l e r = absurd h
one_more R [] (z ∷ ys) (suc i) x y d h l e r = absurd h
one_more R (w ∷ xs) (z ∷ ys) (suc i) x y d h l e r = (h.0, one_more R xs ys i x y d h.1 (omega arith) e r)

-- one member more corresponds to the next of the other list
pub correspond_more : {X Y : Type 0} (R : X → Y → Type 0) (xs more : List X) (ys : List Y) (i : ℕ) (x : X) (y d : Y) → Correspond R xs (take i ys) → i < length ys → y ≡ get_or ys i d →
    R x y → more ≡ xs ++ x ∷ [] → Correspond R more (take (i + 1) ys)
correspond_more R xs more ys i x y d h l e r m =
    rw (add-one) (subst (λ k. Correspond R k (take (suc i) ys)) (sym m) (one_more R xs ys i x y d h l e r))

pub correspond_end : {X Y : Type 0} (R : X → Y → Type 0) (xs : List X) (ys : List Y) (i : ℕ) → Correspond R xs (take i ys) → length ys ≤ i → Correspond R xs ys
correspond_end R xs ys i h l = subst (λ k. Correspond R xs k) (take_all i ys l) h

-- ---- views

pub views : {V W X Y : Type 0} (R : X → Y → Type 0) (f : V → X) (g : W → Y) (xs : List V) (ys : List W) → Correspond (λ x y. R (f x) (g y)) xs ys → Correspond R (map f xs) (map g ys)
views R f g [] [] h = tt
views R f g [] (y ∷ ys) h = absurd h
views R f g (x ∷ xs) [] h = absurd h
views R f g (x ∷ xs) (y ∷ ys) h = (h.0, views R f g xs ys h.1)

pub viewed : {V X Y : Type 0} (R : X → Y → Type 0) (f : V → X) (xs : List V) (ys : List Y) → Correspond (λ x y. R (f x) y) xs ys → Correspond R (map f xs) ys
viewed R f [] [] h = tt
viewed R f [] (y ∷ ys) h = absurd h
viewed R f (x ∷ xs) [] h = absurd h
viewed R f (x ∷ xs) (y ∷ ys) h = (h.0, viewed R f xs ys h.1)

pub right_viewed : {W X Y : Type 0} (R : X → Y → Type 0) (g : W → Y) (xs : List X) (ys : List W) → Correspond (λ x y. R x (g y)) xs ys → Correspond R xs (map g ys)
right_viewed R g [] [] h = tt
right_viewed R g [] (y ∷ ys) h = absurd h
right_viewed R g (x ∷ xs) [] h = absurd h
right_viewed R g (x ∷ xs) (y ∷ ys) h = (h.0, right_viewed R g xs ys h.1)

-- all have been gone through
pub all_related : {V W X Y : Type 0} (R : X → Y → Type 0) (f : V → X) (g : W → Y) (xs : List V) (ys : List W) (zs : List Y) (i : ℕ) → map g ys ≡ zs → Correspond (λ x y. R (f x) (g y)) xs (take i ys) → length ys ≤ i →
    Correspond R (map f xs) zs
all_related R f g xs ys zs i e c l = subst (λ ls. Correspond R (map f xs) ls) e (views R f g xs ys (correspond_end (λ x y. R (f x) (g y)) xs ys i c l))

-- what follows from each pair
pub weaker : {X Y : Type 0} (R S : X → Y → Type 0) → ((x : X) (y : Y) → R x y → S x y) → (xs : List X) (ys : List Y) → Correspond R xs ys → Correspond S xs ys
weaker R S f [] [] h = tt
weaker R S f [] (y ∷ ys) h = absurd h
weaker R S f (x ∷ xs) [] h = absurd h
weaker R S f (x ∷ xs) (y ∷ ys) h = (f x y h.0, weaker R S f xs ys h.1)

-- ---- tests and values

pub all_pass : {X Y : Type 0} (R : X → Y → Type 0) (test : X → Bool) → ((x : X) (y : Y) → R x y → test x ≡ true) → (xs : List X) (ys : List Y) → Correspond R xs ys → list_all test xs ≡ true
all_pass R test f [] [] h = refl
all_pass R test f [] (y ∷ ys) h = refl
all_pass R test f (x ∷ xs) [] h = absurd h
all_pass R test f (x ∷ xs) (y ∷ ys) h = rw (f x y h.0, all_pass R test f xs ys h.1) refl

pub all_values : {X Y : Type 0} (R : X → Y → Type 0) (f : X → Option Y) → ((x : X) (y : Y) → R x y → f x ≡ Some y) → (xs : List X) (ys : List Y) → Correspond R xs ys →
    all_some (map f xs) ≡ Some ys
all_values R f s [] [] h = refl
all_values R f s [] (y ∷ ys) h = absurd h
all_values R f s (x ∷ xs) [] h = absurd h
all_values R f s (x ∷ xs) (y ∷ ys) h =
    ap (λ o. with_first o (all_some (map f xs))) (s x y h.0) ∙ ap (with_first (Some y)) (all_values R f s xs ys h.1)

-- ---- places

pub counted : {X Y : Type 0} (R : X → Y → Type 0) (xs : List X) (ys : List Y) → Correspond R xs ys → length ys ≡ length xs
counted R [] [] h = refl
counted R [] (y ∷ ys) h = absurd h
counted R (x ∷ xs) [] h = absurd h
counted R (x ∷ xs) (y ∷ ys) h = ap suc (counted R xs ys h.1)

pub at_place : {X Y : Type 0} (R : X → Y → Type 0) (xs : List X) (ys : List Y) (k : ℕ) (x : X) (y : Y) → Correspond R xs ys → slice_get xs k ≡ Some x → slice_get ys k ≡ Some y → R x y
at_place R [] ys k x y h p q = absurd (cc)
at_place R (w ∷ xs) [] k x y h p q = absurd h
at_place R (w ∷ xs) (z ∷ ys) zero x y h p q =
    let a : w ≡ x = cc in let b : z ≡ y = cc in subst (λ v. R v y) a (subst (R w) b h.0)
at_place R (w ∷ xs) (z ∷ ys) (suc k) x y h p q = at_place R xs ys k x y h.1 p q

-- by places
pub paired : {X Y : Type 0} (R : X → Y → Type 0) (S : ℕ → X → Y → Type 0) (xs : List X) (ys : List Y) → Correspond R xs ys →
    ((k : ℕ) (x : X) (y : Y) → slice_get xs k ≡ Some x → slice_get ys k ≡ Some y → R x y → S k x y) → ArePaired S xs ys
paired R S xs ys h f = record {
  count = counted R xs ys h;
  related = λ k x y p q. f k x y p q (at_place R xs ys k x y h p q);
}

pub all_got : {X : Type 0} (P : X → Type 0) (xs : List X) (i : ℕ) (x d : X) → AllByRecursion P xs → i < length xs → x ≡ get_or xs i d → P x
all_got P [] i x d h l e = absurd (omega arith)
all_got P (y ∷ xs) zero x d h l e = subst P (sym e) h.0
all_got P (y ∷ xs) (suc i) x d h l e = all_got P xs i x d h.1 (omega arith) e

pub got : {X : Type 0} (xs : List X) (i : ℕ) (x d : X) → i < length xs → x ≡ get_or xs i d → slice_get xs i ≡ Some x
got [] i x d l e = absurd (omega arith)
got (y ∷ ys) zero x d l e = ap Some (sym e)
got (y ∷ ys) (suc i) x d l e = got ys i x d (omega arith) e
