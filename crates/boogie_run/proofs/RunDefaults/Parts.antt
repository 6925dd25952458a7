-- Lists and tests.
use Rattle.std.proofs.Common.{◌≡◌, ◌⊎◌, ⊎_elim, ℕ, zero, suc, ◌<◌, ◌≤◌, Bool, true, false, not, nat_eq, nat_lt, nat_le, List, [], ◌∷◌, ◌++◌, length, Option, None, Some, IsSome, IfSome, IsSomeAnd, slice_get, refl, ap, sym, ◌∙◌, subst, arith, ltb-true, ltb-false, leb-true, eqb-true, eq-eqb}
use Rattle.std.specs.List.{AllByRecursion, list_all}
use Rattle.std.specs.Option.{option_or}
use Rattle.std.proofs.lemmas.Bool.{and_parts, or_cases, or_left, or_right, false≢true}
use Rattle.std.proofs.lemmas.List.Folds.{list_any-append}
use Rattle.std.proofs.lemmas.Option.{none-some, same_Some}
use Rattle.typed_tree.specs.AffineForm.{is_empty}
use Rattle.typed_tree.specs.TypedTree.{Label, TypedBlock, Empty, Then}
use Rattle.typed_tree.specs.TypingRules.Rules.{meets, is_member, own_labels}
use Rattle.typed_tree.specs.TypingRules.Shape.{statement_labels, block_labels}

-- ---- tests

pub not_of : (b : Bool) → not b ≡ true → b ≡ false
not_of true h = sym h
not_of false h = refl

pub below_of : (a b : ℕ) → nat_lt a b ≡ true → a < b
below_of a b h = ltb-true a b h

pub most_of : (a b : ℕ) → nat_lt a b ≡ false → b ≤ a
most_of a b h = ltb-false a b h

pub at_most : (a b : ℕ) → nat_le a b ≡ true → a ≤ b
at_most a b h = leb-true a b h

pub same_of : (a b : ℕ) → nat_eq a b ≡ true → a ≡ b
same_of a b h = eqb-true a b h

pub equal_test : (a b : ℕ) → a ≡ b → nat_eq a b ≡ true
equal_test a b h = eq-eqb a b h

-- ---- options

pub meets_some : {X : Type 0} (test : X → Bool) (o : Option X) → meets test o ≡ true → (x : X) × (o ≡ Some x) × (test x ≡ true)
meets_some test None h = absurd (false≢true h)
meets_some test (Some x) h = (x, refl, h)

pub some_and : {X : Type 0} (P : X → Type 0) (o : Option X) (x : X) → o ≡ Some x → P x → IsSomeAnd o P
some_and {X} P o x e h = subst (λ (p : Option X). IsSomeAnd p P) (sym e) h

pub both_some : {X : Type 0} (P : X → Type 0) (o : Option X) → IsSome o → IfSome o P → IsSomeAnd o P
both_some P None s h = absurd (false≢true s)
both_some P (Some x) s h = h

pub or_if : {X : Type 0} (P : X → Type 0) (o p : Option X) → IfSome o P → IfSome p P → IfSome (option_or o p) P
or_if P None p h k = k
or_if P (Some x) p h k = h

pub or_first : {X : Type 0} (o p : Option X) → IsSome o → IsSome (option_or o p)
or_first None p h = absurd (false≢true h)
or_first (Some x) p h = refl

pub or_second : {X : Type 0} (o p : Option X) → IsSome p → IsSome (option_or o p)
or_second None p h = h
or_second (Some x) p h = refl

pub more_if : {X : Type 0} (P Q : X → Type 0) (o : Option X) → ((x : X) → P x → Q x) → IfSome o P → IfSome o Q
more_if P Q None f h = tt
more_if P Q (Some x) f h = f x h

-- ---- lists

pub all_at : {X : Type 0} (p : X → Bool) (xs : List X) (n : ℕ) (x : X) → list_all p xs ≡ true → slice_get xs n ≡ Some x → p x ≡ true
all_at p [] n x h e = cc
all_at p (y ∷ ys) zero x h e = let same : y ≡ x = cc in ap p (sym same) ∙ (and_parts (p y) (list_all p ys) h).0
all_at p (y ∷ ys) (suc n) x h e = all_at p ys n x (and_parts (p y) (list_all p ys) h).1 e

pub all_get : {X : Type 0} (P : X → Type 0) (xs : List X) (n : ℕ) (x : X) → AllByRecursion P xs → slice_get xs n ≡ Some x → P x
all_get P [] n x h e = absurd (none-some x e)
all_get P (y ∷ ys) zero x h e = subst P (same_Some y x e) h.0
all_get P (y ∷ ys) (suc n) x h e = all_get P ys n x h.1 e

pub all_more : {X : Type 0} (P Q : X → Type 0) (xs : List X) → ((x : X) → P x → Q x) → AllByRecursion P xs → AllByRecursion Q xs
all_more P Q [] f h = tt
all_more P Q (x ∷ xs) f h = (f x h.0, all_more P Q xs f h.1)

pub all_append : {X : Type 0} (P : X → Type 0) (xs ys : List X) → AllByRecursion P xs → AllByRecursion P ys → AllByRecursion P (xs ++ ys)
all_append P [] ys h k = k
all_append P (x ∷ xs) ys h k = (h.0, all_append P xs ys h.1 k)

pub there : {X : Type 0} (xs : List X) (n : ℕ) → n < length xs → IsSome (slice_get xs n)
there [] n h = absurd (omega arith)
there (x ∷ xs) zero h = refl
there (x ∷ xs) (suc n) h = there xs n (omega arith)

pub past_end : {X : Type 0} (xs : List X) (n : ℕ) → slice_get xs n ≡ None → length xs ≤ n
past_end [] n h = omega arith
past_end (x ∷ xs) zero h = absurd (none-some x (sym h))
past_end (x ∷ xs) (suc n) h = let r = past_end xs n h in omega arith

pub not_empty : {X : Type 0} (xs : List X) → not (is_empty xs) ≡ true → 0 < length xs
not_empty [] h = absurd (false≢true h)
not_empty (x ∷ xs) h = omega arith

-- ---- labels

pub in_left : (n : ℕ) (xs ys : List ℕ) → is_member n xs ≡ true → is_member n (xs ++ ys) ≡ true
in_left n xs ys h = list_any-append (nat_eq n) xs ys ∙ or_left (is_member n xs) (is_member n ys) h

pub in_right : (n : ℕ) (xs ys : List ℕ) → is_member n ys ≡ true → is_member n (xs ++ ys) ≡ true
in_right n xs ys h = list_any-append (nat_eq n) xs ys ∙ or_right (is_member n xs) (is_member n ys) h

pub in_either : (n : ℕ) (xs ys : List ℕ) → is_member n (xs ++ ys) ≡ true → (is_member n xs ≡ true) ⊎ (is_member n ys ≡ true)
in_either n xs ys h = or_cases (is_member n xs) (is_member n ys) (sym (list_any-append (nat_eq n) xs ys) ∙ h)

-- the labels of a list are among all those inside it
pub own_in : (n : ℕ) (b : TypedBlock) → is_member n (own_labels b) ≡ true → is_member n (block_labels b) ≡ true
own_in n Empty h = h
own_in n (Then (Label m) b) h =
    ⊎_elim (λ e. or_left (nat_eq n m) (is_member n (block_labels b)) e) (λ e. or_right (nat_eq n m) (is_member n (block_labels b)) (own_in n b e))
    (or_cases (nat_eq n m) (is_member n (own_labels b)) h)
own_in n (Then s b) h = in_right n (statement_labels s) (block_labels b) (own_in n b h)
