-- How often a number stands in a list.
use Rattle.std.proofs.Common.{◌≡◌, ◌==◌, ℕ, Bool, true, false, cond, List, [], ◌∷◌, ◌+◌, ◌||◌, nat_eq, nat_lt, refl, ap, sym, ◌∙◌, arith, count_by, reverse}
use Rattle.std.specs.List.{list_any}
use Rattle.std.proofs.lemmas.List.{reverse-append}
use Rattle.std.proofs.lemmas.List.Folds.{list_any-append}
use Rattle.std.proofs.lemmas.List.Sums.{sum_by-cons}
use Rattle.std.proofs.lemmas.Bool.Decides.{nat_tests}
use Rattle.typed_tree.specs.TypingRules.Rules.{is_member}

step : (b : Bool) (n : ℕ) (r : Bool) → nat_lt 0 n ≡ r → nat_lt 0 (cond b 1 0 + n) ≡ (b || r)
step true n r h = grind (arith, nat_tests)
step false n r h = grind (arith, nat_tests)

alike : (x q : ℕ) → (x == q) ≡ nat_eq q x
alike x q = grind (arith, nat_tests)

counted : (q : ℕ) (xs : List ℕ) → nat_lt 0 (count_by (λ x. x == q) xs) ≡ list_any (nat_eq q) xs
counted q [] = refl
counted q (x ∷ xs) =
    ap (nat_lt 0) (sum_by-cons (λ (y : ℕ). cond (y == q) 1 0) x xs)
    ∙ step (x == q) (count_by (λ y. y == q) xs) (list_any (nat_eq q) xs) (counted q xs) ∙ ap (λ (b : Bool). b || list_any (nat_eq q) xs) (alike x q)

swapped : (a b : Bool) → (a || (b || false)) ≡ (b || a)
swapped true true = refl
swapped true false = refl
swapped false true = refl
swapped false false = refl

turned : (q : ℕ) (xs : List ℕ) → list_any (nat_eq q) (reverse xs) ≡ list_any (nat_eq q) xs
turned q [] = refl
turned q (x ∷ xs) =
    ap (list_any (nat_eq q)) (reverse-append (x ∷ []) xs) ∙ list_any-append (nat_eq q) (reverse xs) (x ∷ [])
    ∙ ap (λ (b : Bool). b || (nat_eq q x || false)) (turned q xs) ∙ swapped (list_any (nat_eq q) xs) (nat_eq q x)

-- a number stands there where it stands there at least once
pub member_counted : (q : ℕ) (xs : List ℕ) → nat_lt 0 (count_by (λ x. x == q) xs) ≡ is_member q (reverse xs)
member_counted q xs = counted q xs ∙ sym (turned q xs)
