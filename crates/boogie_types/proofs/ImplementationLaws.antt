-- Implementations and the procedures that they implement.
use Rattle.std.proofs.Common.{◌≡◌, ℕ, zero, suc, ◌≤◌, true, false, nat_eq, List, [], ◌∷◌, length, drop, Option, None, Some, is_some, refl, ap, ◌∙◌, arith}
use Rattle.std.specs.Option.{is_none}
use Rattle.std.proofs.lemmas.Bool.Decides.{nat_tests}
use Rattle.std.proofs.lemmas.List.{drop_all}
use Rattle.boogie_tree.specs.declared.tree.Vary.{Vary}
use Rattle.boogie_tree.specs.declared.tree.Body.{Body}
use Rattle.boogie_tree.specs.View as view
use Rattle.boogie_types.specs.Resolved.{same_variables}

zero_apart : (n : ℕ) → false ≡ nat_eq 0 (suc n)
zero_apart n = grind (arith, nat_tests)

sucs_agree : (m n : ℕ) → nat_eq m n ≡ nat_eq (suc m) (suc n)
sucs_agree m n = grind (arith, nat_tests)

-- nothing is left of the first list, and so nothing may be left of the other
rest_is_empty : (ys : List Vary) (i : ℕ) → i ≤ length ys → same_variables [] (drop i ys) ≡ nat_eq i (length ys)
rest_is_empty [] zero l = refl
rest_is_empty [] (suc i) l = absurd (omega arith)
rest_is_empty (y ∷ ys) zero l = zero_apart (length ys)
rest_is_empty (y ∷ ys) (suc i) l = rest_is_empty ys i (omega arith) ∙ sucs_agree i (length ys)

pub rests_agree : (xs ys : List Vary) (i : ℕ) → i ≡ length xs → i ≤ length ys → same_variables (drop i xs) (drop i ys) ≡ nat_eq (length xs) (length ys)
rests_agree xs ys i e l =
    ap (λ (zs : List Vary). same_variables zs (drop i ys)) (drop_all i xs (omega arith))
    ∙ rest_is_empty ys i l ∙ ap (λ (n : ℕ). nat_eq n (length ys)) e

pub body_is_there : (o : Option Body) → is_some o ≡ true → is_none (view.body_of o) ≡ false
body_is_there None h = cc
body_is_there (Some b) h = refl
