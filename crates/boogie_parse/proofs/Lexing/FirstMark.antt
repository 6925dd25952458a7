-- The first mark of the code's table that a text begins with is the one that `mark_at` finds.
use Rattle.std.proofs.Common.{◌≡◌, ℕ, Bool, true, false, cond, nat_eq, List, [], ◌∷◌, map, length, Option, None, Some, Bor, refl, ap, ◌∙◌}
use Rattle.std.specs.List.{find, starts_with}
use Rattle.std.specs.Option.{option_map}
use Rattle.boogie_parse.specs.declared.token.TokenKind.TheVariants.{Mark}
use Rattle.boogie_parse.specs.Lexing.Tokens.{Extent, marks, mark_of, mark_at}

find-map : {A B : Type 0} (f : A → B) (test : B → Bool) (xs : List A) → option_map f (find (λ x. test (f x)) xs) ≡ find test (map f xs)
find-map f test [] = refl
find-map f test (x ∷ xs) =
    elim (test (f x)) as (λ t. option_map f (cond t (Some x) (find (λ y. test (f y)) xs)) ≡ cond t (Some (f x)) (find test (map f xs))) [ true ↦ refl | false ↦ find-map f test xs ]

-- what the table's look-up found, as an extent
abbrev pub extent_of : Option (Bor (Bor (List ℕ))) → Option Extent
extent_of None = None
extent_of (Some m) = Some (Mark, length m.now.now)

extent_is : (found : Option (Bor (Bor (List ℕ)))) → extent_of found ≡ mark_of (option_map (λ m. m.now) (option_map (λ y. y.now) found))
extent_is None = refl
extent_is (Some m) = refl

pub first_mark : (text : List ℕ) (table : List (Bor (List ℕ))) (found : Option (Bor (Bor (List ℕ)))) → map (λ m. m.now) table ≡ marks → option_map (λ y. y.now) found ≡ find (λ m. starts_with nat_eq text m.now) table → extent_of found ≡ mark_at text
first_mark text table found same is =
    extent_is found
    ∙ ap (λ o. mark_of (option_map (λ m. m.now) o)) is
    ∙ ap mark_of (find-map (λ m. m.now) (starts_with nat_eq text) table)
    ∙ ap (λ ms. mark_of (find (starts_with nat_eq text) ms)) same
