-- The look-up in the code's table of spellings gives what is spelled so in the table of the definitions.
use Rattle.std.proofs.Common.{◌≡◌, ℕ, true, false, cond, List, [], ◌∷◌, map, Option, None, Some, Bor, refl, ap, ◌∙◌}
use Rattle.std.specs.List.{find}
use Rattle.std.specs.Option.{option_map}
use Rattle.std.specs.Str.{bytes_eq}
use Rattle.boogie_parse.specs.declared.symbols.Fixed.{Fixed}
use Rattle.boogie_parse.specs.Lexing.Symbols.{spelled, spellings}

-- a row of the code's table as the definitions see it
abbrev pub row : Bor (List ℕ) × Fixed → List ℕ × Fixed
row r = (r.0.now, r.1)

-- what the table's look-up found
abbrev pub fixed_of : Option (Bor (Bor (List ℕ) × Fixed)) → Option Fixed
fixed_of None = None
fixed_of (Some r) = Some r.now.1

found_spelled : (text : List ℕ) (table : List (Bor (List ℕ) × Fixed)) → option_map (λ (r : Bor (List ℕ) × Fixed). r.1) (find (λ r. bytes_eq text r.0.now) table) ≡ spelled text (map row table)
found_spelled text [] = refl
found_spelled text (r ∷ rows) =
    elim (bytes_eq text r.0.now) as (λ t. option_map (λ (r : Bor (List ℕ) × Fixed). r.1) (cond t (Some r) (find (λ r. bytes_eq text r.0.now) rows)) ≡ cond t (Some r.1) (spelled text (map row rows)))
    [ true ↦ refl | false ↦ found_spelled text rows ]

fixed_is : (found : Option (Bor (Bor (List ℕ) × Fixed))) → fixed_of found ≡ option_map (λ (r : Bor (List ℕ) × Fixed). r.1) (option_map (λ y. y.now) found)
fixed_is None = refl
fixed_is (Some r) = refl

pub fixed_spelled : (text : List ℕ) (table : List (Bor (List ℕ) × Fixed)) (found : Option (Bor (Bor (List ℕ) × Fixed))) →
    map row table ≡ spellings → option_map (λ y. y.now) found ≡ find (λ r. bytes_eq text r.0.now) table → fixed_of found ≡ spelled text spellings
unfolding spellings
fixed_spelled text table found same is =
    fixed_is found ∙ ap (option_map (λ (r : Bor (List ℕ) × Fixed). r.1)) is ∙ found_spelled text table ∙ ap (spelled text) same
