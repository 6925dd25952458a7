-- The look-up in the code's table gives what stands beside a text in the table of the definitions.
use Rattle.std.proofs.Common.{◌≡◌, ℕ, true, false, cond, List, [], ◌∷◌, map, Option, None, Some, Bor, refl, ap, ◌∙◌}
use Rattle.std.specs.List.{find}
use Rattle.std.specs.Option.{option_map}
use Rattle.std.specs.Str.{bytes_eq}
use Rattle.boogie_parse.specs.declared.fault.What.{What}
use Rattle.boogie_parse.specs.Lexing.Lexed.{beside_text, left_out}

-- a row of the code's table as the definitions see it
abbrev pub row : Bor (List ℕ) × What → List ℕ × What
row r = (r.0.now, r.1)

-- what the table's look-up found
abbrev pub part_of : Option (Bor (Bor (List ℕ) × What)) → Option What
part_of None = None
part_of (Some r) = Some r.now.1

found_beside : (text : List ℕ) (table : List (Bor (List ℕ) × What)) → option_map (λ (r : Bor (List ℕ) × What). r.1) (find (λ r. bytes_eq text r.0.now) table) ≡ beside_text text (map row table)
found_beside text [] = refl
found_beside text (r ∷ rows) =
    elim (bytes_eq text r.0.now) as (λ t. option_map (λ (r : Bor (List ℕ) × What). r.1) (cond t (Some r) (find (λ r. bytes_eq text r.0.now) rows)) ≡ cond t (Some r.1) (beside_text text (map row rows)))
    [ true ↦ refl | false ↦ found_beside text rows ]

part_is : (found : Option (Bor (Bor (List ℕ) × What))) → part_of found ≡ option_map (λ (r : Bor (List ℕ) × What). r.1) (option_map (λ y. y.now) found)
part_is None = refl
part_is (Some r) = refl

pub part_beside : (text : List ℕ) (table : List (Bor (List ℕ) × What)) (found : Option (Bor (Bor (List ℕ) × What))) →
    map row table ≡ left_out → option_map (λ y. y.now) found ≡ find (λ r. bytes_eq text r.0.now) table → part_of found ≡ beside_text text left_out
unfolding left_out
part_beside text table found same is =
    part_is found ∙ ap (option_map (λ (r : Bor (List ℕ) × What). r.1)) is ∙ found_beside text table ∙ ap (beside_text text) same
