-- Reading the pieces of a refutation.
use Rattle.std.specs.Prelude.{ℕ, nat_eq, List, length, codes, Option, None, Some, if◌then◌else◌}
use Rattle.proof_form.specs.declared.numerals.Numeral.{Numeral}
use Rattle.proof_form.specs.Outcomes.{◌>>=◌, then_or}
use Rattle.proof_form.specs.Reading.{after, number_at, item_follows, many, more_follow, all_read}
use Rattle.proof_form.specs.TreeReading.{Part, opens, closes, nodes_of}
use Rattle.proof_form.specs.Refutations.{RefutationNode, leaf, cut, cases}

-- a part of a leaf
abbrev pub multiplier_at : Numeral → List ℕ → Option ((Numeral × Numeral) × List ℕ)
multiplier_at row bs = Some ((row, (number_at bs).0), (number_at bs).1)

unfoldable pub part_at : List ℕ → Option ((Numeral × Numeral) × List ℕ)
part_at bs = after (codes " ") bs >>= λ rest. after (codes ":") (number_at rest).1 >>= multiplier_at (number_at rest).0

-- the parts of a leaf
abbrev pub parts_at : List ℕ → Option (List (Numeral × Numeral) × List ℕ)
parts_at bs = many part_at item_follows (length bs) bs

abbrev pub leaf_at : List ℕ → Option (Part RefutationNode × List ℕ)
leaf_at bs = parts_at bs >>= λ ps. Some (opens (leaf ps.0), ps.1)

-- the column and the number of a cut
abbrev pub number_of_cut : Numeral → List ℕ → Option (Part RefutationNode × List ℕ)
number_of_cut column bs = Some (opens (cut column (number_at bs).0), (number_at bs).1)

abbrev pub cut_at : List ℕ → Option (Part RefutationNode × List ℕ)
cut_at bs = after (codes " ") (number_at bs).1 >>= number_of_cut (number_at bs).0

abbrev pub cases_at : List ℕ → Option (Part RefutationNode × List ℕ)
cases_at bs = Some (opens (cases 0), bs)

abbrev pub end_at : List ℕ → Option (Part RefutationNode × List ℕ)
end_at bs = Some (closes, bs)

-- a piece of the text of a refutation
unfoldable pub piece_at : List ℕ → Option (Part RefutationNode × List ℕ)
piece_at bs = then_or (after (codes ")") bs) end_at (then_or (after (codes " (leaf") bs) leaf_at
    (then_or (after (codes " (cut ") bs) cut_at (then_or (after (codes " (cases") bs) cases_at None)))

-- the node with so many trees behind it, where it can have them
abbrev pub with_parts : RefutationNode → ℕ → Option RefutationNode
with_parts (leaf ps) c = if nat_eq c 0 then Some (leaf ps) else None
with_parts (cut column k) c = if nat_eq c 2 then Some (cut column k) else None
with_parts (cases n) c = Some (cases c)

-- the pieces that the bytes are
unfoldable pub pieces_of : List ℕ → Option (List (Part RefutationNode))
pieces_of bs = many piece_at more_follow (length bs) bs >>= all_read

-- the nodes of the refutation that the bytes are
unfoldable pub refutation_of : List ℕ → Option (List RefutationNode)
refutation_of bs = pieces_of bs >>= nodes_of with_parts
