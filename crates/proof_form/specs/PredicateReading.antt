-- Reading the pieces of a predicate.
use Rattle.std.specs.Prelude.{ℕ, nat_eq, List, length, codes, Option, None, Some, if◌then◌else◌}
use Rattle.proof_form.specs.declared.numerals.Numeral.{Numeral}
use Rattle.proof_form.specs.Outcomes.{◌>>=◌, then_or}
use Rattle.proof_form.specs.Reading.{after, number_at, word_at, item_follows, many, more_follow, all_read}
use Rattle.proof_form.specs.TreeReading.{Part, opens, closes, nodes_of}
use Rattle.proof_form.specs.Predicates.{PredicateNode, atom, and_of, or_of}

-- a term of an atom
abbrev pub column_at : Numeral → List ℕ → Option ((Numeral × List ℕ) × List ℕ)
column_at coefficient bs = Some ((coefficient, (word_at bs).0), (word_at bs).1)

unfoldable pub term_at : List ℕ → Option ((Numeral × List ℕ) × List ℕ)
term_at bs = after (codes " ") bs >>= λ rest. after (codes " ") (number_at rest).1 >>= column_at (number_at rest).0

-- the terms of an atom
abbrev pub terms_at : List ℕ → Option (List (Numeral × List ℕ) × List ℕ)
terms_at bs = many term_at item_follows (length bs) bs

abbrev pub atom_at : List ℕ → Option (Part PredicateNode × List ℕ)
atom_at bs = terms_at (number_at bs).1 >>= λ ts. Some (opens (atom (number_at bs).0 ts.0), ts.1)

abbrev pub and_at : List ℕ → Option (Part PredicateNode × List ℕ)
and_at bs = Some (opens (and_of 0), bs)

abbrev pub or_at : List ℕ → Option (Part PredicateNode × List ℕ)
or_at bs = Some (opens (or_of 0), bs)

abbrev pub end_at : List ℕ → Option (Part PredicateNode × List ℕ)
end_at bs = Some (closes, bs)

-- a piece of the text of a predicate
unfoldable pub piece_at : List ℕ → Option (Part PredicateNode × List ℕ)
piece_at bs = then_or (after (codes ")") bs) end_at (then_or (after (codes " (le ") bs) atom_at
    (then_or (after (codes " (and") bs) and_at (then_or (after (codes " (or") bs) or_at None)))

-- the node with so many predicates behind it, where it can have them
abbrev pub with_parts : PredicateNode → ℕ → Option PredicateNode
with_parts (atom bound terms) c = if nat_eq c 0 then Some (atom bound terms) else None
with_parts (and_of n) c = Some (and_of c)
with_parts (or_of n) c = Some (or_of c)

-- the pieces that the bytes are
unfoldable pub pieces_of : List ℕ → Option (List (Part PredicateNode))
pieces_of bs = many piece_at more_follow (length bs) bs >>= all_read

-- the nodes of the predicate that the bytes are
unfoldable pub predicate_of : List ℕ → Option (List PredicateNode)
predicate_of bs = pieces_of bs >>= nodes_of with_parts
