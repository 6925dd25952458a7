-- The predicates that lines name: their columns by name, and their numbers.
use Rattle.std.specs.Prelude.{ℕ, ℤ, Bool, true, ◌&&◌, nat_lt, List, [], ◌∷◌, map, Option, None, Some, if◌then◌else◌}
use Rattle.std.specs.Option.{option_map}
use Rattle.lin_rows.specs.declared.types.RowKind.TheVariants.{Le}
use Rattle.lin_rows.specs.Rows.{LinearRow}
use Rattle.letter_acts.specs.Frames.{Columns}
use Rattle.letter_acts.specs.Acts.{frame_of}
use Rattle.letter_acts.specs.Invariant.{Graph, alphabet_of}
use Rattle.triple_rows.specs.declared.predicates.PredNode.{PredNode}
use Rattle.triple_rows.specs.declared.predicates.PredNode.TheVariants.{Atom, And, Or}
use Rattle.triple_rows.specs.declared.triples.Scoped.{Scoped}
use Rattle.proof_form.specs.declared.numerals.Numeral.{Numeral}
use Rattle.proof_form.specs.Predicates.{PredicateNode, atom, and_of, or_of}
use Rattle.proof_form.specs.Lines.{Pred}
use Rattle.proof_names.specs.Numbers.{number_in}
use Rattle.proof_names.specs.Options.{both, all_some}
use Rattle.proof_names.specs.Columns.{column_named, procedure_named}

-- a column with its coefficient
abbrev pub term_named : Columns → (Numeral × List ℕ) → Option (ℕ × ℤ)
term_named frame t = both (column_named frame t.1) (number_in t.0)

-- each column stands before the next in the frame
abbrev pub terms_ascend : List (ℕ × ℤ) → Bool
terms_ascend [] = true
terms_ascend (t ∷ []) = true
terms_ascend (t ∷ (u ∷ us)) = nat_lt t.0 u.0 && terms_ascend (u ∷ us)

-- the inequality with these terms, if they are in the order of the frame
abbrev pub row_in_order : (List (ℕ × ℤ) × ℤ) → Option LinearRow
row_in_order r = if terms_ascend r.0 then Some (record { terms = r.0; kind = Le; bound = r.1 }) else None

abbrev pub if_there : Option (List (ℕ × ℤ) × ℤ) → Option LinearRow
if_there None = None
if_there (Some r) = row_in_order r

-- the inequality that an atom names
abbrev pub row_named : Columns → Numeral → List (Numeral × List ℕ) → Option LinearRow
row_named frame bound terms = if_there (both (all_some (map (term_named frame) terms)) (number_in bound))

abbrev pub node_named : Columns → PredicateNode → Option PredNode
node_named frame (atom bound terms) = option_map Atom (row_named frame bound terms)
node_named frame (and_of n) = Some (And n)
node_named frame (or_of n) = Some (Or n)

-- the nodes as a predicate over the columns of a procedure
abbrev pub scoped_of : ℕ → List PredNode → Scoped
scoped_of p nodes = record { proc = p; pred = nodes }

-- the nodes of a line over the columns of a procedure
abbrev pub scoped_named : Graph → List PredicateNode → Option ℕ → Option Scoped
scoped_named g nodes None = None
scoped_named g nodes (Some p) =
    option_map (scoped_of p) (all_some (map (node_named (frame_of (alphabet_of g) p)) nodes))

-- the predicate that a line names
abbrev pub pred_named : Graph → Pred → Option Scoped
pred_named g line = scoped_named g line.nodes (procedure_named g line.proc)
