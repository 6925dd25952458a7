-- The predicates of an earlier annotation that are found again in a program, by the names of procedures and columns.
use Rattle.std.specs.Prelude.{ℕ, ℤ, nat_eq, List, map, length, Option, None, Some, slice_get, if◌then◌else◌}
use Rattle.std.specs.List.{filter_map}
use Rattle.std.specs.Option.{option_map, option_and_then}
use Rattle.lin_rows.specs.declared.types.RowKind.TheVariants.{Le}
use Rattle.lin_rows.specs.Rows.{LinearRow}
use Rattle.lin_rows.specs.Sums.{summed}
use Rattle.letter_acts.specs.Frames.{Columns}
use Rattle.letter_acts.specs.Acts.{frame_of}
use Rattle.letter_acts.specs.Invariant.{Graph, alphabet_of}
use Rattle.triple_rows.specs.declared.predicates.PredNode.{PredNode}
use Rattle.triple_rows.specs.declared.predicates.PredNode.TheVariants.{Atom, And, Or}
use Rattle.triple_rows.specs.declared.triples.Scoped.{Scoped}
use Rattle.proof_form.specs.declared.numerals.Numeral.{Numeral}
use Rattle.proof_form.specs.Predicates.{PredicateNode, atom, and_of, or_of}
use Rattle.proof_form.specs.Lines.{Pred}
use Rattle.proof_form.specs.Annotations.{Content}
use Rattle.proof_names.specs.Numbers.{number_in}
use Rattle.proof_names.specs.Options.{both, all_some}
use Rattle.proof_names.specs.Columns.{procedure_named}
use Rattle.proof_names.specs.Predicates.{term_named, scoped_of}

-- terms in the order of the frame; none where two are of one column, so that fewer are left where they are added up
abbrev pub in_order : List (ℕ × ℤ) → Option (List (ℕ × ℤ))
in_order ts = if nat_eq (length (summed ts)) (length ts) then Some (summed ts) else None

-- the inequality of terms and a bound
abbrev pub row_of_terms : (List (ℕ × ℤ) × ℤ) → LinearRow
row_of_terms r = record { terms = r.0; kind = Le; bound = r.1 }

-- the inequality of an atom, where each column is found by its name and all numbers fit
abbrev pub row_found : Columns → Numeral → List (Numeral × List ℕ) → Option LinearRow
row_found frame bound terms =
    option_map row_of_terms (both (option_and_then in_order (all_some (map (term_named frame) terms))) (number_in bound))

abbrev pub node_found : Columns → PredicateNode → Option PredNode
node_found frame (atom bound terms) = option_map Atom (row_found frame bound terms)
node_found frame (and_of n) = Some (And n)
node_found frame (or_of n) = Some (Or n)

-- the nodes over the columns of a procedure
abbrev pub scoped_found : Graph → List PredicateNode → Option ℕ → Option Scoped
scoped_found g nodes None = None
scoped_found g nodes (Some p) = option_map (scoped_of p) (all_some (map (node_found (frame_of (alphabet_of g) p)) nodes))

-- the predicate of a line, where its procedure is found with a body, and each of its rows
abbrev pub pred_found : Graph → Pred → Option Scoped
pred_found g line = scoped_found g line.nodes (procedure_named g line.proc)

-- that of line k of the predicates
abbrev pub found_at : Graph → Content → ℕ → Option Scoped
found_at g old k = option_and_then (pred_found g) (slice_get old.preds k)

-- all that are found
abbrev pub found_preds : Graph → Content → List Scoped
found_preds g old = filter_map (pred_found g) old.preds
