-- The pieces of the systems of calls and returns, in order.
use Rattle.std.proofs.Common.{ℕ, ◌+◌, List, [], ◌∷◌, ◌++◌, length}
use Rattle.std.specs.Prelude.{map}
use Rattle.lin_rows.specs.Rows.{LinearRow}
use Rattle.letter_acts.specs.Frames.{Columns, globals_of, olds_of}
use Rattle.letter_acts.specs.Invariant.{written_by}
use Rattle.triple_rows.specs.Predicates.{Formula}
use Rattle.triple_rows.specs.Systems.{PlainSystem, said, denied, only_rows, after_column}
use Rattle.letter_acts.specs.FrameRows.Rows.{equal_row, bounds, types_of, types_at}
use Rattle.triple_rows.specs.Ties.Drafts.{return_ties}

abbrev pub call_parts : Columns → Columns → List LinearRow → Formula → Formula → List PlainSystem
call_parts caller callee rows from to =
    said (λ c. c) from ∷
    only_rows (map (λ c. equal_row (length caller + c) c) (globals_of callee)) ∷
    only_rows (map (λ o. equal_row (length caller + o.0) o.1) (olds_of callee)) ∷
    only_rows rows ∷
    denied (λ c. length caller + c) to ∷
    only_rows (bounds 0 (types_of caller)) ∷
    only_rows (bounds (length caller) (types_of callee)) ∷
    []

-- those of a return after its ties
abbrev pub return_ends : Columns → Columns → List ℕ → Formula → List PlainSystem
return_ends caller callee targets to =
    denied (after_column (length callee) (length callee + length caller) (written_by caller targets)) to ∷
    only_rows (bounds 0 (types_of callee)) ∷
    only_rows (bounds (length callee) (types_of caller)) ∷
    only_rows (bounds (length callee + length caller) (types_at caller (written_by caller targets))) ∷
    []

abbrev pub return_parts : Columns → Columns → List LinearRow → List ℕ → Formula → Formula → Formula → List PlainSystem
return_parts caller callee rows targets exit before to =
    said (λ c. c) exit ∷ said (λ c. length callee + c) before ∷ (return_ties caller callee rows targets ++ return_ends caller callee targets to)
