-- Where the labels of a procedure lead.
use Rattle.std.specs.Prelude.{ℕ, ◌+◌, false, List, [], map, length, Option, None, Some, slice_get}
use Rattle.typed_tree.specs.TypedTree.{TypedBlock, TypedProcedure, TypedProgram}
use Rattle.typed_tree.specs.TypingRules.Shape.{block_labels}
use Rattle.boogie_run.specs.BoogiePoints.Points.{found_block}
use Rattle.boogie_run.specs.BoogiePoints.Actions.{point_behind, free_conditions, first_assertion, first_place}
use Rattle.lowered_graph.specs.Arcs.{place_number}

-- The place to which label k of a body leads. Where there is no such label, it is the one behind the statements.
abbrev pub label_place : TypedProgram → ℕ → TypedProcedure → TypedBlock → ℕ → ℕ
label_place t n q b k =
    place_number t n (point_behind (found_block t.procs k b false (first_assertion t.procs n) (first_place t n + length (free_conditions q.specs)) []))

abbrev pub labels_with : TypedProgram → ℕ → TypedProcedure → Option TypedBlock → List ℕ
labels_with t n q None = []
labels_with t n q (Some b) = map (label_place t n q b) (block_labels b)

abbrev pub labels_if_any : TypedProgram → ℕ → Option TypedProcedure → List ℕ
labels_if_any t n None = []
labels_if_any t n (Some q) = labels_with t n q q.body

-- the places to which the labels of procedure n lead, in the order of the text
abbrev pub label_numbers : TypedProgram → ℕ → List ℕ
label_numbers t n = labels_if_any t n (slice_get t.procs n)
