-- The edges of a program before their letters have numbers: from each place, by its action.
use Rattle.std.specs.Prelude.{ℕ, suc, ◌+◌, ◌-◌, pos, negsuc, List, [], ◌∷◌, ◌++◌, map, length, Option, None, Some, slice_get}
use Rattle.typed_tree.specs.TypedTree.{TypedProcedure, TypedProgram}
use Rattle.lin_rows.specs.Rows.{LinearRow}
use Rattle.lin_rows.specs.Sums.{row_of}
use Rattle.lin_rows.specs.declared.types.RowKind.TheVariants.{Eq}
use Rattle.letter_acts.specs.Acts.{PlainAct, inside_act, call_act}
use Rattle.letter_acts.specs.Frames.{Columns, olds_of}
use Rattle.cond_jumps.specs.FreeProducts.Letters.{MarkedConjunction}
use Rattle.letter_acts.specs.LetterTable.Letters.{Arc, inside_arc, call_arc, exact_act}
use Rattle.boogie_run.specs.BoogiePoints.Points.{Point, at_exit, settled, past_first}
use Rattle.boogie_run.specs.BoogiePoints.Actions as actions
use Rattle.boogie_run.specs.BoogiePoints.Actions.{Action, action_at, ensured_conditions}
use Rattle.boogie_run.specs.BoogiePoints.Starts.{point_of_call, start_point_of, targets_at}
use Rattle.boogie_run.specs.BoogiePlaces.Places.{Place, number_of, program_places}
use Rattle.lowered_graph.specs.LoweredSteps.ProgramFrames.{frame_at}
use Rattle.lowered_graph.specs.LoweredSteps.Edges.{Spot, At, Wrong, Edge, inside_edges, call_letters, numbers_in}

-- ---- numbers of places

abbrev pub place_number : TypedProgram → ℕ → Point → ℕ
place_number t n p = number_of t (record { proc = n; point = p })

-- the error places come last, in order of the assertions, which count from 1
abbrev pub first_error : TypedProgram → ℕ
first_error t = 1 + length (program_places t)

abbrev pub error_place : TypedProgram → ℕ → ℕ
error_place t i = first_error t + (i - 1)

abbrev pub spot_number : TypedProgram → ℕ → Spot → ℕ
spot_number t n (At p) = place_number t n p
spot_number t n (Wrong i) = error_place t i

-- the place at which procedure f returns
abbrev pub return_point : Option TypedProcedure → Point
return_point None = at_exit
return_point (Some q) = record at_exit { part = length (ensured_conditions q.specs) }

abbrev pub return_place : TypedProgram → ℕ → ℕ
return_place t f = place_number t f (return_point (slice_get t.procs f))

-- ---- the start

-- each written column, from column k on, is equal to its global
abbrev pub entering_rows : ℕ → List (ℕ × ℕ) → List LinearRow
entering_rows k [] = []
entering_rows k (o ∷ os) = row_of ((o.1, negsuc 0) ∷ (k, pos 1) ∷ []) Eq (pos 0) ∷ entering_rows (suc k) os

-- The letter of the start writes the old columns of the entry procedure, each with the value of its global.
abbrev pub entering : ℕ → Columns → PlainAct
entering n frame = inside_act n (map (λ o. o.0) (olds_of frame)) 0 (entering_rows (length frame) (olds_of frame))

abbrev pub start_arc : TypedProgram → Arc
start_arc t = inside_arc 0 (exact_act (entering t.entry (frame_at t t.entry))) (place_number t t.entry (start_point_of t (slice_get t.procs t.entry)))

-- ---- the arcs of a place

abbrev pub inside_arcs : TypedProgram → ℕ → Point → List Edge → List Arc
inside_arcs t n here edges =
    map (λ e. inside_arc (place_number t n here) (record { act = inside_act n e.written e.rows.helpers e.rows.rows; coarse = e.coarse }) (spot_number t n e.to)) edges

abbrev pub call_arcs : TypedProgram → ℕ → Point → ℕ → List MarkedConjunction → List Arc
call_arcs t n here f cs =
    map (λ c. call_arc (place_number t n here) (record { act = call_act n f c.plain.helpers c.plain.rows; coarse = c.coarse }) (place_number t f (point_of_call t f (slice_get t.procs f)))
    (return_place t f) (numbers_in (frame_at t n) (targets_at here.todo)) (place_number t n (settled (past_first t.procs here.todo)))) cs

abbrev pub action_arcs : TypedProgram → ℕ → Point → Action → List Arc
action_arcs t n here (actions.Enter f args) = call_arcs t n here f (call_letters t n f args)
action_arcs t n here action = inside_arcs t n here (inside_edges t n here action)

abbrev pub arcs_at : TypedProgram → Place → List Arc
arcs_at t place = action_arcs t place.proc place.point (action_at t place.proc place.point)

-- of several places in order
abbrev pub arcs_of : TypedProgram → List Place → List Arc
arcs_of t [] = []
arcs_of t (p ∷ ps) = arcs_at t p ++ arcs_of t ps

-- all arcs of a program, in order of the places from which they lead
abbrev pub program_arcs : TypedProgram → List Arc
program_arcs t = start_arc t ∷ arcs_of t (program_places t)
