-- What stands for the columns of conditions: those of a frame, and those of a procedure that is called from it.
use Rattle.std.specs.Prelude.{ℕ, ◌+◌, pos, false, List, map, Option, None, Some, slice_get}
use Rattle.boogie_tree.specs.declared.tree.Ty.{Ty}
use Rattle.boogie_tree.specs.declared.tree.Column.{Column}
use Rattle.boogie_tree.specs.declared.tree.Column.TheVariants as columns
use Rattle.boogie_tree.specs.declared.tree.VarInfo.{VarInfo}
use Rattle.typed_tree.specs.TypedTree.{TypedExpression, Lit, Var}
use Rattle.typed_tree.specs.TypedView.{expression}
use Rattle.letter_acts.specs.Frames.{Columns}
use Rattle.cond_jumps.specs.Environments.{type_in}
use Rattle.cond_jumps.specs.Frames.{column_place_in, frame_environment}
use Rattle.lowered_graph.specs.LoweredSteps.Edges.{left_if, found_from}
use Rattle.boogie_tree.specs.Apart.{nowhere}
use Rattle.icfg_lower.specs.declared.call_jumps.standing.Standing.{Standing}
use Rattle.icfg_lower.specs.declared.call_jumps.reader.Reader.{Reader}
use Rattle.icfg_lower.specs.declared.call_jumps.reader.Reader.TheVariants as readers
use Rattle.icfg_lower.specs.declared.call_jumps.written.Written.{Written}
use Rattle.icfg_lower.specs.CallJumps.Ties.Reading.{Stand, read_by}

abbrev pub stand_of : Standing → Stand
stand_of s = record { expression = expression s.expr; type = s.ty }

abbrev pub nothing : Stand
nothing = record { expression = Lit nowhere (pos 0); type = None }

abbrev pub numbered : ℕ → Ty → Stand
numbered n t = record { expression = Var nowhere (columns.Local n); type = Some t }

-- the column at a place, or nothing
abbrev pub place_stand : Option (ℕ × VarInfo) → Stand
place_stand None = nothing
place_stand (Some x) = numbered x.0 x.1.ty

abbrev pub or_nothing : Option Stand → Stand
or_nothing None = nothing
or_nothing (Some s) = s

-- the columns of a frame
abbrev pub frame_stand : Columns → Column → Stand
frame_stand frame c = place_stand (column_place_in frame c)

-- an argument of a call from a frame
abbrev pub argument_stand : Columns → TypedExpression → Stand
argument_stand frame e = record { expression = read_by (frame_stand frame) false e; type = type_in (frame_environment frame) false e }

-- a requires of a procedure that is called from a frame with these arguments
abbrev pub requires_stand : Columns → List Stand → Column → Stand
requires_stand frame args (columns.Global n) = place_stand (column_place_in frame (columns.Global n))
requires_stand frame args (columns.Old n) = place_stand (column_place_in frame (columns.Old n))
requires_stand frame args (columns.Local n) = or_nothing (slice_get args n)

-- a global in the column in which the call leaves it, or as it is
abbrev pub left_stand : Columns → ℕ → Option (ℕ × Ty) → Stand
left_stand frame n None = place_stand (column_place_in frame (columns.Global n))
left_stand frame n (Some x) = numbered x.0 x.1

-- an ensures, with what stands for its arguments and results
abbrev pub ensures_stand : Columns → (ℕ → Option (ℕ × Ty)) → List Stand → Column → Stand
ensures_stand frame left locals (columns.Global n) = left_stand frame n (left n)
ensures_stand frame left locals (columns.Old n) = place_stand (column_place_in frame (columns.Global n))
ensures_stand frame left locals (columns.Local n) = or_nothing (slice_get locals n)

-- the column of the modified global at a place: a helper, where it has one
abbrev pub left_column : ℕ → ℕ → Option ℕ → ℕ
left_column base column_place_in None = base + column_place_in
left_column base column_place_in (Some h) = h

-- the column of a result
abbrev pub result_stand : ℕ × Ty → Stand
result_stand r = numbered r.0 r.1

-- where the code finds that a call leaves a global
abbrev pub left_by : Written → ℕ → Option (ℕ × Ty)
left_by w n = left_if w.globals.now w.base n (found_from 0 w.modified.now n) (found_from w.helpers w.targeted.now n)

abbrev pub stands_of : Reader → Column → Stand
stands_of (readers.Frame f) c = frame_stand f.now.columns.items c
stands_of (readers.Requires f args) c = requires_stand f.now.columns.items (map stand_of args.now) c
stands_of (readers.Ensures f w locals) c = ensures_stand f.now.columns.items (left_by w.now) (map stand_of locals.now) c
