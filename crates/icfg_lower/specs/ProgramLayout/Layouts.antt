-- The layout of a program: the frames of its procedures, and where their numbers begin.
use Rattle.std.specs.Prelude.{◌≡◌, ℕ, ◌+◌, List, [], ◌∷◌, ◌++◌, map, length, Option, None, Some, IsSome, IsTrue, slice_get}
use Rattle.boogie_tree.specs.declared.tree.Column.{Column}
use Rattle.boogie_tree.specs.declared.tree.Column.TheVariants as columns
use Rattle.boogie_tree.specs.declared.tree.VarInfo.{VarInfo}
use Rattle.cond_jumps.specs.Frames.{column_place_in}
use Rattle.typed_tree.specs.TypedTree.{TypedBlock, TypedProcedure, TypedProgram}
use Rattle.typed_tree.specs.TypingRules.Counts.{block_assertions, block_points, body_assertions, body_points, checked_at_call, plain_ensures}
use Rattle.typed_tree.specs.TypingRules.ValidProgram.{is_valid}
use Rattle.letter_acts.specs.Frames.{Columns, globals_from, old_columns, locals_from}
use Rattle.boogie_run.specs.BoogiePoints.Actions.{free_conditions, ensured_conditions, first_assertion, first_place}
use Rattle.lowered_graph.specs.LoweredSteps.ProgramFrames.{frame_at}
use Rattle.lowered_graph.specs.LoweredSteps.Edges.{columns_before_locals}
use Rattle.lowered_graph.specs.Arcs.{first_error}
use Rattle.lowered_graph.specs.Lowered.{counted_procs, program_sites}
use Rattle.icfg_lower.specs.declared.program_layout.marks.Marks.{Marks}

-- the frame of a procedure with these locals: constants and globals, the old values of those that vary, and the locals
abbrev pub frame_with : List VarInfo → List VarInfo → Columns
frame_with globals locals = globals_from 0 globals ++ (old_columns 0 globals ++ locals_from 0 locals)

-- the numbers of a procedure, with its first assertion and place
abbrev pub marks_with : List TypedProcedure → TypedProcedure → ℕ → ℕ → Option TypedBlock → Marks
marks_with procs q first entry None =
    record { first = first; entry = entry; body = entry; behind = first; exit = entry; returns = entry; end = entry; last = first }
marks_with procs q first entry (Some b) =
    let body : ℕ = entry + length (free_conditions q.specs) in
    let exit : ℕ = body + block_points procs b in
    let returns : ℕ = exit + length (ensured_conditions q.specs) in
    record {
      first = first;
      entry = entry;
      body = body;
      behind = first + block_assertions procs b;
      exit = exit;
      returns = returns;
      end = returns + 1;
      last = first + block_assertions procs b + plain_ensures q.specs;
    }

-- those of procedures that follow one another, the first of which has these first numbers
abbrev pub marks_from : List TypedProcedure → ℕ → ℕ → List TypedProcedure → List Marks
marks_from procs first entry [] = []
marks_from procs first entry (q ∷ qs) =
    marks_with procs q first entry q.body
    ∷ marks_from procs (first + body_assertions procs q.specs q.body) (entry + body_points procs q.specs q.body) qs

-- those of procedure n
abbrev pub marks_of : TypedProgram → ℕ × TypedProcedure → Marks
marks_of t q = marks_with t.procs q.1 (first_assertion t.procs q.0) (first_place t q.0) q.1.body

-- what the layout of a typed program holds
pub record IsLayout (t : TypedProgram) (frames : List Columns) (marks : List Marks) (before_locals start_conditions error assertions : ℕ) : Type 0 where
  pub valid : IsTrue (is_valid t)
  pub frames_are : frames ≡ map (λ q. frame_at t q.0) (counted_procs 0 t.procs)
  pub marks_are : marks ≡ map (marks_of t) (counted_procs 0 t.procs)
  pub before : before_locals ≡ columns_before_locals t
  pub starts : start_conditions ≡ length t.axioms + checked_at_call (slice_get t.procs t.entry)
  pub errors : error ≡ first_error t
  pub count : assertions ≡ length (program_sites t)

-- a column of the frame that is no old one
abbrev pub StandsIn : Columns → Column → Type 0
StandsIn frame (columns.Global n) = IsSome (column_place_in frame (columns.Global n))
StandsIn frame (columns.Old n) = ⊥
StandsIn frame (columns.Local n) = IsSome (column_place_in frame (columns.Local n))
