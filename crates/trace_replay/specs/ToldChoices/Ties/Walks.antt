-- The same kinds, read off the statements in the order of the text.
use Rattle.std.specs.Prelude.{ℕ, ◌+◌, List, [], ◌∷◌, ◌++◌, map, length, replicate, Option, None, Some, slice_get}
use Rattle.boogie_tree.specs.declared.tree.Column.{Column}
use Rattle.typed_tree.specs.TypedTree.{TypedExpression, TypedGuard, Any, Cond, TypedStatement, Assert, Assume, Havoc, Assign, Call, If, While, Break, Goto, Return, Label, TypedBlock, Empty, Then, TypedProcedure, TypedProgram}
use Rattle.letter_acts.specs.Frames.{Columns}
use Rattle.boogie_run.specs.BoogiePoints.Actions.{plain_conditions, free_conditions, ensured_conditions}
use Rattle.lowered_graph.specs.LoweredSteps.ProgramFrames.{frame_at, column_number}
use Rattle.lowered_graph.specs.LoweredSteps.Edges.{numbers_in}
use Rattle.trace_replay.specs.ToldChoices.Kinds.{PlainKind, Silent, Guesses, Picks, Enters, Imports}

abbrev pub silent : ℕ → List PlainKind
silent n = replicate n Silent

abbrev pub guess : Columns → Column → PlainKind
guess frame c = Guesses (column_number frame c)

abbrev pub guard_kind : TypedGuard → PlainKind
guard_kind Any = Picks
guard_kind (Cond e) = Silent

-- a goto of several labels picks one
abbrev pub goto_kind : List ℕ → PlainKind
goto_kind [] = Silent
goto_kind (k ∷ []) = Silent
goto_kind (k ∷ l ∷ ks) = Picks

-- a call behind its requires, by the callee's body
abbrev pub called_kind : Columns → Option TypedBlock → ℕ → List Column → List TypedExpression → PlainKind
called_kind frame None f cs es = Imports f (numbers_in frame cs)
called_kind frame (Some b) f cs es = Enters (length es)

abbrev pub call_kinds : Columns → Option TypedProcedure → ℕ → List Column → List TypedExpression → List PlainKind
call_kinds frame None f cs es = Silent ∷ []
call_kinds frame (Some q) f cs es = silent (length (plain_conditions q.specs)) ++ called_kind frame q.body f cs es ∷ []

abbrev mutual
  -- those of the points of a statement
  pub statement_kinds : List TypedProcedure → Columns → TypedStatement → List PlainKind
  statement_kinds procs frame (Havoc at cs) = map (guess frame) cs
  statement_kinds procs frame (Call at cs f es) = call_kinds frame (slice_get procs f) f cs es
  statement_kinds procs frame (If at g x y) = guard_kind g ∷ (block_kinds procs frame x ++ block_kinds procs frame y)
  statement_kinds procs frame (While at g is x) = (silent (length is) ++ guard_kind g ∷ []) ++ block_kinds procs frame x
  statement_kinds procs frame (Goto at ks) = goto_kind ks ∷ []
  statement_kinds procs frame (Label k) = []
  statement_kinds procs frame (Assert at e) = Silent ∷ []
  statement_kinds procs frame (Assume at e) = Silent ∷ []
  statement_kinds procs frame (Assign at cs es) = Silent ∷ []
  statement_kinds procs frame (Break at n) = Silent ∷ []
  statement_kinds procs frame (Return at) = Silent ∷ []

  pub block_kinds : List TypedProcedure → Columns → TypedBlock → List PlainKind
  block_kinds procs frame Empty = []
  block_kinds procs frame (Then s b) = statement_kinds procs frame s ++ block_kinds procs frame b

-- those of a procedure with this body: of its free requires, its statements, its ensures and the return
abbrev pub body_kinds : List TypedProcedure → Columns → TypedProcedure → Option TypedBlock → List PlainKind
body_kinds procs frame q None = []
body_kinds procs frame q (Some b) =
    silent (length (free_conditions q.specs)) ++ (block_kinds procs frame b ++ (silent (length (ensured_conditions q.specs)) ++ silent 1))

-- those of these procedures, the first of which has number n
abbrev pub kinds_from : TypedProgram → ℕ → List TypedProcedure → List PlainKind
kinds_from t n [] = []
kinds_from t n (q ∷ qs) = body_kinds t.procs (frame_at t n) q q.body ++ kinds_from t (n + 1) qs

abbrev pub start_kinds : TypedProgram → Option TypedProcedure → List PlainKind
start_kinds t None = []
start_kinds t (Some q) = silent (length t.axioms) ++ silent (length (plain_conditions q.specs))

abbrev pub program_kinds : TypedProgram → List PlainKind
program_kinds t = start_kinds t (slice_get t.procs t.entry) ++ kinds_from t 0 t.procs
