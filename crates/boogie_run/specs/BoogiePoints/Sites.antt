-- Where in the text the item stands at which a step is made.
use Rattle.std.specs.Prelude.{ℕ, ◌-◌, List, [], ◌∷◌, ◌++◌, map, length, Option, None, Some, slice_get}
use Rattle.std.specs.Option.{option_or, option_map, option_and_then}
use Rattle.boogie_tree.specs.declared.span.Span.{Span}
use Rattle.typed_tree.specs.TypedTree.{TypedInvariant, TypedStatement, Assert, Assume, Havoc, Assign, Call, If, While, Break, Goto, Return, Label, TypedBlock, Empty, Then, TypedProcedure, TypedProgram}
use Rattle.typed_tree.specs.BrokenRules.{expression_span}
use Rattle.boogie_run.specs.BoogiePoints.Points.{Todo, Stage, Start, Entry, Body, Exit, Point}
use Rattle.boogie_run.specs.BoogiePoints.Actions.{plain_conditions, free_conditions, ensured_conditions, chosen_columns}

abbrev pub invariant_span : TypedInvariant → Span
invariant_span i = i.span

-- the axioms, which stand where their expressions do, and the plain requires of the entry
abbrev pub start_spans : TypedProgram → TypedProcedure → List Span
start_spans t q = map expression_span t.axioms ++ map invariant_span (plain_conditions q.specs)

-- a statement, of which so many parts are done: one of the invariants at the head of a loop stands for itself; a label takes no step
abbrev pub statement_span : TypedStatement → ℕ → Option Span
statement_span (Assert at e) part = Some at
statement_span (Assume at e) part = Some at
statement_span (Havoc at cs) part = Some at
statement_span (Assign at cs es) part = Some at
statement_span (Call at cs f es) part = Some at
statement_span (If at g x y) part = Some at
statement_span (While at g is x) part = option_or (option_map invariant_span (slice_get is part)) (Some at)
statement_span (Break at n) part = Some at
statement_span (Goto at ks) part = Some at
statement_span (Return at) part = Some at
statement_span (Label n) part = None

abbrev pub block_span : TypedBlock → ℕ → Option Span
block_span Empty part = None
block_span (Then s b) part = statement_span s part

abbrev pub todo_span : List Todo → ℕ → Option Span
todo_span [] part = None
todo_span (t ∷ ts) part = block_span t.rest part

abbrev pub stage_span : TypedProgram → TypedProcedure → Stage → Point → Option Span
stage_span t q Start here = slice_get (start_spans t q) here.part
stage_span t q Entry here = option_map invariant_span (slice_get (free_conditions q.specs) here.part)
stage_span t q Body here = todo_span here.todo here.part
stage_span t q Exit here = option_map invariant_span (slice_get (ensured_conditions q.specs) here.part)

-- The item at a point of procedure n; none where the procedure returns.
abbrev pub span_at : TypedProgram → ℕ → Point → Option Span
span_at t n here = option_and_then (λ q. stage_span t q here.stage here) (slice_get t.procs n)

-- of a call with so many parts done: the requires that is asserted, or the ensures of a procedure without body that is assumed
abbrev pub clause_of : TypedProcedure → ℕ → Option TypedInvariant
clause_of q part =
    option_or (slice_get (plain_conditions q.specs) part)
    (slice_get (ensured_conditions q.specs) ((part - length (plain_conditions q.specs)) - length (chosen_columns q)))

abbrev pub statement_clause : List TypedProcedure → TypedStatement → ℕ → Option Span
statement_clause procs (Call at cs f es) part = option_and_then (λ q. option_map invariant_span (clause_of q part)) (slice_get procs f)
statement_clause procs s part = None

abbrev pub block_clause : List TypedProcedure → TypedBlock → ℕ → Option Span
block_clause procs Empty part = None
block_clause procs (Then s b) part = statement_clause procs s part

abbrev pub first_clause : List TypedProcedure → List Todo → ℕ → Option Span
first_clause procs [] part = None
first_clause procs (t ∷ ts) part = block_clause procs t.rest part

-- The clause of the called procedure that a step at a call speaks of.
abbrev pub clause_at : TypedProgram → Point → Option Span
clause_at t here = first_clause t.procs here.todo here.part
