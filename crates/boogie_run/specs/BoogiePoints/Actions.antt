-- What happens at a point, and where it goes on. No value is read here: this is the control flow of a program.
use Rattle.std.specs.Prelude.{ℕ, zero, suc, ◌+◌, ◌-◌, Bool, true, false, List, [], ◌∷◌, ◌++◌, map, length, take, Option, None, Some, slice_get, if◌then◌else◌}
use Rattle.boogie_tree.specs.declared.span.Span.{Span}
use Rattle.boogie_tree.specs.declared.tree.Column.{Column}
use Rattle.boogie_tree.specs.declared.tree.Column.TheVariants as columns
use Rattle.typed_tree.specs.TypedTree.{TypedExpression, TypedGuard, Any, Cond, TypedInvariant, TypedStatement, Assert, Assume, Havoc, Assign, Call, If, While, Break, Goto, Return, Label, TypedBlock, Empty, Then, TypedSpecification, Requires, Ensures, TypedProcedure, TypedProgram}
use Rattle.typed_tree.specs.TypingRules.Counts.{block_assertions, block_points, plain_invariants, body_assertions, body_points, checked_at_call}
use Rattle.boogie_run.specs.BoogiePoints.Points.{Todo, Stage, Start, Entry, Body, Exit, Point, at_exit, settled, past, broken, found_block}

pub data Action : Type 0 where
  -- the condition is asserted under this number, at this place of the text
  Check : ℕ → Span → TypedExpression → Point → Action
  -- the condition is assumed
  Suppose : TypedExpression → Point → Action
  -- a requires of a called procedure is asserted, with its parameters standing for the arguments
  Demand : ℕ → Span → TypedExpression → List TypedExpression → Point → Action
  -- the columns get the values of the expressions
  Write : List Column → List TypedExpression → Point → Action
  -- the column gets a chosen value
  Guess : Column → Point → Action
  -- one way where the condition is true, the other where it is false
  Test : TypedExpression → Point → Point → Action
  -- one of these ways, as chosen
  Pick : List Point → Action
  -- on to a point
  Jump : Point → Action
  -- a procedure with a body is entered with these arguments
  Enter : ℕ → List TypedExpression → Action
  -- of a call without body: a value is chosen for a modified global, or for a result, and kept
  Keep : ℕ → List TypedExpression → Column → Point → Action
  -- of a call without body: an ensures is assumed, over the arguments and what was chosen
  Grant : ℕ → List TypedExpression → TypedExpression → Point → Action
  -- of a call without body: what was chosen is written to the modified globals and the targets
  Finish : ℕ → List TypedExpression → List Column → Point → Action
  -- a procedure returns
  Leave : Action

-- the next part of a point
abbrev pub next_part : Point → Point
next_part p = record p { part = p.part + 1 }

-- what a guard leads to: either way, the first for 0, or by its condition
abbrev pub guarded : TypedGuard → Point → Point → Action
guarded Any hit miss = Pick (hit ∷ miss ∷ [])
guarded (Cond e) hit miss = Test e hit miss

-- a condition that is asserted, unless it is free, and then assumed
abbrev pub checked : Bool → ℕ → Span → TypedExpression → Point → Action
checked true id at e next = Suppose e next
checked false id at e next = Check id at e next

-- the conditions of requires that a call asserts
abbrev pub plain_conditions : List TypedSpecification → List TypedInvariant
plain_conditions [] = []
plain_conditions (Requires i ∷ ss) = if i.free then plain_conditions ss else i ∷ plain_conditions ss
plain_conditions (Ensures i ∷ ss) = plain_conditions ss

-- the conditions of free requires
abbrev pub free_conditions : List TypedSpecification → List TypedInvariant
free_conditions [] = []
free_conditions (Requires i ∷ ss) = if i.free then i ∷ free_conditions ss else free_conditions ss
free_conditions (Ensures i ∷ ss) = free_conditions ss

-- the conditions of ensures
abbrev pub ensured_conditions : List TypedSpecification → List TypedInvariant
ensured_conditions [] = []
ensured_conditions (Requires i ∷ ss) = ensured_conditions ss
ensured_conditions (Ensures i ∷ ss) = i ∷ ensured_conditions ss

-- the columns that a call without body chooses: the modified globals, and then the results as locals of the callee
abbrev pub results_from : ℕ → ℕ → List Column
results_from n zero = []
results_from n (suc k) = columns.Local n ∷ results_from (n + 1) k

abbrev pub chosen_columns : TypedProcedure → List Column
chosen_columns q = map columns.Global q.modifies ++ results_from q.params q.results

-- A call of a procedure without body, behind its requires: first the choice, then the ensures, that is told, and else the writing.
abbrev pub unseen_action : Option Column → Option TypedInvariant → ℕ → List Column → List TypedExpression → Point → Point → Action
unseen_action (Some c) i f targets args here next = Keep f args c (next_part here)
unseen_action None (Some i) f targets args here next = Grant f args i.cond (next_part here)
unseen_action None None f targets args here next = Finish f args targets next

-- a call behind its requires, with so many further parts done
abbrev pub called_action : ℕ → TypedProcedure → Option TypedBlock → List Column → List TypedExpression → ℕ → Point → Point → Action
called_action f q None targets args done here next =
    unseen_action (slice_get (chosen_columns q) done) (slice_get (ensured_conditions q.specs) (done - length (chosen_columns q))) f targets args here next
called_action f q (Some b) targets args done here next = Enter f args

-- a call: each plain requires, and then the call itself
abbrev pub call_action : Option TypedInvariant → ℕ → ℕ → TypedProcedure → Span → List Column → List TypedExpression → ℕ → Point → Point → Action
call_action (Some i) id f q at targets args done here next = Demand id at i.cond args (next_part here)
call_action None id f q at targets args done here next = called_action f q q.body targets args done here next

abbrev pub call_if_any : Option TypedProcedure → ℕ → ℕ → Span → List Column → List TypedExpression → Point → Point → Action
call_if_any None id f at targets args here next = Jump next
call_if_any (Some q) id f at targets args here next =
    call_action (slice_get (plain_conditions q.specs) here.part) (id + here.part) f q at targets args
    (here.part - length (plain_conditions q.specs)) here next

-- the head of a loop: each invariant, and then the guard
abbrev pub head_action : Option TypedInvariant → ℕ → Point → Action → Action
head_action (Some i) id here guard = checked i.free id i.span i.cond (next_part here)
head_action None id here guard = guard

abbrev pub point_behind : Option (List Todo) → Point
point_behind None = at_exit
point_behind (Some todo) = settled todo

-- one variable of a havoc; the next one, where there is one
abbrev pub havoc_action : Option Column → Option Column → Point → Point → Action
havoc_action None more here after = Jump after
havoc_action (Some c) None here after = Guess c after
havoc_action (Some c) (Some d) here after = Guess c (next_part here)

-- a way to each label
abbrev pub ways_to : List TypedProcedure → TypedBlock → ℕ → ℕ → List ℕ → List Point
ways_to procs body id at [] = []
ways_to procs body id at (k ∷ ks) = point_behind (found_block procs k body false id at []) ∷ ways_to procs body id at ks

-- one of several ways, or the only one
abbrev pub one_of : List Point → Action
one_of [] = Jump at_exit
one_of (p ∷ []) = Jump p
one_of (p ∷ q ∷ ps) = Pick (p ∷ q ∷ ps)

-- What a statement does. Told are the procedures, the body with the numbers of its first assertion and place, the statement and the
-- rest of its block, the numbers at the statement, the blocks under this one, and the parts that are done.
abbrev pub statement_action : List TypedProcedure → TypedBlock → ℕ → ℕ → TypedStatement → TypedBlock → Bool → ℕ → ℕ → List Todo → Point → Action
statement_action procs body first start (Assert at e) b loop id place under here = Check id at e (settled (past procs (Assert at e) b loop id place ∷ under))
statement_action procs body first start (Assume at e) b loop id place under here = Suppose e (settled (past procs (Assume at e) b loop id place ∷ under))
statement_action procs body first start (Havoc at cs) b loop id place under here =
    havoc_action (slice_get cs here.part) (slice_get cs (here.part + 1)) here (settled (past procs (Havoc at cs) b loop id place ∷ under))
statement_action procs body first start (Assign at cs es) b loop id place under here = Write cs es (settled (past procs (Assign at cs es) b loop id place ∷ under))
statement_action procs body first start (Call at cs f es) b loop id place under here =
    call_if_any (slice_get procs f) id f at cs es here (settled (past procs (Call at cs f es) b loop id place ∷ under))
statement_action procs body first start (If at g x y) b loop id place under here =
    let after : List Todo = past procs (If at g x y) b loop id place ∷ under in
    guarded g (settled (record { rest = x; of_loop = false; id = id; at = place + 1 } ∷ after))
    (settled (record { rest = y; of_loop = false; id = id + block_assertions procs x; at = place + 1 + block_points procs x } ∷ after))
statement_action procs body first start (While at g is x) b loop id place under here =
    head_action (slice_get is here.part) (id + plain_invariants (take here.part is)) here
    (guarded g
    (settled (record { rest = x; of_loop = true; id = id + plain_invariants is; at = place + length is + 1 } ∷ here.todo))
    (settled (past procs (While at g is x) b loop id place ∷ under)))
statement_action procs body first start (Break at n) b loop id place under here = Jump (settled (broken procs n here.todo))
statement_action procs body first start (Goto at ks) b loop id place under here = one_of (ways_to procs body first start ks)
statement_action procs body first start (Return at) b loop id place under here = Jump at_exit
statement_action procs body first start (Label n) b loop id place under here = Jump (settled (past procs (Label n) b loop id place ∷ under))

-- at the first statement that is still to do
abbrev pub block_action : List TypedProcedure → TypedBlock → ℕ → ℕ → TypedBlock → Bool → ℕ → ℕ → List Todo → Point → Action
block_action procs body first start Empty loop id place under here = Jump at_exit
block_action procs body first start (Then s b) loop id place under here = statement_action procs body first start s b loop id place under here

abbrev pub body_action : List TypedProcedure → TypedBlock → ℕ → ℕ → List Todo → Point → Action
body_action procs body first start [] here = Jump at_exit
body_action procs body first start (t ∷ ts) here = block_action procs body first start t.rest t.of_loop t.id t.at ts here

-- ---- stages

abbrev pub entry_point : List TypedInvariant → Todo → Point
entry_point [] body = settled (body ∷ [])
entry_point (i ∷ is) body = record { stage = Entry; todo = body ∷ []; part = 0 }

-- the first point of a body: its free requires, or its first statement where there are none
abbrev pub first_point : TypedProcedure → TypedBlock → ℕ → ℕ → Point
first_point q b first start = entry_point (free_conditions q.specs) (record { rest = b; of_loop = false; id = first; at = start + length (free_conditions q.specs) })

-- the free requires, in order; behind the last the statements
abbrev pub entry_action : Option TypedInvariant → Option TypedInvariant → Point → Action
entry_action None more here = Jump (settled here.todo)
entry_action (Some i) None here = Suppose i.cond (settled here.todo)
entry_action (Some i) (Some j) here = Suppose i.cond (next_part here)

-- the number of the assertion of an ensures: those that are plain are numbered on behind the statements
abbrev pub exit_action : Option TypedInvariant → ℕ → Point → Action
exit_action None id here = Leave
exit_action (Some i) id here = checked i.free id i.span i.cond (next_part here)

-- the conditions that are assumed at the start of a run: the axioms and the plain requires of the entry
abbrev pub start_conditions : TypedProgram → TypedProcedure → List TypedExpression
start_conditions t q = t.axioms ++ map (λ i. i.cond) (plain_conditions q.specs)

abbrev pub start_action : Option TypedExpression → Option TypedExpression → Point → Point → Action
start_action None more here first = Jump first
start_action (Some e) None here first = Suppose e first
start_action (Some e) (Some d) here first = Suppose e (next_part here)

-- ---- the numbers of assertions and places

-- of the procedures before number n
abbrev pub assertions_before : List TypedProcedure → List TypedProcedure → ℕ → ℕ
assertions_before procs [] n = 0
assertions_before procs (p ∷ ps) zero = 0
assertions_before procs (p ∷ ps) (suc n) = body_assertions procs p.specs p.body + assertions_before procs ps n

abbrev pub points_before : List TypedProcedure → List TypedProcedure → ℕ → ℕ
points_before procs [] n = 0
points_before procs (p ∷ ps) zero = 0
points_before procs (p ∷ ps) (suc n) = body_points procs p.specs p.body + points_before procs ps n

-- the number of the first assertion of a procedure; they count from 1
abbrev pub first_assertion : List TypedProcedure → ℕ → ℕ
first_assertion procs n = 1 + assertions_before procs procs n

-- the number of the first place of a procedure: behind the start, the axioms and the plain requires of the entry
abbrev pub first_place : TypedProgram → ℕ → ℕ
first_place t n = 1 + (length t.axioms + (checked_at_call (slice_get t.procs t.entry) + points_before t.procs t.procs n))

-- ---- the action at a point of a procedure

abbrev pub stage_action : TypedProgram → ℕ → TypedProcedure → TypedBlock → Stage → Point → Action
stage_action t n q b Start here =
    start_action (slice_get (start_conditions t q) here.part) (slice_get (start_conditions t q) (here.part + 1)) here
    (first_point q b (first_assertion t.procs n) (first_place t n))
stage_action t n q b Entry here =
    entry_action (slice_get (free_conditions q.specs) here.part) (slice_get (free_conditions q.specs) (here.part + 1)) here
stage_action t n q b Body here =
    body_action t.procs b (first_assertion t.procs n) (first_place t n + length (free_conditions q.specs)) here.todo here
stage_action t n q b Exit here =
    exit_action (slice_get (ensured_conditions q.specs) here.part)
    (first_assertion t.procs n + (block_assertions t.procs b + plain_invariants (take here.part (ensured_conditions q.specs)))) here

abbrev pub body_or_leave : TypedProgram → ℕ → TypedProcedure → Option TypedBlock → Point → Action
body_or_leave t n q None here = Leave
body_or_leave t n q (Some b) here = stage_action t n q b here.stage here

abbrev pub procedure_action : TypedProgram → ℕ → Option TypedProcedure → Point → Action
procedure_action t n None here = Leave
procedure_action t n (Some q) here = body_or_leave t n q q.body here

-- the action at a point of procedure n
abbrev pub action_at : TypedProgram → ℕ → Point → Action
action_at t n here = procedure_action t n (slice_get t.procs n) here
