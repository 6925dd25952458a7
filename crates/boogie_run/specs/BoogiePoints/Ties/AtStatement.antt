-- What a statement tells, from its own numbers alone, and which parts of a call are followed by another part.
use Rattle.std.specs.Prelude.{ℕ, zero, suc, ◌+◌, Bool, true, false, List, [], map, take, Option, None, Some, slice_get}
use Rattle.std.specs.Option.{option_map}
use Rattle.typed_tree.specs.TypedTree.{TypedExpression, TypedStatement, Assert, Assume, Havoc, Assign, Call, If, While, Break, Goto, Return, Label, TypedBlock, TypedProcedure}
use Rattle.typed_tree.specs.TypingRules.Counts.{block_assertions, block_points, plain_invariants}
use Rattle.boogie_run.specs.BoogiePoints.Points.{Todo, Body, Point, at_exit}
use Rattle.boogie_run.specs.BoogiePoints.Actions.{Action, guarded, call_if_any, head_action, one_of, statement_action}
use Rattle.boogie_run.specs.BoogiePoints.Stacks.{without_top}
use Rattle.boogie_run.specs.BoogiePoints.Told as told
use Rattle.boogie_run.specs.BoogiePoints.Told.{Told, told as tells}

-- a point with so many parts done
abbrev pub at_part : ℕ → Point
at_part n = record { stage = Body; todo = []; part = n }

-- what is told by a condition that is assumed, or else by going on
abbrev pub supposed : Option TypedExpression → Told
supposed None = told.Jump
supposed (Some e) = told.Suppose e

-- what is told, or else by going on
abbrev pub guessed : Option Told → Told
guessed None = told.Jump
guessed (Some t) = t

-- what a statement tells, of which the assertions have numbers from this one on, and so many parts are done
abbrev pub told_of : List TypedProcedure → TypedStatement → ℕ → ℕ → Told
told_of procs (Assert at e) id part = told.Check id at e
told_of procs (Assume at e) id part = told.Suppose e
told_of procs (Havoc at cs) id part = guessed (option_map told.Guess (slice_get cs part))
told_of procs (Assign at cs es) id part = told.Write cs es
told_of procs (Call at cs f es) id part = tells (call_if_any (slice_get procs f) id f at cs es (at_part part) at_exit)
told_of procs (If at g x y) id part = tells (guarded g at_exit at_exit)
told_of procs (While at g is x) id part =
    tells (head_action (slice_get is part) (id + plain_invariants (take part is)) (at_part part) (guarded g at_exit at_exit))
told_of procs (Break at n) id part = told.Jump
told_of procs (Goto at ks) id part = tells (one_of (map (λ k. at_exit) ks))
told_of procs (Return at) id part = told.Jump
told_of procs (Label n) id part = told.Jump

-- a part of a call behind which the next part comes
abbrev pub is_item : Told → Bool
is_item (told.Demand id at e args) = true
is_item (told.Keep f args c) = true
is_item (told.Grant f args e) = true
is_item t = false

-- the action at a statement: the body is told as a block, then the statement and the rest of its block, that block, and the point
abbrev pub at_statement : List TypedProcedure → Todo → TypedStatement → TypedBlock → Todo → Point → Action
at_statement procs body s b t here = statement_action procs body.rest body.id body.at s b t.of_loop t.id t.at (without_top here.todo) here

-- the block of an if into which a way leads, with the numbers at the if
abbrev pub branch_of : List TypedProcedure → TypedBlock → TypedBlock → ℕ → ℕ → ℕ → Todo
branch_of procs x y id at zero = record { rest = x; of_loop = false; id = id; at = at + 1 }
branch_of procs x y id at (suc n) =
    record { rest = y; of_loop = false; id = id + block_assertions procs x; at = at + 1 + block_points procs x }

-- how many ways an action has in its own frame
abbrev pub way_count : Told → ℕ
way_count (told.Check id at e) = 1
way_count (told.Suppose e) = 1
way_count (told.Demand id at e args) = 1
way_count (told.Write cs es) = 1
way_count (told.Guess c) = 1
way_count (told.Test e) = 2
way_count (told.Pick n) = n
way_count told.Jump = 1
way_count (told.Enter f args) = 0
way_count (told.Keep f args c) = 1
way_count (told.Grant f args e) = 1
way_count (told.Finish f args targets) = 1
way_count told.Leave = 0
