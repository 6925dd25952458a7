-- Where the numbers of each procedure begin, from one procedure to the next.
use Rattle.std.specs.Prelude.{◌≡◌, ℕ, ◌+◌, ◌<◌, ◌^◌, false, List, [], ◌∷◌, length, Option, None, Some, slice_get}
use Rattle.typed_tree.specs.TypedTree.{TypedBlock, TypedProcedure, TypedProgram}
use Rattle.typed_tree.specs.TypingRules.Counts.{block_assertions, block_points, plain_ensures, body_assertions, body_points, checked_at_call}
use Rattle.boogie_run.specs.declared.boogie_points.numbers.First.{First}
use Rattle.boogie_run.specs.BoogiePoints.Points.{Todo}
use Rattle.boogie_run.specs.BoogiePoints.Actions.{free_conditions, first_assertion, first_place}

-- the numbers of the first assertion, of the place behind the free requires, and of the first ensures that is asserted
abbrev pub first_numbers : List TypedProcedure → ℕ → ℕ → TypedProcedure → Option TypedBlock → First
first_numbers procs id at q None = record { id = id; at = at; at_exit = id }
first_numbers procs id at q (Some b) = record { id = id; at = at + length (free_conditions q.specs); at_exit = id + block_assertions procs b }

-- those of the procedures of a list, the first of which has these first numbers
abbrev pub numbered : List TypedProcedure → ℕ → ℕ → List TypedProcedure → List First
numbered procs id at [] = []
numbered procs id at (p ∷ ps) =
    first_numbers procs id at p p.body ∷ numbered procs (id + body_assertions procs p.specs p.body) (at + body_points procs p.specs p.body) ps

-- those of a program
abbrev pub numbers_of : TypedProgram → List First
numbers_of t = numbered t.procs 1 (1 + (length t.axioms + checked_at_call (slice_get t.procs t.entry))) t.procs

-- the body of a procedure as a block still to do
abbrev pub body_block : TypedProgram → ℕ → TypedProcedure → Option TypedBlock → Option Todo
body_block t n q None = None
body_block t n q (Some b) =
    Some (record { rest = b; of_loop = false; id = first_assertion t.procs n; at = first_place t n + length (free_conditions q.specs) })

abbrev pub block_of : TypedProgram → ℕ → Option TypedProcedure → Option Todo
block_of t n None = None
block_of t n (Some q) = body_block t n q q.body

-- the numbers of a procedure with a body, with the room that is left behind them; None is for one without body
abbrev pub IsFirstOf : TypedProgram → ℕ → TypedProcedure → Option TypedBlock → Option First → Type 0
IsFirstOf t n q None None = Unit {0}
IsFirstOf t n q None (Some f) = ⊥
IsFirstOf t n q (Some b) None = ⊥
IsFirstOf t n q (Some b) (Some f) =
    (f ≡ first_numbers t.procs (first_assertion t.procs n) (first_place t n) q (Some b))
    × (first_assertion t.procs n + (block_assertions t.procs b + plain_ensures q.specs) < 2 ^ 32)
    × (first_place t n + (length (free_conditions q.specs) + block_points t.procs b) < 2 ^ 32)

abbrev pub IsFirst : TypedProgram → ℕ → Option TypedProcedure → Option First → Type 0
IsFirst t n None None = Unit {0}
IsFirst t n None (Some f) = ⊥
IsFirst t n (Some q) o = IsFirstOf t n q q.body o
