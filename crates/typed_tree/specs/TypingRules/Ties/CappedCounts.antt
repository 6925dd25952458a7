-- Counts that stop at 2^32, the first that does not fit.
use Rattle.std.specs.Prelude.{ℕ, ◌+◌, ◌^◌, List, min}
use Rattle.typed_tree.specs.TypedTree.{TypedStatement, TypedBlock, TypedSpecification, TypedProcedure}
use Rattle.typed_tree.specs.TypingRules.Counts.{plain_requires, free_requires, plain_ensures, all_ensures, assertions, block_assertions, points, block_points}

abbrev pub capped : ℕ → ℕ
capped n = min n (2 ^ 32)

-- the places of a statement, and of a list of them: points, and one for each assertion to fail at
abbrev pub statement_places : List TypedProcedure → TypedStatement → ℕ
statement_places procs s = points procs s + assertions procs s

abbrev pub block_places : List TypedProcedure → TypedBlock → ℕ
block_places procs b = block_points procs b + block_assertions procs b

-- the places of the specifications of a procedure with a body
abbrev pub specification_places : List TypedSpecification → ℕ
specification_places ss = free_requires ss + (all_ensures ss + plain_ensures ss)

-- the requires of a procedure that a call checks
abbrev pub checked_count : TypedProcedure → ℕ
checked_count p = capped (plain_requires p.specs)
