-- The room of a block, with its first statement and without it.
use Rattle.std.proofs.Common.{◌≡◌, ℕ, ◌+◌, ◌<◌, ◌^◌, List, subst}
use Rattle.typed_tree.specs.TypedTree.{TypedStatement, TypedBlock, Then, TypedProcedure}
use Rattle.typed_tree.specs.TypingRules.Counts.{assertions, points, block_assertions, block_points}

pub asserted : (procs : List TypedProcedure) (s : TypedStatement) (b whole : TypedBlock) (id : ℕ) → whole ≡ Then s b → id + block_assertions procs whole < 2 ^ 32 →
    id + (assertions procs s + block_assertions procs b) < 2 ^ 32
asserted procs s b whole id e h = subst (λ (x : TypedBlock). id + block_assertions procs x < 2 ^ 32) e h

pub placed : (procs : List TypedProcedure) (s : TypedStatement) (b whole : TypedBlock) (at : ℕ) → whole ≡ Then s b → at + block_points procs whole < 2 ^ 32 →
    at + (points procs s + block_points procs b) < 2 ^ 32
placed procs s b whole at e h = subst (λ (x : TypedBlock). at + block_points procs x < 2 ^ 32) e h
