-- The places of branches and loops, from the counts of their parts.
use Rattle.std.proofs.Common.{◌≡◌, ℕ, ◌+◌, List, length, arith}
use Rattle.boogie_tree.specs.declared.span.Span.{Span}
use Rattle.typed_tree.specs.TypedTree.{TypedGuard, TypedInvariant, TypedBlock, TypedProcedure, If, While}
use Rattle.typed_tree.specs.TypingRules.Counts.{plain_invariants}
use Rattle.typed_tree.specs.TypingRules.Ties.CappedCounts.{capped, statement_places, block_places}

pub branch_counted : (procs : List TypedProcedure) (at : Span) (g : TypedGuard) (a b : TypedBlock) (x y s u : ℕ) → x ≡ capped (block_places procs a) → y ≡ capped (block_places procs b) →
    s ≡ capped (x + y) → u ≡ capped (1 + s) → u ≡ capped (statement_places procs (If at g a b))
branch_counted procs at g a b x y s u e f h k = omega arith

pub loop_counted : (procs : List TypedProcedure) (at : Span) (g : TypedGuard) (is : List TypedInvariant) (b : TypedBlock) (n x y u : ℕ) → n ≡ length is →
    x ≡ capped (1 + (n + plain_invariants is)) → y ≡ capped (block_places procs b) → u ≡ capped (x + y) → u ≡ capped (statement_places procs (While at g is b))
loop_counted procs at g is b n x y u l e f h = omega arith
