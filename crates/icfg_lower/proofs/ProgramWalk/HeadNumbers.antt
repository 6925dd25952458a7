-- The numbers of a loop's invariants and of its block are within those of the loop.
use Rattle.std.proofs.Common.{◌≡◌, ℕ, ◌+◌, ◌^◌, ◌<◌, ◌≤◌, List, length, arith}
use Rattle.boogie_tree.specs.declared.span.Span.{Span}
use Rattle.letter_acts.specs.Frames.{Columns}
use Rattle.typed_tree.specs.TypedTree.{TypedGuard, TypedInvariant, TypedBlock, TypedProgram, While}
use Rattle.typed_tree.specs.TypingRules.Counts.{plain_invariants, block_assertions, block_points}
use Rattle.lowered_graph.specs.Lowered.{program_sites}
use Rattle.icfg_lower.specs.ProgramWalk.Ties.Bounds.{HasNumbers, StatementFits, BlockFits}

-- the numbers of the invariants
pub invariants_fit : (t : TypedProgram) (frame : Columns) (at : Span) (g : TypedGuard) (is : List TypedInvariant) (b : TypedBlock) (id place len : ℕ) →
    StatementFits t frame (While at g is b) id place → len ≡ length is → HasNumbers t id place (plain_invariants is) len
invariants_fit t frame at g is b id place len h e =
    let last : id + (plain_invariants is + block_assertions t.procs b) ≤ 1 + length (program_sites t) = h.0.last in
    let fits : id + (plain_invariants is + block_assertions t.procs b) < 2 ^ 32 = h.0.fits in
    let places : place + (length is + (1 + block_points t.procs b)) < 2 ^ 32 = h.0.places in
    record { first = h.0.first; last = omega arith; fits = omega arith; places = omega arith }

-- the numbers of the block
pub inner_fits : (t : TypedProgram) (frame : Columns) (at : Span) (g : TypedGuard) (is : List TypedInvariant) (b : TypedBlock) (id place len number : ℕ) →
    StatementFits t frame (While at g is b) id place → len ≡ length is → number ≡ id + plain_invariants is → BlockFits t frame b number (place + len + 1)
inner_fits t frame at g is b id place len number h e n =
    let first : 0 < id = h.0.first in
    let last : id + (plain_invariants is + block_assertions t.procs b) ≤ 1 + length (program_sites t) = h.0.last in
    let fits : id + (plain_invariants is + block_assertions t.procs b) < 2 ^ 32 = h.0.fits in
    let places : place + (length is + (1 + block_points t.procs b)) < 2 ^ 32 = h.0.places in
    (record { first = omega arith; last = omega arith; fits = omega arith; places = omega arith }, h.1, h.2.2)

-- the places up to that of the block
pub before_inner : (t : TypedProgram) (frame : Columns) (at : Span) (g : TypedGuard) (is : List TypedInvariant) (b : TypedBlock) (id place len : ℕ) →
    StatementFits t frame (While at g is b) id place → len ≡ length is → place + len + 1 < 2 ^ 32
before_inner t frame at g is b id place len h e =
    let places : place + (length is + (1 + block_points t.procs b)) < 2 ^ 32 = h.0.places in
    omega arith
