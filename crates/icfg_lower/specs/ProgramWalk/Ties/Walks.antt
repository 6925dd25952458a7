-- What the walk of a statement adds, wherever it stands in a body.
use Rattle.std.specs.Prelude.{◌≡◌, ℕ, ◌+◌, Bool, false, List, [], ◌∷◌, reverse, length, unwrap_or, Some, slice_get}
use Rattle.boogie_tree.specs.declared.span.Span.{Span}
use Rattle.typed_tree.specs.TypedTree.{TypedGuard, TypedInvariant, TypedStatement, If, While, TypedBlock, TypedProcedure, TypedProgram}
use Rattle.typed_tree.specs.TypingRules.Counts.{block_assertions, block_points, plain_invariants}
use Rattle.boogie_run.specs.BoogiePoints.Points.{Todo, at_exit, settled, past, broken, found_block}
use Rattle.boogie_run.specs.BoogiePoints.Actions.{point_behind, first_assertion, first_place, free_conditions}
use Rattle.boogie_run.specs.BoogiePlaces.Places.{at_statement, located, parts_from, points_in, points_of}
use Rattle.lowered_graph.specs.Arcs.{place_number}
use Rattle.lowered_graph.specs.LoweredParts.Parts.{Walked, Adds}

-- the place of a label, or else the exit
abbrev pub label_or_exit : List ℕ → ℕ → ℕ → ℕ
label_or_exit labels exit k = unwrap_or (slice_get labels k) exit

-- the place behind the loop that a break leaves which leaves k loops beyond the innermost, which is the last of the list; or else the exit
abbrev pub behind_loop : List ℕ → ℕ → ℕ → ℕ
behind_loop loops exit k = unwrap_or (slice_get (reverse loops) k) exit

-- The body of procedure n consists of these statements, ends at this place, and its labels lead to these.
pub record IsBody (t : TypedProgram) (n : ℕ) (q : TypedProcedure) (whole : TypedBlock) (exit : ℕ) (labels : List ℕ) : Type 0 where
  pub procedure : slice_get t.procs n ≡ Some q
  pub statements : q.body ≡ Some whole
  pub ends : exit ≡ place_number t n at_exit
  pub ways : (k : ℕ) → label_or_exit labels exit k
      ≡ place_number t n (point_behind (found_block t.procs k whole false (first_assertion t.procs n) (first_place t n + length (free_conditions q.specs)) []))

-- the places behind the loops around a block that stands over others
abbrev pub AreLoops : TypedProgram → ℕ → List ℕ → ℕ → Bool → List Todo → Type 0
AreLoops t n loops exit loop under = (r : TypedBlock) (i j k : ℕ) →
    behind_loop loops exit k ≡ place_number t n (settled (broken t.procs k (record { rest = r; of_loop = loop; id = i; at = j } ∷ under)))

-- The invariants of a loop are lowered, wherever it stands.
abbrev pub InvariantsAdd : TypedProgram → ℕ → List TypedInvariant → ℕ → ℕ → Walked → Walked → Type 0
InvariantsAdd t n is id at old new = (span : Span) (g : TypedGuard) (x b : TypedBlock) (loop : Bool) (under : List Todo) (q : TypedProcedure) (whole : TypedBlock) →
    slice_get t.procs n ≡ Some q → q.body ≡ Some whole → Adds (located n (parts_from (at_statement (While span g is x) b loop id at under) 0 (length is))) old new

-- A statement without statements in it is lowered, wherever it stands: `after` is the place behind it.
abbrev pub PlainlyAdds : TypedProgram → ℕ → ℕ → TypedStatement → ℕ → ℕ → Walked → Walked → Type 0
PlainlyAdds t n after s id at old new = (q : TypedProcedure) (whole b : TypedBlock) (loop : Bool) (under : List Todo) → slice_get t.procs n ≡ Some q → q.body ≡ Some whole →
    after ≡ place_number t n (settled (past t.procs s b loop id at ∷ under)) → Adds (located n (points_in t.procs s b loop id at under)) old new

-- Any statement is lowered, wherever it stands in its body.
abbrev pub StatementAdds : TypedProgram → ℕ → ℕ → List ℕ → List ℕ → ℕ → TypedStatement → ℕ → ℕ → Walked → Walked → Type 0
StatementAdds t n exit labels loops after s id at old new = (q : TypedProcedure) (whole b : TypedBlock) (loop : Bool) (under : List Todo) → IsBody t n q whole exit labels →
    after ≡ place_number t n (settled (past t.procs s b loop id at ∷ under)) → AreLoops t n loops exit loop under → Adds (located n (points_in t.procs s b loop id at under)) old new

-- The statements of a block are lowered: `after` is the place behind the block.
abbrev pub BlockAdds : TypedProgram → ℕ → ℕ → List ℕ → List ℕ → ℕ → TypedBlock → ℕ → ℕ → Walked → Walked → Type 0
BlockAdds t n exit labels loops after b id at old new = (q : TypedProcedure) (whole : TypedBlock) (loop : Bool) (under : List Todo) → IsBody t n q whole exit labels →
    after ≡ place_number t n (settled under) → AreLoops t n loops exit loop under → Adds (located n (points_of t.procs b loop id at under)) old new

-- The guard of an `if` is lowered, wherever it stands.
abbrev pub ForkAdds : TypedProgram → ℕ → ℕ → Span → TypedGuard → TypedBlock → TypedBlock → ℕ → ℕ → Walked → Walked → Type 0
ForkAdds t n after sp g x y id at old new = (q : TypedProcedure) (whole b : TypedBlock) (loop : Bool) (under : List Todo) → slice_get t.procs n ≡ Some q → q.body ≡ Some whole →
    after ≡ place_number t n (settled (past t.procs (If sp g x y) b loop id at ∷ under)) → Adds (located n (at_statement (If sp g x y) b loop id at under ∷ [])) old new

-- The invariants of a loop and its guard are lowered, wherever it stands.
abbrev pub HeadAdds : TypedProgram → ℕ → ℕ → Span → TypedGuard → List TypedInvariant → TypedBlock → ℕ → ℕ → Walked → Walked → Type 0
HeadAdds t n after sp g is x id at old new = (q : TypedProcedure) (whole b : TypedBlock) (loop : Bool) (under : List Todo) → slice_get t.procs n ≡ Some q → q.body ≡ Some whole →
    after ≡ place_number t n (settled (past t.procs (While sp g is x) b loop id at ∷ under)) → Adds (located n (parts_from (at_statement (While sp g is x) b loop id at under) 0 (length is + 1))) old new

-- the numbers of the second block of an `if`
pub record IsElse (procs : List TypedProcedure) (x : TypedBlock) (id at number place : ℕ) : Type 0 where
  pub assertion : number ≡ id + block_assertions procs x
  pub point : place ≡ at + 1 + block_points procs x

-- the numbers of the block of a loop
pub record IsInside (is : List TypedInvariant) (id at number place : ℕ) : Type 0 where
  pub assertion : number ≡ id + plain_invariants is
  pub point : place ≡ at + length is + 1
