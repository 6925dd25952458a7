-- What the conditions around the statements of a body add, and those of the start.
use Rattle.std.specs.Prelude.{◌≡◌, ℕ, ◌+◌, true, false, List, [], ◌∷◌, ◌++◌, length, Some, slice_get}
use Rattle.boogie_tree.specs.declared.span.Span.{Span}
use Rattle.typed_tree.specs.TypedTree.{TypedExpression, TypedInvariant, TypedSpecification, TypedBlock, TypedProcedure, TypedProgram}
use Rattle.typed_tree.specs.TypingRules.Counts.{block_assertions, block_points, one_if_plain, checked_at_call}
use Rattle.cond_jumps.specs.FreeProducts.FrameLetters.{path_letters}
use Rattle.boogie_run.specs.BoogiePoints.Points.{Start, Entry, Point, at_exit}
use Rattle.boogie_run.specs.BoogiePoints.Actions.{first_assertion, first_place, plain_conditions, free_conditions, ensured_conditions, start_conditions}
use Rattle.boogie_run.specs.BoogiePlaces.Places.{parts_from, located, start_points}
use Rattle.letter_acts.specs.LetterTable.Letters.{with_arc}
use Rattle.lowered_graph.specs.LoweredSteps.ProgramFrames.{frame_at}
use Rattle.lowered_graph.specs.LoweredSteps.Edges.{local_count}
use Rattle.lowered_graph.specs.Arcs.{start_arc}
use Rattle.lowered_graph.specs.Items.{path_needed, start_span}
use Rattle.lowered_graph.specs.LoweredParts.Parts.{Walked, Adds}
use Rattle.lowered_graph.specs.LoweredParts.Lists.{list_arcs}
use Rattle.lowered_graph.specs.LoweredParts.Making.{MakesItem}
use Rattle.lowered_graph.specs.LoweredParts.Items.{checked_sites, checked_arcs, checked_needed}

-- These conditions are assumed, one after another, from this place on.
abbrev pub Assumed : TypedProgram → ℕ → ℕ → List TypedInvariant → Walked → Walked → Type 0
Assumed t n at [] old new = new ≡ old
Assumed t n at (i ∷ is) old new = (mid : Walked)
    × (MakesItem i.span [] (list_arcs n at [] (path_letters (frame_at t n) (local_count t n) i.cond true) (at + 1)) (path_needed (frame_at t n) (local_count t n) i.cond true ∷ []) old mid
    × Assumed t n (at + 1) is mid new)

-- These conditions are asserted or, where they are free, assumed, one after another, from this assertion and place on.
abbrev pub Checked : TypedProgram → ℕ → ℕ → ℕ → List TypedInvariant → Walked → Walked → Type 0
Checked t n id at [] old new = new ≡ old
Checked t n id at (i ∷ is) old new = (mid : Walked)
    × (MakesItem i.span (checked_sites t i.free id i.span) (checked_arcs t n at i.free id i.cond (at + 1)) (checked_needed (frame_at t n) (local_count t n) i.free i.cond) old mid
    × Checked t n (id + one_if_plain i) (at + 1) is mid new)

-- the point before a body's free requires
abbrev pub entry_of : TypedProgram → ℕ → TypedProcedure → TypedBlock → Point
entry_of t n q whole = record {
  stage = Entry;
  todo = record { rest = whole; of_loop = false; id = first_assertion t.procs n; at = first_place t n + length (free_conditions q.specs) } ∷ [];
  part = 0;
}

-- The free requires of the procedure with these specifications are lowered: it begins at this place.
abbrev pub EntryAdds : TypedProgram → ℕ → List TypedSpecification → ℕ → Walked → Walked → Type 0
EntryAdds t n specs at old new = (q : TypedProcedure) (whole : TypedBlock) → slice_get t.procs n ≡ Some q → q.body ≡ Some whole → q.specs ≡ specs → at ≡ first_place t n →
    Adds (located n (parts_from (entry_of t n q whole) 0 (length (free_conditions q.specs)))) old new

-- The ensures of the procedure with these specifications are lowered: these are the numbers of the first assertion and place behind its statements.
abbrev pub ExitAdds : TypedProgram → ℕ → List TypedSpecification → ℕ → ℕ → Walked → Walked → Type 0
ExitAdds t n specs id at old new = (q : TypedProcedure) (whole : TypedBlock) → slice_get t.procs n ≡ Some q → q.body ≡ Some whole → q.specs ≡ specs →
    id ≡ first_assertion t.procs n + block_assertions t.procs whole → at ≡ first_place t n + length (free_conditions q.specs) + block_points t.procs whole →
    Adds (located n (parts_from at_exit 0 (length (ensured_conditions q.specs)))) old new

-- ---- the start

-- the point before the conditions of the start
abbrev pub starting : Point
starting = record { stage = Start; todo = []; part = 0 }

-- So many conditions are assumed at the start of procedure n, which begins at this place.
pub record IsStart (t : TypedProgram) (n count entry : ℕ) : Type 0 where
  pub proc : n ≡ t.entry
  pub conditions : count ≡ length t.axioms + checked_at_call (slice_get t.procs t.entry)
  pub place : entry ≡ first_place t t.entry

-- Of the conditions of the start so many are lowered, from this one on.
abbrev pub StartAdds : TypedProgram → ℕ → ℕ → Walked → Walked → Type 0
StartAdds t first count old new = (q : TypedProcedure) (whole : TypedBlock) → slice_get t.procs t.entry ≡ Some q → q.body ≡ Some whole →
    Adds (located t.entry (parts_from starting first count)) old new

-- All of them are lowered.
abbrev pub AllStart : TypedProgram → Walked → Walked → Type 0
AllStart t old new = (q : TypedProcedure) (whole : TypedBlock) → slice_get t.procs t.entry ≡ Some q → q.body ≡ Some whole → Adds (located t.entry (start_points t q)) old new

-- The condition of the start with this number, which stands there, is lowered.
abbrev pub OneStarts : TypedProgram → ℕ → TypedExpression → Span → Walked → Walked → Type 0
OneStarts t number e at old new = (q : TypedProcedure) (whole : TypedBlock) → slice_get t.procs t.entry ≡ Some q → q.body ≡ Some whole →
    slice_get (start_conditions t q) number ≡ Some e → start_span t.axioms (plain_conditions q.specs) number ≡ at →
    Adds (located t.entry (record starting { part = number } ∷ [])) old new

-- Of the requires that are assumed at the start those are lowered, from this number on, which stand first in what is left.
abbrev pub SaidStarts : TypedProgram → ℕ → List TypedInvariant → List TypedInvariant → Walked → Walked → Type 0
SaidStarts t number said rest old new = (q : TypedProcedure) (whole : TypedBlock) → slice_get t.procs t.entry ≡ Some q → q.body ≡ Some whole → (before : List TypedInvariant) →
    plain_conditions q.specs ≡ before ++ (said ++ rest) → number ≡ length t.axioms + length before →
    Adds (located t.entry (parts_from starting number (length said))) old new

-- The edge of the start is there.
abbrev pub Begins : TypedProgram → Walked → Walked → Type 0
Begins t old new = (q : TypedProcedure) (whole : TypedBlock) → slice_get t.procs t.entry ≡ Some q → q.body ≡ Some whole →
    new ≡ record old { lettered = with_arc old.lettered (start_arc t) }
