-- What the walk asks of a statement: its numbers are those of the program, its targets stand in the frame, and the forms of what it reads fit.
use Rattle.std.specs.Prelude.{◌≡◌, ℕ, ◌+◌, ◌^◌, ◌<◌, ◌≤◌, false, Bool, length, IsSome, slice_get}
use Rattle.std.specs.List.{AllByRecursion}
use Rattle.typed_tree.specs.TypedTree.{TypedStatement, Assert, Assume, Havoc, Assign, Call, If, While, TypedBlock, Empty, Then, TypedProcedure, TypedProgram}
use Rattle.typed_tree.specs.TypingRules.Counts.{assertions, points, block_assertions, block_points, plain_invariants}
use Rattle.letter_acts.specs.Frames.{Columns}
use Rattle.boogie_run.specs.BoogiePoints.Actions.{first_assertion, first_place, free_conditions, ensured_conditions}
use Rattle.boogie_run.specs.Needs.{locals_at}
use Rattle.lowered_graph.specs.LoweredSteps.ProgramFrames.{frame_at}
use Rattle.lowered_graph.specs.Lowered.{program_sites}
use Rattle.icfg_lower.specs.ProgramLayout.Layouts.{StandsIn}
use Rattle.icfg_lower.specs.PlaceEdges.Forms.{AllFormsFit, FormsFit, GuardFits, InvariantsFit, SpecificationsFit}

-- the number is that of an assertion, where a condition is not free
abbrev pub IsAssertion : TypedProgram → Bool → ℕ → Type 0
IsAssertion t free number = free ≡ false → (0 < number) × (number ≤ length (program_sites t))

-- so many assertions from this one on, and places from this one on, are those of the program
pub record HasNumbers (t : TypedProgram) (id at assertions points : ℕ) : Type 0 where
  pub first : 0 < id
  pub last : id + assertions ≤ 1 + length (program_sites t)
  pub fits : id + assertions < 2 ^ 32
  pub places : at + points < 2 ^ 32

abbrev mutual
  -- the targets of a statement stand in the frame; a write has a value for each, and a call no more arguments than its callee has locals
  pub TargetsStand : TypedProgram → Columns → TypedStatement → Type 0
  TargetsStand t frame (Havoc at cs) = AllByRecursion (StandsIn frame) cs
  TargetsStand t frame (Assign at cs es) = AllByRecursion (StandsIn frame) cs × (length cs ≡ length es)
  TargetsStand t frame (Call at cs f es) = AllByRecursion (StandsIn frame) cs × IsSome (slice_get t.procs f) × (length es ≤ length (locals_at t f))
  TargetsStand t frame (If at g x y) = AllTargetsStand t frame x × AllTargetsStand t frame y
  TargetsStand t frame (While at g is x) = AllTargetsStand t frame x
  TargetsStand t frame s = Unit {0}

  pub AllTargetsStand : TypedProgram → Columns → TypedBlock → Type 0
  AllTargetsStand t frame Empty = Unit {0}
  AllTargetsStand t frame (Then s b) = TargetsStand t frame s × AllTargetsStand t frame b

abbrev mutual
  -- the form of each part of what a statement reads fits
  pub ReadsFit : TypedProgram → TypedStatement → Type 0
  ReadsFit t (Assert at e) = FormsFit t e
  ReadsFit t (Assume at e) = FormsFit t e
  ReadsFit t (Assign at cs es) = AllFormsFit t es
  ReadsFit t (Call at cs f es) = AllFormsFit t es
  ReadsFit t (If at g x y) = GuardFits t g × AllReadsFit t x × AllReadsFit t y
  ReadsFit t (While at g is x) = GuardFits t g × InvariantsFit t is × AllReadsFit t x
  ReadsFit t s = Unit {0}

  pub AllReadsFit : TypedProgram → TypedBlock → Type 0
  AllReadsFit t Empty = Unit {0}
  AllReadsFit t (Then s b) = ReadsFit t s × AllReadsFit t b

abbrev pub StatementFits : TypedProgram → Columns → TypedStatement → ℕ → ℕ → Type 0
StatementFits t frame s id at = HasNumbers t id at (assertions t.procs s) (points t.procs s) × TargetsStand t frame s × ReadsFit t s

abbrev pub BlockFits : TypedProgram → Columns → TypedBlock → ℕ → ℕ → Type 0
BlockFits t frame b id at = HasNumbers t id at (block_assertions t.procs b) (block_points t.procs b) × AllTargetsStand t frame b × AllReadsFit t b

-- What the walk asks of procedure n with these statements: its numbers are those of the program, its targets stand in the frame, and the forms
-- of what it reads fit.
pub record BodyFits (t : TypedProgram) (n : ℕ) (q : TypedProcedure) (whole : TypedBlock) : Type 0 where
  pub specs : SpecificationsFit t q.specs
  pub entry : first_place t n + length (free_conditions q.specs) < 2 ^ 32
  pub statements : BlockFits t (frame_at t n) whole (first_assertion t.procs n) (first_place t n + length (free_conditions q.specs))
  pub exit : HasNumbers t (first_assertion t.procs n + block_assertions t.procs whole) (first_place t n + length (free_conditions q.specs) + block_points t.procs whole)
      (plain_invariants (ensured_conditions q.specs)) (length (ensured_conditions q.specs))
