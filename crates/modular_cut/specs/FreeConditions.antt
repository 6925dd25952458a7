-- Specifications and invariants that are assumed and never checked.
use Rattle.std.specs.Prelude.{◌≡◌, ◌<◌, ◌≤◌, ◌⊎◌, List, [], ◌∷◌, ◌++◌, flat_map, Option, None, Some, Contains, if◌then◌else◌}
use Rattle.boogie_tree.specs.declared.span.Span.{Span}
use Rattle.typed_tree.specs.TypedTree.{TypedInvariant, TypedStatement, If, While, TypedBlock, Empty, Then, TypedSpecification, Requires, Ensures, TypedProcedure, TypedProgram}

abbrev pub free_condition : TypedInvariant → List Span
free_condition i = if i.free then i.span ∷ [] else []

abbrev pub free_specification : TypedSpecification → List Span
free_specification (Requires i) = free_condition i
free_specification (Ensures i) = free_condition i

abbrev mutual
  -- of the loops of a statement
  pub free_statement : TypedStatement → List Span
  free_statement (If at g x y) = free_block x ++ free_block y
  free_statement (While at g is x) = flat_map free_condition is ++ free_block x
  free_statement s = []

  pub free_block : TypedBlock → List Span
  free_block Empty = []
  free_block (Then s b) = free_statement s ++ free_block b

abbrev pub free_body : Option TypedBlock → List Span
free_body None = []
free_body (Some b) = free_block b

abbrev pub free_procedure : TypedProcedure → List Span
free_procedure q = flat_map free_specification q.specs ++ free_body q.body

-- the places of the free requires, ensures and invariants
abbrev pub free_spans : TypedProgram → List Span
free_spans t = flat_map free_procedure t.procs

-- by line, and within a line by column
abbrev pub IsNotAfter : Span → Span → Type 0
IsNotAfter a b = (a.line < b.line) ⊎ ((a.line ≡ b.line) × (a.col ≤ b.col))

-- One of them, and none stands before it in the text. An implementation may stand behind other procedures, so it need not be the first of the tree.
pub record IsFirstFree (t : TypedProgram) (at : Span) : Type 0 where
  pub is_free : Contains (free_spans t) at
  pub first : (s : Span) → Contains (free_spans t) s → IsNotAfter at s
