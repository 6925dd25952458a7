-- What a typed program keeps: its shape, the typing rules, an entry with a body, and numbers of 32 bits.
use Rattle.std.specs.Prelude.{Bool, true, ◌&&◌, slice_get}
use Rattle.typed_tree.specs.TypedTree.{TypedProcedure, TypedProgram}
use Rattle.typed_tree.specs.TypingRules.Rules.{meets, keeps_typing}
use Rattle.typed_tree.specs.TypingRules.Shape.{has_shape}
use Rattle.typed_tree.specs.TypingRules.Counts.{numbers_fit}

abbrev pub has_body : TypedProcedure → Bool
has_body p = meets (λ b. true) p.body

-- the entry is a procedure with a body
abbrev pub has_entry : TypedProgram → Bool
has_entry t = meets has_body (slice_get t.procs t.entry)

-- the typing rules hold
abbrev pub is_typed : TypedProgram → Bool
is_typed t = has_shape t && (keeps_typing t && has_entry t)

-- the typing rules hold, and its numbers fit
abbrev pub is_valid : TypedProgram → Bool
is_valid t = is_typed t && numbers_fit t
