-- Parts of the code as contracts see them.
use Rattle.std.specs.Prelude.{IsTrue}
use Rattle.typed_tree.specs.TypingRules.TypedParts.{typed_program}
use Rattle.typed_tree.specs.TypingRules.ValidProgram.{is_valid}
use Rattle.modular_cut.specs.declared.cutting.Part.{Part}
use Rattle.modular_cut.specs.Parts.{PlainPart}

abbrev pub plain_part : Part → PlainPart
plain_part p = record { name = p.name; program = typed_program p.program }

-- its program keeps the typing rules, and its numbers fit
abbrev pub IsValidPart : PlainPart → Type 0
IsValidPart p = IsTrue (is_valid p.program)
