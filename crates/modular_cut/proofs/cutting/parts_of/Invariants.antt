use Rattle.std.proofs.Common.{◌≡◌, ◌++◌, map, drop}
use Rattle.std.specs.List.{AllByRecursion}
use Rattle.typed_tree.specs.TypingRules.TypedParts.{typed_program}
use Rattle.modular_cut.specs.Parts as spec
use Rattle.modular_cut.specs.View.{plain_part, IsValidPart}
use Rattle.modular_cut.proofs.cutting.parts_of.Given as goal

abbrev pub invariant-loop-number : goal.invariant-loop-number
invariant-loop-number l = record {
  so_far : map plain_part l.parts.items ++ spec.parts_from_number (typed_program l.program) l.number (drop l.number (typed_program l.program).procs) ≡ spec.parts_of (typed_program l.program);
  valid : AllByRecursion IsValidPart (map plain_part l.parts.items);
}
