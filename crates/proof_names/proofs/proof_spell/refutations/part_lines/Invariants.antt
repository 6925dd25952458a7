use Rattle.std.proofs.Common.{take}
use Rattle.proof_names.specs.ProofSpell.Correspond.{Correspond}
use Rattle.proof_names.specs.ProofSpell.Nodes.{SpellsPart}
use Rattle.proof_names.proofs.proof_spell.refutations.part_lines.Given as goal

abbrev pub invariant-loop-part : goal.invariant-loop-part
invariant-loop-part l = Correspond SpellsPart l.lines.items (take l.part-index l.parts)
