use Rattle.std.proofs.Common.{take}
use Rattle.proof_names.specs.ProofSpell.Correspond.{Correspond}
use Rattle.proof_names.specs.ProofSpell.Nodes.{SpellsTerm}
use Rattle.proof_names.proofs.proof_spell.predicates.term_lines.Given as goal

abbrev pub invariant-loop-term : goal.invariant-loop-term
invariant-loop-term l = Correspond (SpellsTerm l.frame) l.lines.items (take l.term-index l.terms)
