use Rattle.std.proofs.Common.{take}
use Rattle.proof_form.specs.Lines as lines
use Rattle.proof_names.specs.ProofSpell.Correspond.{Correspond}
use Rattle.proof_names.specs.ProofSpell.Drafts.{plain}
use Rattle.proof_names.specs.ProofSpell.Spelled.{SpellsTriple}
use Rattle.proof_names.proofs.proof_spell.spelling.triple_lines.Given as goal

abbrev pub invariant-loop-shown : goal.invariant-loop-shown
invariant-loop-shown l = Correspond (λ line t. SpellsTriple (lines.triple line) (plain t)) l.lines.items (take l.shown-index l.triples)
