use Rattle.std.proofs.Common.{take}
use Rattle.proof_form.specs.Lines as lines
use Rattle.proof_names.specs.Outlines.{node}
use Rattle.proof_names.specs.ProofSpell.Correspond.{Correspond}
use Rattle.proof_names.specs.ProofSpell.Spelled.{SpellsNode}
use Rattle.proof_names.proofs.proof_spell.spelling.node_lines.Given as goal

abbrev pub invariant-loop-node : goal.invariant-loop-node
invariant-loop-node l = Correspond (λ line n. SpellsNode (lines.node line) (node n)) l.lines.items (take l.node-index l.nodes)
