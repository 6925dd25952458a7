use Rattle.std.proofs.Common.{take}
use Rattle.proof_form.specs.Predicates as form
use Rattle.proof_names.specs.ProofSpell.Correspond.{Correspond}
use Rattle.proof_names.specs.ProofSpell.Nodes.{SpellsNode}
use Rattle.proof_names.proofs.proof_spell.predicates.node_lines.Given as goal

abbrev pub invariant-loop-node : goal.invariant-loop-node
invariant-loop-node l = Correspond (λ n. SpellsNode l.frame (form.plain_predicate_node n)) l.lines.items (take l.node-index l.nodes)
