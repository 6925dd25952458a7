use Rattle.std.proofs.Common.{take}
use Rattle.farkas_check.specs.Nodes.{plain}
use Rattle.proof_form.specs.Refutations as form
use Rattle.proof_names.specs.ProofSpell.Correspond.{Correspond}
use Rattle.proof_names.specs.ProofSpell.Nodes.{SpellsBranch}
use Rattle.proof_names.proofs.proof_spell.refutations.node_lines.Given as goal

abbrev pub invariant-loop-node : goal.invariant-loop-node
invariant-loop-node l = Correspond (λ n m. SpellsBranch (form.plain_refutation_node n) (plain m)) l.lines.items (take l.node-index l.nodes)
