use Rattle.std.proofs.Common.{List, ℕ, subst}
use Rattle.proof_names.specs.ProofSpell.Correspond.{Correspond}
use Rattle.proof_names.specs.ProofSpell.Spelled.{WritesIndex}
use Rattle.proof_names.proofs.ProofSpell.TripleLaws.{node_spelled}
use Rattle.proof_names.proofs.proof_spell.nodes.node_line.Goals as goal

pub returns : goal.returns
returns c =
    node_spelled c.in_ok-short.field-0 c.in_ok-index.field-0 c.in_ok-pred_lines.field-0.items c.args.node.now.place c.args.node.now.entry c.args.node.now.preds.items
    c.in_ok-short.ensures c.in_ok-index.ensures
    (subst (λ (l : List ℕ). Correspond WritesIndex c.in_ok-pred_lines.field-0.items l) c.deref.ensures.value c.in_ok-pred_lines.ensures) c.requires
