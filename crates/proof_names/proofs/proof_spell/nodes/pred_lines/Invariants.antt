use Rattle.std.proofs.Common.{take}
use Rattle.proof_names.specs.ProofSpell.Correspond.{Correspond}
use Rattle.proof_names.specs.ProofSpell.Spelled.{WritesIndex}
use Rattle.proof_names.proofs.proof_spell.nodes.pred_lines.Given as goal

abbrev pub invariant-loop-pred : goal.invariant-loop-pred
invariant-loop-pred l = Correspond WritesIndex l.lines.items (take l.pred-index l.preds)
