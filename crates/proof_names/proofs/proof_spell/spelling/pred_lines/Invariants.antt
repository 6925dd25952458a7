use Rattle.std.proofs.Common.{take}
use Rattle.proof_form.specs.Lines as lines
use Rattle.proof_names.specs.ProofSpell.Correspond.{Correspond}
use Rattle.proof_names.specs.ProofSpell.Spelled.{SpellsPred}
use Rattle.proof_names.proofs.proof_spell.spelling.pred_lines.Given as goal

abbrev pub invariant-loop-scoped : goal.invariant-loop-scoped
invariant-loop-scoped l = Correspond (λ line. SpellsPred l.icfg (lines.pred line)) l.lines.items (take l.scoped-index l.preds)
