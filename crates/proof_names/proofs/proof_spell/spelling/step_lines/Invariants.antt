use Rattle.std.proofs.Common.{take}
use Rattle.proof_names.specs.ProofSpell.Correspond.{Correspond}
use Rattle.proof_names.specs.ProofSpell.Spelled.{SpellsStep}
use Rattle.proof_names.proofs.proof_spell.spelling.step_lines.Given as goal

abbrev pub invariant-loop-step : goal.invariant-loop-step
invariant-loop-step l = Correspond SpellsStep l.lines.items (take l.step-index l.steps)
