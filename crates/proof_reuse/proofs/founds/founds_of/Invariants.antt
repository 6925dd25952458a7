use Rattle.std.proofs.Common.{map, take}
use Rattle.proof_form.specs.Lines as form
use Rattle.proof_reuse.specs.Ties.Numbers.{AreFound}
use Rattle.proof_reuse.proofs.founds.founds_of.Given as goal

abbrev pub invariant-loop-line : goal.invariant-loop-line
invariant-loop-line l = AreFound l.icfg (map form.pred (take l.line-index l.lines)) l.founds.preds.items l.founds.numbers.items
