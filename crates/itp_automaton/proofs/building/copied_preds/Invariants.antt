use Rattle.std.proofs.Common.{◌≡◌, take}
use Rattle.itp_automaton.proofs.building.copied_preds.Given as goal

abbrev pub invariant-loop-pred : goal.invariant-loop-pred
invariant-loop-pred l = l.copies.items ≡ take l.pred-index l.preds
