use Rattle.std.proofs.Common.{None, take}
use Rattle.std.specs.List.{fold}
use Rattle.fm_elim.specs.Answers.{GivesEnd}
use Rattle.fm_elim.specs.Folds.{FoldFits}
use Rattle.fm_elim.specs.Values.{lowered_end, LoweredFits}
use Rattle.fm_elim.proofs.values.upper_end.Given as goal

abbrev pub invariant-loop-row : goal.invariant-loop-row
invariant-loop-row l = record {
  value : GivesEnd (fold (lowered_end l.column l.values) None (take l.row-index l.rows)) l.best;
  fits : FoldFits (lowered_end l.column l.values) (LoweredFits l.column l.values) None (take l.row-index l.rows);
}
