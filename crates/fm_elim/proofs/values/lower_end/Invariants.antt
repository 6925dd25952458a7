use Rattle.std.proofs.Common.{None, take}
use Rattle.std.specs.List.{fold}
use Rattle.fm_elim.specs.Answers.{GivesEnd}
use Rattle.fm_elim.specs.Folds.{FoldFits}
use Rattle.fm_elim.specs.Values.{raised, RaisedFits}
use Rattle.fm_elim.proofs.values.lower_end.Given as goal

abbrev pub invariant-loop-row : goal.invariant-loop-row
invariant-loop-row l = record {
  value : GivesEnd (fold (raised l.column l.values) None (take l.row-index l.rows)) l.best;
  fits : FoldFits (raised l.column l.values) (RaisedFits l.column l.values) None (take l.row-index l.rows);
}
