use Rattle.std.proofs.Common.{pos, take}
use Rattle.std.specs.List.{fold}
use Rattle.fm_elim.specs.Answers.{Gives}
use Rattle.fm_elim.specs.Quotients.{whole}
use Rattle.fm_elim.specs.Folds.{FoldFits}
use Rattle.fm_elim.specs.Values.{with_term, WithTermFits}
use Rattle.fm_elim.proofs.values.sum_of.Given as goal

abbrev pub invariant-loop-term : goal.invariant-loop-term
invariant-loop-term l = record {
  value : Gives (fold (with_term l.column l.values) (whole (pos 0)) (take l.term-index l.terms)) l.sum;
  fits : FoldFits (with_term l.column l.values) (WithTermFits l.column l.values) (whole (pos 0)) (take l.term-index l.terms);
}
