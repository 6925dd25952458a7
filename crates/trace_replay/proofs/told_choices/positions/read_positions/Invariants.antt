use Rattle.std.proofs.Common.{map}
use Rattle.std.specs.List.{AllByRecursion}
use Rattle.math_facts.specs.Fits.{Fits}
use Rattle.lin_rows.specs.Points.{point_of}
use Rattle.letter_acts.specs.Invariant.{alphabet_of}
use Rattle.trace_replay.specs.PathTraces.Solved.{next_positions}
use Rattle.trace_replay.specs.ToldChoices.Telling.{PositionFits}
use Rattle.trace_replay.specs.ToldChoices.Ties.Views.{plain_positions}
use Rattle.trace_replay.proofs.ToldChoices.ReadLetters.{IsRead}
use Rattle.trace_replay.proofs.told_choices.positions.read_positions.Given as goal

abbrev pub invariant-loop-i : goal.invariant-loop-i
invariant-loop-i l = record {
  read : IsRead (point_of l.point) (alphabet_of l.icfg) l.letters (map (λ v. v.items) l.versions) l.run l.i l.made (plain_positions l.found.items) (next_positions (point_of l.point) l.icfg l.letters l.run);
  fits : AllByRecursion Fits l.point → AllByRecursion PositionFits (plain_positions l.found.items);
}
