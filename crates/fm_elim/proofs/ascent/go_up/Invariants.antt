use Rattle.std.proofs.Common.{◌≡◌, length, map}
use Rattle.std.specs.List.{AllByRecursion}
use Rattle.frac.specs.Fractions.{IsFraction}
use Rattle.fm_elim.specs.Answers.{aside_of}
use Rattle.fm_elim.specs.Ties.Climb.{IsUp}
use Rattle.fm_elim.proofs.ascent.go_up.Given as goal

abbrev pub invariant-loop-aside : goal.invariant-loop-aside
invariant-loop-aside l = record {
  up : IsUp l.columns (map aside_of l.fn.asides.items) (map aside_of l.asides.items) l.values.items;
  values : AllByRecursion IsFraction l.values.items;
  column : l.column ≡ length l.values.items;
}

abbrev pub decreases-loop-aside : goal.decreases-loop-aside
decreases-loop-aside l = length l.asides.items
