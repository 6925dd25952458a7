use Rattle.int_decide.specs.Ties.Searching.{IsPaired, standing_of}
use Rattle.int_decide.specs.Ties.Alike.{ComesTo}
use Rattle.int_decide.proofs.deciding.picked.Given as goal

abbrev pub invariant-loop-goal : goal.invariant-loop-goal
invariant-loop-goal l = record {
  comes : ComesTo l.columns l.depth l.system (standing_of l.search);
  paired : IsPaired l.search;
}
