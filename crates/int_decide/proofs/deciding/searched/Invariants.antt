use Rattle.int_decide.specs.Ties.Searching.{HasCome, IsPaired, standing_of, steps_left}
use Rattle.int_decide.proofs.deciding.searched.Given as goal

abbrev pub invariant-loop-search : goal.invariant-loop-search
invariant-loop-search l = record {
  come : HasCome l.columns l.depth l.system (standing_of l.search);
  paired : IsPaired l.search;
}

abbrev pub decreases-loop-search : goal.decreases-loop-search
decreases-loop-search l = steps_left (standing_of l.search).tasks
