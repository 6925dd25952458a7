use Rattle.std.proofs.Common.{◌≡◌, ◌++◌, replicate}
use Rattle.explain_top.specs.TraceStory.Ties.PlaceSites.{here}
use Rattle.explain_top.proofs.trace_story.sites.add_many.Given as goal

abbrev pub invariant-loop-i : goal.invariant-loop-i
invariant-loop-i l = l.sites.items ≡ l.fn.sites.items ++ replicate l._i (here l.proc l.at)
