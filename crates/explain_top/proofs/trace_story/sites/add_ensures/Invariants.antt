use Rattle.std.proofs.Common.{◌≡◌, ◌++◌, map, drop}
use Rattle.typed_tree.specs.TypedView as view
use Rattle.boogie_run.specs.BoogiePoints.Actions.{ensured_conditions}
use Rattle.explain_top.specs.TraceStory.Ties.PlaceSites.{condition_site}
use Rattle.explain_top.proofs.trace_story.sites.add_ensures.Given as goal

abbrev pub invariant-loop-said : goal.invariant-loop-said
invariant-loop-said l = l.sites.items ++ map (condition_site l.proc) (ensured_conditions (map view.specification (drop l.said-index l.specs))) ≡ l.fn.sites.items ++ map (condition_site l.proc) (ensured_conditions (map view.specification l.specs))
