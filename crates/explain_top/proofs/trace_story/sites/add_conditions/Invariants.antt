use Rattle.std.proofs.Common.{◌≡◌, ◌++◌, map, drop}
use Rattle.typed_tree.specs.TypedView as view
use Rattle.explain_top.specs.TraceStory.Ties.PlaceSites.{condition_site}
use Rattle.explain_top.proofs.trace_story.sites.add_conditions.Given as goal

abbrev pub invariant-loop-condition : goal.invariant-loop-condition
invariant-loop-condition l = l.sites.items ++ map (condition_site l.proc) (map view.invariant (drop l.condition-index l.conditions)) ≡ l.fn.sites.items ++ map (condition_site l.proc) (map view.invariant l.conditions)
