use Rattle.std.proofs.Common.{◌≡◌, ◌++◌, map, drop}
use Rattle.typed_tree.specs.TypedView as view
use Rattle.explain_top.specs.TraceStory.Ties.PlaceSites.{axiom_site}
use Rattle.explain_top.proofs.trace_story.sites.add_axioms.Given as goal

abbrev pub invariant-loop-axiom : goal.invariant-loop-axiom
invariant-loop-axiom l = l.sites.items ++ map (axiom_site l.proc) (map view.expression (drop l.axiom-index l.axioms)) ≡ l.fn.sites.items ++ map (axiom_site l.proc) (map view.expression l.axioms)
