use Rattle.std.proofs.Common.{map, drop}
use Rattle.boogie_tree.specs.View as view
use Rattle.explain_top.specs.RunStory.Items.{items}
use Rattle.explain_top.proofs.RunStory.TableLemmas.{LeadsToAll}
use Rattle.explain_top.proofs.run_story.tables.items.Given as goal

abbrev pub invariant-loop-each : goal.invariant-loop-each
invariant-loop-each l = LeadsToAll l.items (items (map view.declaration (drop l.each-index l.decls))) (items (map view.declaration l.decls))
