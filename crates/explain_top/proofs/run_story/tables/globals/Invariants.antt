use Rattle.std.proofs.Common.{◌≡◌, ◌++◌, map, drop}
use Rattle.boogie_tree.specs.View as view
use Rattle.explain_top.specs.RunStory.Items.{global_items}
use Rattle.explain_top.specs.RunStory.Seen.{item_of}
use Rattle.explain_top.proofs.run_story.tables.globals.Given as goal

abbrev pub invariant-loop-each : goal.invariant-loop-each
invariant-loop-each l = map item_of l.globals.items ++ global_items (map view.declaration (drop l.each-index l.decls)) ≡ global_items (map view.declaration l.decls)
