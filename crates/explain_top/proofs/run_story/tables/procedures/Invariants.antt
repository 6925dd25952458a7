use Rattle.std.proofs.Common.{◌≡◌, ◌++◌, map, drop}
use Rattle.boogie_tree.specs.View as view
use Rattle.boogie_types.specs.Sorted.{procedures_of}
use Rattle.explain_top.specs.RunStory.Items.{heading, headings}
use Rattle.explain_top.specs.RunStory.Tables.{heading_of}
use Rattle.explain_top.proofs.run_story.tables.procedures.Given as goal

abbrev pub invariant-loop-each : goal.invariant-loop-each
invariant-loop-each l =
    map heading_of l.found.items ++ map (heading (map view.declaration l.decls)) (procedures_of (map view.declaration (drop l.each-index l.decls))) ≡ headings (map view.declaration l.decls)
