use Rattle.std.proofs.Common.{map, drop}
use Rattle.std.specs.List.{flat_map}
use Rattle.boogie_tree.specs.View as view
use Rattle.explain_top.specs.RunStory.Items.{specification_items}
use Rattle.explain_top.proofs.RunStory.TableLemmas.{LeadsTo}
use Rattle.explain_top.proofs.run_story.tables.specifications.Given as goal

abbrev pub invariant-loop-each : goal.invariant-loop-each
invariant-loop-each l =
    LeadsTo l.items (flat_map specification_items (map view.specification (drop l.each-index l.said))) l.fn.items (flat_map specification_items (map view.specification l.said))
