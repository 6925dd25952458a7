use Rattle.std.proofs.Common.{map, drop}
use Rattle.std.specs.Prelude.{codes}
use Rattle.boogie_tree.specs.View as view
use Rattle.explain_top.specs.RunStory.Items.{condition_item}
use Rattle.explain_top.proofs.RunStory.TableLemmas.{LeadsTo}
use Rattle.explain_top.proofs.run_story.tables.invariants.Given as goal

abbrev pub invariant-loop-condition : goal.invariant-loop-condition
invariant-loop-condition l =
    LeadsTo l.items (map (condition_item (codes "invariant")) (map view.invariant (drop l.condition-index l.conditions))) l.fn.items
    (map (condition_item (codes "invariant")) (map view.invariant l.conditions))
