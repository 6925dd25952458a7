use Rattle.std.proofs.Common.{drop}
use Rattle.boogie_tree.specs.View as view
use Rattle.explain_top.specs.RunStory.Items.{block_items}
use Rattle.explain_top.proofs.RunStory.TableLemmas.{LeadsTo}
use Rattle.explain_top.proofs.run_story.tables.+statements.Given as goal

abbrev pub invariant-block-loop-each : goal.invariant-block-loop-each
invariant-block-loop-each l = LeadsTo l.items (block_items (view.statements (drop l.each-index l.statements))) l.fn.items (block_items (view.statements l.statements))
