use Rattle.std.proofs.Common.{map, drop}
use Rattle.boogie_tree.specs.View as view
use Rattle.boogie_types.specs.Sorted.{implementations_of}
use Rattle.explain_top.proofs.RunStory.TableLemmas.{LeadsToNamed}
use Rattle.explain_top.proofs.run_story.tables.implementations.Given as goal

abbrev pub invariant-loop-each : goal.invariant-loop-each
invariant-loop-each l = LeadsToNamed l.found (implementations_of (map view.declaration (drop l.each-index l.decls))) (implementations_of (map view.declaration l.decls))
