use Rattle.std.proofs.Common.{map}
use Rattle.boogie_tree.specs.View as view
use Rattle.explain_top.proofs.RunStory.TableLemmas.{headings_next}
use Rattle.explain_top.proofs.run_story.tables.procedures.Goals as goal

pub loop-each-preserved : goal.loop-each-preserved
loop-each-preserved c =
    headings_next c.args.decls.now c.loop-each.each-index c.each-item.result c.loop-each.found.items c.add_heading.new.found.items c.loop-each-test.true c.each-item.is c.loop-each.invariant
    (c.in_ok-add_heading.ensures (map view.declaration c.args.decls.now) c.in_ok-implementations.ensures)
