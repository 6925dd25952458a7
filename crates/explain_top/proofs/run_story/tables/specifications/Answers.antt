use Rattle.std.proofs.Common.{◌+◌, List, map, drop, ap}
use Rattle.std.specs.List.{flat_map}
use Rattle.boogie_tree.specs.declared.tree.Spec.{Spec}
use Rattle.boogie_tree.specs.View as view
use Rattle.explain_top.specs.RunStory.Items.{Item, specification_items}
use Rattle.explain_top.proofs.RunStory.LineLemmas.{next_split}
use Rattle.explain_top.proofs.RunStory.TableLemmas.{items_step}
use Rattle.explain_top.proofs.run_story.tables.specifications.Goals as goal

pub loop-each-preserved : goal.loop-each-preserved
loop-each-preserved c =
    let ss = c.args.said.now in
    let i = c.loop-each.each-index in
    let items : List Spec → List Item = λ (said : List Spec). flat_map specification_items (map view.specification said) in
    items_step c.loop-each.items c.specification.new.items c.args.items.now (specification_items (view.specification c.each-item.result)) (items (drop i ss)) (items (drop (i + 1) ss)) (items ss)
    (ap items (next_split ss i c.each-item.result c.loop-each-test.true c.each-item.is)) c.loop-each.invariant c.in_ok-specification.ensures
