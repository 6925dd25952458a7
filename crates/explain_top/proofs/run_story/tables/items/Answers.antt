use Rattle.std.proofs.Common.{◌+◌, List, map, drop, ap}
use Rattle.boogie_tree.specs.declared.tree.Decl.{Decl}
use Rattle.boogie_tree.specs.View as view
use Rattle.explain_top.specs.RunStory.Items.{declaration_items, items}
use Rattle.explain_top.proofs.RunStory.LineLemmas.{next_split}
use Rattle.explain_top.proofs.RunStory.TableLemmas.{all_step}
use Rattle.explain_top.proofs.run_story.tables.items.Goals as goal

pub loop-each-preserved : goal.loop-each-preserved
loop-each-preserved c =
    let ds = c.args.decls.now in
    let i = c.loop-each.each-index in
    all_step c.loop-each.items c.declaration.new.items (declaration_items (view.declaration c.each-item.result)) (items (map view.declaration (drop i ds)))
    (items (map view.declaration (drop (i + 1) ds))) (items (map view.declaration ds))
    (ap (λ (es : List Decl). items (map view.declaration es)) (next_split ds i c.each-item.result c.loop-each-test.true c.each-item.is))
    c.loop-each.invariant c.in_ok-declaration.ensures
