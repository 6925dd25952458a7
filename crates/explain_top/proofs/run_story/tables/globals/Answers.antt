use Rattle.std.proofs.Common.{◌+◌, ◌∙◌, ◌++◌, List, map, drop, ap, sym, append_assoc}
use Rattle.boogie_tree.specs.declared.tree.Decl.{Decl}
use Rattle.boogie_tree.specs.View as view
use Rattle.explain_top.specs.RunStory.Items.{Item, global_item, global_items}
use Rattle.explain_top.specs.RunStory.Seen.{item_of}
use Rattle.explain_top.proofs.RunStory.LineLemmas.{next_split}
use Rattle.explain_top.proofs.run_story.tables.globals.Goals as goal

pub loop-each-preserved : goal.loop-each-preserved
loop-each-preserved c =
    let ds = c.args.decls.now in
    let i = c.loop-each.each-index in
    let old = map item_of c.loop-each.globals.items in
    let rest = global_items (map view.declaration (drop (i + 1) ds)) in
    ap (λ (is : List Item). is ++ rest) c.in_ok-add_global.ensures
    ∙ append_assoc old (global_item (view.declaration c.each-item.result)) rest
    ∙ ap (λ (es : List Decl). old ++ global_items (map view.declaration es)) (sym (next_split ds i c.each-item.result c.loop-each-test.true c.each-item.is))
    ∙ c.loop-each.invariant
