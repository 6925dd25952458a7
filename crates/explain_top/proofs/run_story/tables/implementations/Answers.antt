use Rattle.std.proofs.Common.{◌+◌, ◌∙◌, List, [], ◌∷◌, map, drop, ap}
use Rattle.boogie_tree.specs.declared.tree.Decl.{Decl}
use Rattle.boogie_tree.specs.View as view
use Rattle.boogie_types.specs.Sorted.{implementations_of}
use Rattle.explain_top.proofs.RunStory.LineLemmas.{next_split}
use Rattle.explain_top.proofs.RunStory.TableLemmas.{named_more, implementations_split}
use Rattle.explain_top.proofs.run_story.tables.implementations.Goals as goal

pub loop-each-preserved : goal.loop-each-preserved
loop-each-preserved c =
    let ds = c.args.decls.now in
    let i = c.loop-each.each-index in
    named_more c.loop-each.found c.add_implementation.new.found (implementations_of (view.declaration c.each-item.result ∷ [])) (implementations_of (map view.declaration (drop i ds)))
    (implementations_of (map view.declaration (drop (i + 1) ds))) (implementations_of (map view.declaration ds))
    (ap (λ (es : List Decl). implementations_of (map view.declaration es)) (next_split ds i c.each-item.result c.loop-each-test.true c.each-item.is)
    ∙ implementations_split (view.declaration c.each-item.result) (map view.declaration (drop (i + 1) ds)))
    c.loop-each.invariant c.in_ok-add_implementation.ensures
