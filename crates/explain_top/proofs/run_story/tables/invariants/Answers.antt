use Rattle.std.proofs.Common.{◌+◌, List, [], ◌∷◌, map, drop, ap}
use Rattle.std.specs.Prelude.{codes}
use Rattle.boogie_tree.specs.declared.tree.Inv.{Inv}
use Rattle.boogie_tree.specs.View as view
use Rattle.explain_top.specs.RunStory.Items.{Item, condition_item}
use Rattle.explain_top.proofs.RunStory.LineLemmas.{next_split}
use Rattle.explain_top.proofs.RunStory.TableLemmas.{items_step}
use Rattle.explain_top.proofs.run_story.tables.invariants.Goals as goal

pub loop-condition-preserved : goal.loop-condition-preserved
loop-condition-preserved c =
    let cs = c.args.conditions.now in
    let i = c.loop-condition.condition-index in
    let items : List Inv → List Item = λ (is : List Inv). map (condition_item (codes "invariant")) (map view.invariant is) in
    items_step c.loop-condition.items c.add.new.items c.args.items.now (condition_item (codes "invariant") (view.invariant c.condition-item.result) ∷ []) (items (drop i cs)) (items (drop (i + 1) cs))
    (items cs) (ap items (next_split cs i c.condition-item.result c.loop-condition-test.true c.condition-item.is)) c.loop-condition.invariant c.in_ok-add.ensures
