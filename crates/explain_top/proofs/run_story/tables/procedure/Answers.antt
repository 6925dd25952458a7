use Rattle.std.proofs.Common.{◌++◌, List, Option, map, sym, subst}
use Rattle.std.specs.List.{flat_map}
use Rattle.std.proofs.lemmas.Result.{on_ok_weaker}
use Rattle.boogie_tree.specs.declared.tree.Body.{Body}
use Rattle.boogie_tree.specs.declared.tree.Spec.{Spec}
use Rattle.boogie_tree.specs.declared.tree.Stmt.{Stmt}
use Rattle.boogie_tree.specs.View as view
use Rattle.explain_top.specs.RunStory.Items.{specification_items, block_items, body_items}
use Rattle.explain_top.specs.RunStory.Tables.{AddsItems}
use Rattle.explain_top.proofs.RunStory.TableLemmas.{adds_then}
use Rattle.explain_top.proofs.run_story.tables.procedure.Goals as goal

pub returns-in-Some : goal.returns-in-Some
returns-in-Some c =
    let said = flat_map specification_items (map view.specification c.args.declared.now.specs.items) in
    on_ok_weaker c.block.result
    (λ h. subst (λ (b : Option Body). AddsItems c.args.items.now (said ++ body_items (view.body_of b)) c.block.new.items) (sym c.in-Some.is)
    (adds_then c.args.items.now c.specifications.new.items c.block.new.items said (block_items (view.statements c.in-Some.body.stmts.items))
    (subst (λ (ss : List Spec). AddsItems c.args.items.now (flat_map specification_items (map view.specification ss)) c.specifications.new.items) c.deref.ensures.value c.in_ok-specifications.ensures)
    (subst (λ (ss : List Stmt). AddsItems c.specifications.new.items (block_items (view.statements ss)) c.block.new.items) c.deref-in-Some.ensures.value h)))
    c.block.ensures
