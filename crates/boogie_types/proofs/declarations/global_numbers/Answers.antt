use Rattle.std.proofs.Common.{◌∙◌, sym, ap, subst, map, List}
use Rattle.std.proofs.lemmas.Result.{IfOk-weaker, IfErr-weaker}
use Rattle.boogie_tree.specs.View as view
use Rattle.boogie_tree.specs.declared.tree.Name.{Name}
use Rattle.boogie_types.specs.BrokenNames.{second_global}
use Rattle.boogie_types.specs.Ties.Numbers.{texts, IsTwiceFault}
use Rattle.boogie_types.specs.Sorted.{global_names}
use Rattle.boogie_types.proofs.ShapeNames.{global_texts}
use Rattle.boogie_types.proofs.Refusals.{twice_refused}
use Rattle.boogie_types.proofs.declarations.global_numbers.Goals as goal

pub returns-clause-ok : goal.returns-clause-ok
returns-clause-ok c =
    let ds = map view.declaration c.args.decls.now in
    IfOk-weaker c.new.result _ _ (λ l e. e ∙ ap texts c.in_ok-names.ensures ∙ sym (global_texts ds)) c.new.ensures.ok

pub returns-clause-fault : goal.returns-clause-fault
returns-clause-fault c =
    let ds = map view.declaration c.args.decls.now in
    IfErr-weaker c.new.result _ _ (λ f h. twice_refused ds (global_names ds) second_global f (subst (λ (xs : List Name). IsTwiceFault xs f) c.in_ok-names.ensures h)) c.new.ensures.fault
