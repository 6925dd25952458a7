use Rattle.std.proofs.Common.{[], ◌∷◌, Some, map, sym, ap, ◌∙◌}
use Rattle.std.proofs.lemmas.List.{map-append}
use Rattle.boogie_tree.specs.View as view
use Rattle.explained_proof.specs.BuiltExpressions.Building as spec
use Rattle.explained_proof.proofs.BuiltExpressions.Chains.{row_of-push}
use Rattle.explained_proof.proofs.BuiltExpressions.Owned.{next_all}
use Rattle.explained_proof.proofs.built_expressions.building.in_a_row.Goals as goal

pub loop-part-preserved : goal.loop-part-preserved
loop-part-preserved c =
    let op = c.args.op in
    let p = view.expression c.in-Some.part in
    record {
      whole = ap Some c.in_ok-with_part.ensures ∙ ap (λ w. Some (spec.with_operand op w p)) c.loop-part.invariant.whole ∙
          sym (row_of-push op (map view.expression c.loop-part.yielded) p) ∙ ap (spec.row_of op) (sym (map-append view.expression c.loop-part.yielded (c.in-Some.part ∷ [])));
      all = next_all c.loop-part.yielded c.in-Some.part c.next.new.self.rest.items c.loop-part.part-iterator.rest.items c.args.parts.items c.in-Some.ensures.steps.0 c.loop-part.invariant.all;
    }
