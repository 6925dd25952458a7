use Rattle.std.proofs.Common.{◌≡◌, ◌∙◌, ◌-◌, ℕ, List, ap, map, length, arith}
use Rattle.std.specs.Prelude.{slice_get}
use Rattle.std.specs.Option.{option_map}
use Rattle.typed_tree.specs.declared.types.TSpec.{TSpec}
use Rattle.typed_tree.specs.TypedView as view
use Rattle.boogie_run.specs.BoogiePoints.Actions.{plain_conditions, ensured_conditions, chosen_columns}
use Rattle.boogie_run.specs.BoogiePoints.Sites.{invariant_span}
use Rattle.boogie_run.proofs.BoogiePoints.ChoiceLaws.{chosen_counted}
use Rattle.boogie_run.proofs.BoogiePoints.SiteLaws.{clause_behind}
use Rattle.boogie_run.proofs.boogie_points.sites.called_span.Goals as goal

pub returns : goal.returns
returns c =
    let q = view.procedure c.args.called.now in
    let demanded : c.demanded.result ≡ length (plain_conditions q.specs) =
    c.demanded.ensures ∙ ap (λ (ss : List TSpec). length (plain_conditions (map view.specification ss))) c.deref-2.ensures.value in
    let count : c.saturating_sub.result ≡ (c.args.part - length (plain_conditions q.specs)) - length (chosen_columns q) = omega (arith, demanded, chosen_counted q) in
    c.condition_span.ensures
    ∙ ap (option_map invariant_span)
    (c.ensured_condition.ensures
    ∙ ap (λ (ss : List TSpec). slice_get (ensured_conditions (map view.specification ss)) c.saturating_sub.result) c.deref-3.ensures.value
    ∙ ap (λ (n : ℕ). slice_get (ensured_conditions q.specs) n) count
    ∙ clause_behind q c.args.part (c.in_default.ensures ∙ ap (λ (ss : List TSpec). slice_get (plain_conditions (map view.specification ss)) c.args.part) c.deref.ensures.value))
