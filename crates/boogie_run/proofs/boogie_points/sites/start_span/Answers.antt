use Rattle.std.proofs.Common.{◌∙◌, ◌++◌, List, ap, map}
use Rattle.std.specs.Prelude.{slice_get}
use Rattle.std.specs.Option.{option_map}
use Rattle.typed_tree.specs.declared.types.TExpr.{TExpr}
use Rattle.typed_tree.specs.BrokenRules.{expression_span}
use Rattle.typed_tree.specs.TypedView as view
use Rattle.boogie_run.specs.BoogiePoints.Actions.{plain_conditions}
use Rattle.boogie_run.specs.BoogiePoints.Sites.{invariant_span}
use Rattle.boogie_run.proofs.BoogiePoints.SiteLaws.{axiom_span, condition_behind}
use Rattle.boogie_run.proofs.boogie_points.sites.start_span.Goals as goal

pub returns-in-Some : goal.returns-in-Some
returns-in-Some c =
    let clauses = map invariant_span (plain_conditions (map view.specification c.args.specs.now)) in
    axiom_span c.axioms-axioms.result.now clauses c.args.number c.in-Some.axiom.now c.in-Some.ensures.lookup.3.0 c.in-Some.ensures.lookup.1
    ∙ ap (λ (es : List TExpr). slice_get (map expression_span (map view.expression es) ++ clauses) c.args.number) c.axioms-axioms.ensures

pub returns : goal.returns
returns c =
    let conditions = plain_conditions (map view.specification c.args.specs.now) in
    c.condition_span.ensures
    ∙ ap (option_map invariant_span) c.plain_condition.ensures
    ∙ condition_behind c.axioms-axioms.result.now conditions c.args.number c.in_default.ensures.lookup.3
    ∙ ap (λ (es : List TExpr). slice_get (map expression_span (map view.expression es) ++ map invariant_span conditions) c.args.number) c.axioms-axioms.ensures
