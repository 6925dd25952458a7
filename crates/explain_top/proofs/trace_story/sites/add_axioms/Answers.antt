use Rattle.std.proofs.Common.{◌≡◌, ◌∙◌, ◌+◌, List, [], ◌∷◌, ◌++◌, map, drop, length, Some, refl, sym, ap, arith, append_assoc}
use Rattle.std.specs.Prelude.{slice_get}
use Rattle.std.proofs.lemmas.Option.{slice_get_read}
use Rattle.typed_tree.specs.TypedView as view
use Rattle.typed_tree.specs.declared.types.TExpr.{TExpr}
use Rattle.explain_top.specs.TraceStory.Ties.PlaceSites.{PlaceSite, axiom_site}
use Rattle.explain_top.proofs.TraceStory.SiteSteps.{drop_here}
use Rattle.explain_top.proofs.trace_story.sites.add_axioms.Goals as goal

pub loop-axiom-preserved : goal.loop-axiom-preserved
loop-axiom-preserved c =
    let told = λ (es : List TExpr). map (axiom_site c.args.proc) (map view.expression es) in
    let old : List PlaceSite = c.loop-axiom.sites.items in
    let rest : List TExpr = drop (c.loop-axiom.axiom-index + 1) c.args.axioms.now in
    let got : slice_get c.args.axioms.now c.loop-axiom.axiom-index ≡ Some c.axiom-item.result =
    slice_get_read c.args.axioms.now (length c.args.axioms.now) c.loop-axiom.axiom-index c.axiom-item.result refl (omega (arith, c.loop-axiom-test.true)) c.axiom-item.is in
    (λ j. c.in_ok-push.ensures.items j ++ told rest) ∙ append_assoc old (c.axiom_site.result ∷ []) (told rest) ∙ (λ j. old ++ (c.axiom_site.ensures j ∷ told rest))
    ∙ ap (λ (es : List TExpr). old ++ told es) (sym (drop_here c.args.axioms.now c.loop-axiom.axiom-index c.axiom-item.result got)) ∙ c.loop-axiom.invariant
