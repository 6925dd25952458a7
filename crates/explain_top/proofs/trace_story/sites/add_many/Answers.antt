use Rattle.std.proofs.Common.{◌∙◌, List, [], ◌∷◌, ◌++◌, replicate, ap, append_assoc}
use Rattle.std.proofs.lemmas.List.{replicate_more}
use Rattle.explain_top.specs.TraceStory.Ties.PlaceSites.{PlaceSite, here}
use Rattle.explain_top.proofs.trace_story.sites.add_many.Goals as goal

pub loop-i-preserved : goal.loop-i-preserved
loop-i-preserved c =
    let x : PlaceSite = here c.args.proc c.args.at in
    c.in_ok-push.ensures.items ∙ ap (λ (ss : List PlaceSite). ss ++ x ∷ []) c.loop-i.invariant
    ∙ append_assoc c.args.sites.now.items (replicate c.loop-i._i x) (x ∷ []) ∙ ap (λ (ss : List PlaceSite). c.args.sites.now.items ++ ss) (replicate_more c.loop-i._i x)
