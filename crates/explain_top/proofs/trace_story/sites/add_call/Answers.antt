use Rattle.std.proofs.Common.{◌∙◌, ℕ, ◌+◌, List, [], ◌∷◌, ◌++◌, replicate, ap, append_assoc}
use Rattle.std.proofs.lemmas.List.{replicate_more}
use Rattle.explain_top.specs.TraceStory.Ties.PlaceSites.{PlaceSite, here}
use Rattle.explain_top.proofs.trace_story.sites.add_call.Goals as goal

pub returns : goal.returns
returns c =
    let x : PlaceSite = here c.args.proc c.args.at in
    c.in_ok-push.ensures.items ∙ ap (λ (ss : List PlaceSite). ss ++ x ∷ []) c.in_ok-add_many.ensures
    ∙ append_assoc c.args.sites.now.items (replicate c.checked_at.result x) (x ∷ []) ∙ ap (λ (ss : List PlaceSite). c.args.sites.now.items ++ ss) (replicate_more c.checked_at.result x)
    ∙ ap (λ (m : ℕ). c.args.sites.now.items ++ replicate (m + 1) x) c.checked_at.ensures
