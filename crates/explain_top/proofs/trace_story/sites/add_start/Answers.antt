use Rattle.std.proofs.Common.{◌≡◌, ◌∙◌, ◌++◌, map, Option, None, Some, sym, ap, append-nil}
use Rattle.std.specs.Prelude.{slice_get}
use Rattle.typed_tree.specs.TypedTree.{TypedProcedure}
use Rattle.typed_tree.specs.TypedView as view
use Rattle.typed_tree.specs.TypingRules.TypedParts.{typed_program}
use Rattle.boogie_run.specs.BoogiePoints.Actions.{plain_conditions}
use Rattle.explain_top.specs.TraceStory.Ties.PlaceSites.{axiom_site, condition_site, start_sites}
use Rattle.explain_top.proofs.TraceStory.SiteSteps.{two_steps}
use Rattle.explain_top.proofs.trace_story.sites.add_start.Goals as goal

pub returns-in_default : goal.returns-in_default
returns-in_default c =
    let old = c.args.sites.now.items in
    let e : None ≡ slice_get (map view.procedure c.args.program.now.procs) c.args.program.now.entry = c.in_default.ensures ∙ (λ i. slice_get (map view.procedure (c.procs.ensures i)) (c.entry-entry.ensures i)) in
    sym (ap (λ (o : Option TypedProcedure). old ++ start_sites (typed_program c.args.program.now) o) (sym e) ∙ append-nil old)

pub returns : goal.returns
returns c =
    let old = c.args.sites.now.items in
    let q : TypedProcedure = view.procedure c.in-Some.begun.now in
    let e : Some q ≡ slice_get (map view.procedure c.args.program.now.procs) c.args.program.now.entry = c.in-Some.ensures ∙ (λ i. slice_get (map view.procedure (c.procs.ensures i)) (c.entry-entry.ensures i)) in
    two_steps old c.add_axioms.new.sites.items c.add_plain.new.sites.items (map (axiom_site c.entry-entry.result) (map view.expression c.axioms.result.now))
    (map (condition_site c.entry-entry.result) (plain_conditions (map view.specification c.deref.result.now))) c.in_ok-add_axioms.ensures c.in_ok-add_plain.ensures
    ∙ (λ i. old ++ (map (axiom_site (c.entry-entry.ensures i)) (map view.expression (c.axioms.ensures i)) ++ map (condition_site (c.entry-entry.ensures i)) (plain_conditions (map view.specification (c.deref.ensures.value i)))))
    ∙ ap (λ (o : Option TypedProcedure). old ++ start_sites (typed_program c.args.program.now) o) e
