use Rattle.std.proofs.Common.{ap}
use Rattle.boogie_tree.specs.declared.span.Span.{Span}
use Rattle.explain_top.specs.TraceStory.Ties.PlaceSites.{here}
use Rattle.explain_top.proofs.TraceStory.SiteSteps.{span_seen}
use Rattle.explain_top.proofs.trace_story.sites.axiom_site.Goals as goal

pub returns : goal.returns
returns c = ap (λ (s : Span). here c.args.proc s) (span_seen c.args.expression.now.span c.args.expression.now.kind)
