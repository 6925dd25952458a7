use Rattle.std.proofs.Common.{◌∙◌, ap, sym}
use Rattle.explain_top.specs.RunStory.Seen.{item_of}
use Rattle.explain_top.proofs.RunStory.SourceLemmas.{axiom_stands}
use Rattle.explain_top.proofs.run_story.sources.span.Goals as goal

pub returns-in-Axiom : goal.returns-in-Axiom
returns-in-Axiom c = axiom_stands c.in-Axiom.axiom.now.span c.in-Axiom.axiom.now.kind ∙ ap (λ s. (item_of s).at) (sym c.in-Axiom.is)
