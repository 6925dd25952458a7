use Rattle.std.proofs.Common.{List, ℕ, arith}
use Rattle.std.specs.Prelude.{OnOk}
use Rattle.std.proofs.Common.{subst}
use Rattle.explain_top.specs.RunStory.Lines.{Adds}
use Rattle.explain_top.proofs.RunStory.SourceLemmas.{way_there}
use Rattle.explain_top.proofs.run_story.sources.way_to.Goals as goal

pub returns : goal.returns
returns c =
    subst (λ (ns : List (List ℕ)). OnOk c.to_label.result (Adds c.args.line.now ns c.to_label.new.line))
    (way_there c.args.labels.now c.args.way c.index-labels-way.result (omega arith) c.index-labels-way.is) c.to_label.ensures
