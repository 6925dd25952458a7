use Rattle.std.proofs.Common.{List, ℕ, sym, ap, ◌∙◌, subst}
use Rattle.std.specs.Prelude.{OnOk}
use Rattle.std.proofs.lemmas.Result.{on_ok_weaker}
use Rattle.boogie_tree.specs.Tree.{Declaration}
use Rattle.typed_tree.specs.TypingRules.TypedParts.{typed_program}
use Rattle.boogie_run.specs.BoogiePoints.Told.{Told}
use Rattle.boogie_run.specs.BoogiePoints.View.{action_view}
use Rattle.boogie_run.specs.RunView.{config_of}
use Rattle.boogie_run.specs.ToldActs.{ToldFits}
use Rattle.explain_top.specs.RunStory.Lines.{Adds}
use Rattle.explain_top.specs.RunStory.Notes.{read_by, way}
use Rattle.explain_top.specs.RunStory.Seen.{item_of}
use Rattle.explain_top.specs.RunStory.Tables.{IsTable}
use Rattle.explain_top.proofs.RunStory.LineLemmas.{adds_both}
use Rattle.explain_top.proofs.run_story.reading.read_by.Goals as goal

pub returns-in_ok-clause-in-Demand : goal.returns-in_ok-clause-in-Demand
returns-in_ok-clause-in-Demand c =
    subst
    (λ (a : Told). OnOk c.readings.result ((ds : List Declaration) → IsTable ds c.args.table.now → ToldFits (typed_program c.args.program.now) (config_of c.args.config.now) a →
    Adds c.args.line.now (read_by (typed_program c.args.program.now) ds (item_of c.args.source) (config_of c.args.config.now) c.args.chosen a) c.readings.new.line))
    (sym (ap action_view c.in-Demand.is) ∙ c.happens.ensures)
    (on_ok_weaker c.readings.result
    (λ h ds is fits. adds_both c.args.line.now.text.items c.args.line.now.noted c.clause.new.line c.readings.new.line _ _ (c.in_ok-clause-in-Demand.ensures ds is) h)
    c.readings.ensures)

pub returns-in_ok-reading-in-Test : goal.returns-in_ok-reading-in-Test
returns-in_ok-reading-in-Test c =
    subst
    (λ (a : Told). OnOk c.take_way.result ((ds : List Declaration) → IsTable ds c.args.table.now → ToldFits (typed_program c.args.program.now) (config_of c.args.config.now) a →
    Adds c.args.line.now (read_by (typed_program c.args.program.now) ds (item_of c.args.source) (config_of c.args.config.now) c.args.chosen a) c.take_way.new.line))
    (sym (ap action_view c.in-Test.is) ∙ c.happens.ensures)
    (on_ok_weaker c.take_way.result
    (λ h ds is fits. adds_both c.args.line.now.text.items c.args.line.now.noted c.reading-in-Test.new.line c.take_way.new.line _ _ c.in_ok-reading-in-Test.ensures
    (subst (λ (n : ℕ). Adds c.reading-in-Test.new.line (way (item_of c.args.source) n) c.take_way.new.line) (c.tested.ensures fits) h))
    c.take_way.ensures)
