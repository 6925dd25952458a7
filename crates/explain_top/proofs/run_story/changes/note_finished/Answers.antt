use Rattle.std.proofs.Common.{List, ℕ, map, subst, sym}
use Rattle.std.specs.Prelude.{slice_get}
use Rattle.std.proofs.lemmas.Result.{on_ok_weaker}
use Rattle.boogie_tree.specs.declared.tree.Column.TheVariants as columns
use Rattle.typed_tree.specs.TypingRules.TypedParts.{typed_program}
use Rattle.boogie_run.specs.RunView.{config_of}
use Rattle.boogie_run.specs.Steps.{modifies_of}
use Rattle.explain_top.specs.RunStory.Lines.{Adds}
use Rattle.explain_top.specs.RunStory.Notes.{held}
use Rattle.explain_top.proofs.RunStory.LineLemmas.{adds_both}
use Rattle.explain_top.proofs.RunStory.StepLemmas.{held_both}
use Rattle.explain_top.proofs.run_story.changes.note_finished.Goals as goal

pub returns : goal.returns
returns c =
    let t = typed_program c.args.program.now in
    let d = config_of c.args.config.now in
    on_ok_weaker c.note_all.result
    (λ h. subst (λ (ns : List (List ℕ)). Adds c.args.line.now ns c.note_all.new.line)
    (sym (held_both t d (map columns.Global (modifies_of (slice_get t.procs c.args.callee))) c.args.targets.now))
    (adds_both c.args.line.now.text.items c.args.line.now.noted c.note_globals.new.line c.note_all.new.line _ _
    (subst (λ (ns : List ℕ). Adds c.args.line.now (held t d (map columns.Global ns)) c.note_globals.new.line) c.modifies_at.ensures c.in_ok-note_globals.ensures) h))
    c.note_all.ensures
