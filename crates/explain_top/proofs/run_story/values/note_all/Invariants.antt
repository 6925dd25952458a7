use Rattle.std.proofs.Common.{◌++◌, drop}
use Rattle.typed_tree.specs.TypingRules.TypedParts.{typed_program}
use Rattle.boogie_run.specs.RunView.{config_of}
use Rattle.explain_top.specs.RunStory.Lines.{remarked, has_notes}
use Rattle.explain_top.specs.RunStory.Notes.{held}
use Rattle.explain_top.proofs.RunStory.LineLemmas.{Leads}
use Rattle.explain_top.proofs.run_story.values.note_all.Given as goal

abbrev pub invariant-loop-column : goal.invariant-loop-column
invariant-loop-column l =
    let told = held (typed_program l.program) (config_of l.config) in
    Leads l.line (told (drop l.column-index l.columns)) (l.fn.line.text.items ++ remarked l.fn.line.noted (told l.columns)) (has_notes l.fn.line.noted (told l.columns))
