use Rattle.std.proofs.Common.{◌++◌, map, drop}
use Rattle.boogie_tree.specs.declared.tree.Column.TheVariants as columns
use Rattle.typed_tree.specs.TypingRules.TypedParts.{typed_program}
use Rattle.boogie_run.specs.RunView.{config_of}
use Rattle.explain_top.specs.RunStory.Lines.{remarked, has_notes}
use Rattle.explain_top.specs.RunStory.Notes.{held}
use Rattle.explain_top.proofs.RunStory.LineLemmas.{Leads}
use Rattle.explain_top.proofs.run_story.changes.note_globals.Given as goal

abbrev pub invariant-loop-n : goal.invariant-loop-n
invariant-loop-n l =
    let told = held (typed_program l.program) (config_of l.config) in
    Leads l.line (told (map columns.Global (drop l.n-index l.numbers))) (l.fn.line.text.items ++ remarked l.fn.line.noted (told (map columns.Global l.numbers)))
    (has_notes l.fn.line.noted (told (map columns.Global l.numbers)))
