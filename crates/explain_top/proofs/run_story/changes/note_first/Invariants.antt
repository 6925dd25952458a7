use Rattle.std.proofs.Common.{◌++◌, ◌-◌}
use Rattle.typed_tree.specs.TypingRules.TypedParts.{typed_program}
use Rattle.boogie_run.specs.RunView.{config_of}
use Rattle.explain_top.specs.RunStory.Lines.{remarked, has_notes}
use Rattle.explain_top.specs.RunStory.Notes.{held, first_locals}
use Rattle.explain_top.proofs.RunStory.LineLemmas.{Leads}
use Rattle.explain_top.proofs.run_story.changes.note_first.Given as goal

abbrev pub invariant-loop-n : goal.invariant-loop-n
invariant-loop-n l =
    let told = held (typed_program l.program) (config_of l.config) in
    Leads l.line (told (first_locals l.n (l.count - l.n))) (l.fn.line.text.items ++ remarked l.fn.line.noted (told (first_locals 0 l.count)))
    (has_notes l.fn.line.noted (told (first_locals 0 l.count)))
