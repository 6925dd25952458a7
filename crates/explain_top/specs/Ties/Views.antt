-- What the code read of the words, and its answers, as contracts see them.
use Rattle.std.specs.Prelude.{◌≡◌, List, ℕ, Some}
use Rattle.explain_top.specs.declared.words.Request.{Request}
use Rattle.explain_top.specs.declared.answers.Answer.{Answer}
use Rattle.explain_top.specs.declared.answers.Answer.TheVariants.{Usage, OfTexts}
use Rattle.text_reports.specs.Answers.{answer_of}
use Rattle.text_reports.specs.ReportTexts as written
use Rattle.explain_top.specs.CommandLine as line
use Rattle.explain_top.specs.Report.{usage_line}

abbrev pub asked : Request → line.Request
asked r = record { program = r.program.now; answer = r.answer.now; entry = r.entry.now; all = r.all }

-- the words ask for this
abbrev pub Asks : List (List ℕ) → Request → Type 0
Asks words r = line.requested words ≡ Some (asked r)

abbrev pub answered : Answer → written.Answer
answered Usage = written.answer usage_line 4
answered (OfTexts a) = answer_of a
