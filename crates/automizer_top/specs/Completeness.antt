-- Programs on which some verdicts are not told.
use Rattle.std.specs.Prelude.{◌≡◌, ℕ, List}
use Rattle.std.specs.List.{AllByRecursion}
use Rattle.nwa_base.specs.declared.letters.Letter.{Letter}
use Rattle.nwa_base.specs.Acceptance.{Accepts}
use Rattle.typed_tree.specs.TypedTree.{TypedProgram}
use Rattle.lowered_graph.specs.Lowered.{lowered}
use Rattle.int_decide.specs.DifferenceRows.Differences.{IsDifference}
use Rattle.path_rows.specs.Paths.{path_of}
use Rattle.race_core.specs.declared.ends.Cause.{Cause}
use Rattle.race_verdicts.specs.Texts.{unknown_text}
use Rattle.text_reports.specs.ReportTexts.{Answer}

-- the rows of each error word are difference rows
abbrev pub HasDifferenceRows : TypedProgram → Type 0
HasDifferenceRows t = (w : List Letter) → Accepts (lowered t).automaton w → AllByRecursion IsDifference (path_of (lowered t) w).rows

-- the answer is that nothing is known of a word, for this cause
abbrev pub SaysUnknown : Cause → Answer → Type 0
SaysUnknown cause a = (rounds : ℕ) × (w : List Letter) × (a.bytes ≡ unknown_text cause rounds w)
