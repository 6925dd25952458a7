-- An earlier annotation, as contracts of functions see it.
use Rattle.std.specs.Prelude.{◌≡◌, ℕ, List, Option}
use Rattle.outer_io.specs.Lines.{lines_of}
use Rattle.nwa_base.specs.Acceptance.{Accepts}
use Rattle.typed_tree.specs.TypedTree.{TypedProgram}
use Rattle.letter_acts.specs.Invariant.{Graph}
use Rattle.lowered_graph.specs.Lowered.{lowered}
use Rattle.proof_form.specs.Annotations.{Content}
use Rattle.proof_form.specs.Standing.{FirstWrongOfText}
use Rattle.race_core.specs.declared.events.Entry.{Entry}
use Rattle.itp_automaton.specs.Certified.{Certificate}
use Rattle.race_rounds.specs.Rounds.{IsGiven}
use Rattle.text_reports.specs.ReportTexts.{Answer, syntax_answer}
use Rattle.text_reports.specs.ReportCases.{IsSafeText}
use Rattle.automizer_top.specs.Earlier.{IsReused, IsFirstEntry}

-- The text is that of an annotation, and the graph leaves of it this entry, if it is one.
pub record IsLeftOf (g : Graph) (text : List ℕ) (first : Option (Entry Certificate)) : Type 0 where
  pub coarse : List ℕ
  pub old : Content
  pub spelled : IsSafeText text coarse old
  pub automaton : Certificate
  pub reused : IsReused g old automaton
  pub first_is : IsFirstEntry g automaton first

-- the text is that of no annotation, and this is said of its first wrong line
abbrev pub RefusesText : List ℕ → Answer → Type 0
RefusesText text a = (line : ℕ) × FirstWrongOfText (lines_of text) line × (a ≡ syntax_answer line)

-- a race over the program may begin with the entry
abbrev pub IsGivenOver : TypedProgram → Entry Certificate → Type 0
IsGivenOver t e = Accepts (lowered t).automaton e.word × IsGiven t e
