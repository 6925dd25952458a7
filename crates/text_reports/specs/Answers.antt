-- The code's answers to texts as contracts see them, and what is so of a text that is answered.
use Rattle.std.specs.Prelude.{◌≡◌, ◌<◌, ◌^◌, ℕ, List, None}
use Rattle.typed_tree.specs.TypedTree.{TypedProgram}
use Rattle.boogie_run.specs.RunRules.Runs.{IsSafe}
use Rattle.nwa_base.specs.declared.letters.Letter.{Letter}
use Rattle.nwa_base.specs.Acceptance.{Accepts}
use Rattle.letter_acts.specs.Feasible.{IsFeasible}
use Rattle.letter_acts.specs.Invariant.{Graph, alphabet_of}
use Rattle.letter_acts.specs.Kept.{Keeps}
use Rattle.lowered_graph.specs.Items as items
use Rattle.lowered_graph.specs.Items.{first_fault}
use Rattle.lowered_graph.specs.Lowered.{lowered}
use Rattle.lowered_graph.specs.Laws.{IsFaithful}
use Rattle.proof_form.specs.Annotations.{Content}
use Rattle.proof_names.specs.CoarseLines.CoarseLetters.{coarse_letters}
use Rattle.proof_check.specs.declared.rejects.RejectCause.{RejectCause}
use Rattle.proof_check.specs.Proves.{Proves}
use Rattle.text_reports.specs.declared.answers.TextAnswer.{TextAnswer}
use Rattle.text_reports.specs.declared.answers.TextAnswer.TheVariants.{TooLong, Refused, IllTyped, TooWide, TooBig, Printed, Syntax, Accepted, Rejected, Replayed, Stopped}
use Rattle.text_reports.specs.Refusals.{refusal}
use Rattle.text_reports.specs.TypeRefusals.{type_refusal}
use Rattle.text_reports.specs.LoweringRefusals.{lowering_refusal}
use Rattle.text_reports.specs.ReportTexts as written
use Rattle.text_reports.specs.ReportCases as report

abbrev pub answer_of : TextAnswer → written.Answer
answer_of TooLong = written.too_long_answer
answer_of (Refused f) = written.answer (refusal f) 3
answer_of (IllTyped f) = written.answer (type_refusal f) 3
answer_of (TooWide at) = written.answer (lowering_refusal (items.TooWide at)) 3
answer_of (TooBig at) = written.answer (lowering_refusal (items.TooBig at)) 3
answer_of (Printed text) = written.answer text.items 0
answer_of (Syntax line) = written.syntax_answer line
answer_of Accepted = written.accepted_answer
answer_of (Rejected line cause) = written.failed_answer line cause
answer_of (Replayed id) = written.replayed_answer id
answer_of (Stopped step cause) = written.stopped_answer step cause

-- the answer is that this check fails at this line, whose number has 70 bits
abbrev pub IsRejected : ℕ → RejectCause → TextAnswer → Type 0
IsRejected line cause a = (a ≡ Rejected line cause) × (line < 2 ^ 70)

-- The answer is that an annotation with lines of these coarse letters is accepted, or it names the first check that fails, by a line whose number has
-- 70 bits.
abbrev pub IsJudged : Graph → List ℕ → Content → TextAnswer → Type 0
IsJudged g coarse w TooLong = ⊥
IsJudged g coarse w (Refused f) = ⊥
IsJudged g coarse w (IllTyped f) = ⊥
IsJudged g coarse w (TooWide at) = ⊥
IsJudged g coarse w (TooBig at) = ⊥
IsJudged g coarse w (Printed text) = ⊥
IsJudged g coarse w (Syntax line) = ⊥
IsJudged g coarse w Accepted = (coarse ≡ coarse_letters g w) × Proves g w
IsJudged g coarse w (Rejected line cause) = report.FailsOnLine g coarse w line cause × (line < 2 ^ 70)
IsJudged g coarse w (Replayed id) = ⊥
IsJudged g coarse w (Stopped step cause) = ⊥

-- the graph of a program that can be lowered
pub record IsGraphOf (t : TypedProgram) (g : Graph) : Type 0 where
  pub value : g ≡ lowered t
  pub fits : first_fault t ≡ None
  pub faithful : IsFaithful t g

-- the graph of the program of the text, where runs begin at the procedure `entry`; an `Icfg` has kept it
pub record IsGraphOfText (entry text : List ℕ) (g : Graph) : Type 0 where
  pub meant : TypedProgram
  pub typed : report.IsTypedText entry text meant
  pub of_program : IsGraphOf meant g
  pub kept : Keeps g

-- the text is refused before it has a graph
abbrev pub IsRefusedText : List ℕ → List ℕ → written.Answer → Type 0
IsRefusedText entry text = report.ReportsTyped entry text (λ t. report.ReportsLowered t (λ g a. ⊥))

-- no word that the automaton accepts is feasible
abbrev pub HasNoErrorWord : Graph → Type 0
HasNoErrorWord g = (w : List Letter) → Accepts g.automaton w → IsFeasible (alphabet_of g) w → ⊥

-- the program of the text is safe, if it keeps the typing rules, where runs begin at the procedure `entry`
abbrev pub TextIsSafe : List ℕ → List ℕ → Type 0
TextIsSafe entry text = (t : TypedProgram) → report.IsTypedText entry text t → IsSafe t
