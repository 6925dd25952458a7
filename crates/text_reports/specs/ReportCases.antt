-- What is answered step by step to a program text, to an annotation and to a failure, in the order of the work: a program text is read and typed, the
-- program is lowered, the second text is read, and then the annotation is checked or the failure replayed.
use Rattle.std.specs.Prelude.{◌≡◌, ℕ, ◌+◌, ◌-◌, ◌^◌, ◌<◌, ◌≤◌, IsTrue, List, length, Option, None, Some, Err}
use Rattle.outer_io.specs.Lines.{lines_of}
use Rattle.boogie_tree.specs.Tree.{Declaration}
use Rattle.boogie_tree.specs.Printing.{program_text}
use Rattle.boogie_parse.specs.declared.fault.Fault.{Fault}
use Rattle.boogie_parse.specs.Rules.GrammarLimits.{IsProgram}
use Rattle.boogie_parse.specs.Rules.WholeText.{read_text}
use Rattle.typed_tree.specs.TypedTree.{TypedProgram}
use Rattle.typed_tree.specs.declared.fault.TypeFault.{TypeFault}
use Rattle.typed_tree.specs.declared.fault.TypeFault.TheVariants as type_faults
use Rattle.boogie_types.specs.Resolved.{resolved_program}
use Rattle.boogie_types.specs.BrokenNames.{IsTypeFault}
use Rattle.boogie_run.specs.declared.types.AssertId.{AssertId}
use Rattle.letter_acts.specs.Invariant.{Graph}
use Rattle.lowered_graph.specs.Items.{ItemFault, first_fault}
use Rattle.lowered_graph.specs.Lowered.{lowered}
use Rattle.proof_form.specs.Annotations.{Content, is_annotation, AreShort, safe_text}
use Rattle.proof_form.specs.Standing.{FirstWrongOfText}
use Rattle.proof_names.specs.CoarseLines.CoarseLetters.{coarse_letters, first_wrong, first_missing}
use Rattle.proof_names.specs.Items.{first_triple}
use Rattle.proof_check.specs.declared.rejects.RejectCause.{RejectCause}
use Rattle.proof_check.specs.declared.rejects.RejectCause.TheVariants as rejects
use Rattle.proof_check.specs.Proves.{Proves}
use Rattle.proof_check.specs.Checks.{IsFirst}
use Rattle.trace_replay.specs.FailureText.{PlainFailure, IsInBounds, failure_text}
use Rattle.trace_replay.specs.FailureFaults.{IsFirstFault}
use Rattle.trace_replay.specs.Replays.{IsReplayed}
use Rattle.trace_replay.specs.ReplayCauses.{StopsAt}
use Rattle.trace_replay.specs.declared.causes.ReplayCause.{ReplayCause}
use Rattle.text_reports.specs.Refusals.{refusal}
use Rattle.text_reports.specs.TypeRefusals.{type_refusal}
use Rattle.text_reports.specs.LoweringRefusals.{lowering_refusal}
use Rattle.text_reports.specs.ReportTexts.{Answer, answer, too_long_answer, syntax_answer, accepted_answer, failed_answer, rejected_answer, replayed_answer, stopped_answer}

-- the most bytes of a program text, and of a second text
abbrev pub program_limit : ℕ
program_limit = 1048576

abbrev pub second_limit : ℕ
second_limit = 2 ^ 63 - 1

-- ---- a program text is read

-- What is answered to a program text that is refused: it is too long, or no program; the first fault decides.
pub data RefusesProgram (program : List ℕ) (a : Answer) : Type 0 where
  too_long : program_limit < length program → a ≡ too_long_answer → RefusesProgram program a
  no_program : (f : Fault) → length program ≤ program_limit → read_text program ≡ Err f → a ≡ answer (refusal f) 3 → RefusesProgram program a

-- What is answered to a program text that is to be printed. The cases exclude each other.
pub data ReportsPrint (program : List ℕ) (a : Answer) : Type 0 where
  refused_print : RefusesProgram program a → ReportsPrint program a
  printed : (ds : List Declaration) → length program ≤ program_limit → IsProgram program ds → a ≡ answer (program_text ds) 0 →
      ReportsPrint program a

-- ---- and typed

-- a typing rule is broken, and the fault names it
abbrev pub IsIllTyped : List ℕ → List Declaration → TypeFault → Type 0
IsIllTyped entry ds f = IsTypeFault ds entry f × (f ≡ type_faults.Memory → ⊥)

-- the answer says that a typing rule is broken
abbrev pub IsTypingRefusal : Answer → Type 0
IsTypingRefusal a = (f : TypeFault) × (a ≡ answer (type_refusal f) 3)

-- What is answered to a program text that is refused before it is run or lowered: it is no program, or it breaks a typing rule, where
-- runs begin at the procedure `entry`. Of several rules that are broken any may be named.
pub data RefusesTyped (entry program : List ℕ) (a : Answer) : Type 0 where
  refused_text : RefusesProgram program a → RefusesTyped entry program a
  ill_typed : (ds : List Declaration) (f : TypeFault) → length program ≤ program_limit → IsProgram program ds → IsIllTyped entry ds f →
      a ≡ answer (type_refusal f) 3 → RefusesTyped entry program a

-- The text is that of a program that keeps the typing rules; this is what it means, where runs begin at the procedure `entry`.
pub record IsTypedText (entry program : List ℕ) (t : TypedProgram) : Type 0 where
  pub short : length program ≤ program_limit
  pub tree : List Declaration
  pub spelled : IsProgram program tree
  pub typed : resolved_program tree entry ≡ Some t

-- What is answered to a program text that has to be typed: it is refused, or it is that of a typed program, to which this is answered. The cases
-- exclude each other.
pub data ReportsTyped (entry program : List ℕ) (to_typed : TypedProgram → Answer → Type 0) (a : Answer) : Type 0 where
  refused : RefusesTyped entry program a → ReportsTyped entry program to_typed a
  of_typed : (t : TypedProgram) → IsTypedText entry program t → to_typed t a → ReportsTyped entry program to_typed a

-- ---- the program is lowered

-- What is answered to a program that cannot be lowered: the first item in its text with a fault decides.
pub record RefusesLowering (t : TypedProgram) (a : Answer) : Type 0 where
  pub fault : ItemFault
  pub first : first_fault t ≡ Some fault
  pub is : a ≡ answer (lowering_refusal fault) 3

-- What is answered to a program that has to be lowered: it is refused, or it has a graph, to which this is answered. The cases exclude each other.
pub data ReportsLowered (t : TypedProgram) (to_graph : Graph → Answer → Type 0) (a : Answer) : Type 0 where
  unlowered : RefusesLowering t a → ReportsLowered t to_graph a
  of_lowered : first_fault t ≡ None → to_graph (lowered t) a → ReportsLowered t to_graph a

-- ---- the second text is read

-- What is answered to the text that the second name stands for: it is too long, or this is answered to it. The cases exclude each other.
pub data ReportsSecond (second : Option (List ℕ)) (to_text : List ℕ → Answer → Type 0) (a : Answer) : Type 0 where
  second_too_long : (text : List ℕ) → second ≡ Some text → second_limit < length text → a ≡ too_long_answer → ReportsSecond second to_text a
  of_second : (text : List ℕ) → second ≡ Some text → length text ≤ second_limit → to_text text a → ReportsSecond second to_text a

-- ---- an annotation is checked

-- The text is the `safe` text of this annotation, with these coarse letters.
pub record IsSafeText (text coarse : List ℕ) (w : Content) : Type 0 where
  pub rounds : ℕ
  pub small : rounds < 2 ^ 64
  pub short : AreShort coarse
  pub lines : IsTrue (is_annotation w)
  pub spelled : text ≡ safe_text rounds coarse w

-- What is answered to the graph of a program and to an annotation with lines of these coarse letters: one of these lines is wrong, a triple lacks
-- its line, or the letters are the coarse ones that triples name, and the six checks decide. Line 0 of them stands on line 4. The cases exclude
-- each other.
pub data ReportsAnnotation (g : Graph) (coarse : List ℕ) (w : Content) (a : Answer) : Type 0 where
  wrong_line : (place : ℕ) → first_wrong g coarse w ≡ Some place → a ≡ failed_answer (place + 4) rejects.BadName → ReportsAnnotation g coarse w a
  missing_line : (place : ℕ) → first_wrong g coarse w ≡ None → first_missing g coarse w ≡ Some place →
      a ≡ rejected_answer (length coarse) (first_triple w + place) rejects.BadName → ReportsAnnotation g coarse w a
  accepted : coarse ≡ coarse_letters g w → Proves g w → a ≡ accepted_answer → ReportsAnnotation g coarse w a
  rejected : (item : ℕ) (cause : RejectCause) → coarse ≡ coarse_letters g w → IsFirst g w item cause → a ≡ rejected_answer (length coarse) item cause →
      ReportsAnnotation g coarse w a

-- The first check that fails of an annotation with lines of these coarse letters, and the line of its text that fails it. The cases exclude each other.
pub data FailsOnLine (g : Graph) (coarse : List ℕ) (w : Content) (line : ℕ) (cause : RejectCause) : Type 0 where
  coarse_fails : (place : ℕ) → first_wrong g coarse w ≡ Some place → line ≡ place + 4 → cause ≡ rejects.BadName → FailsOnLine g coarse w line cause
  triple_fails : (place : ℕ) → first_wrong g coarse w ≡ None → first_missing g coarse w ≡ Some place →
      line ≡ first_triple w + place + (length coarse + 4) → cause ≡ rejects.BadName → FailsOnLine g coarse w line cause
  item_fails : (item : ℕ) → coarse ≡ coarse_letters g w → IsFirst g w item cause → line ≡ item + (length coarse + 4) → FailsOnLine g coarse w line cause

-- What is answered to the graph of a program and to the text of an annotation. The cases exclude each other.
pub data ReportsProof (g : Graph) (text : List ℕ) (a : Answer) : Type 0 where
  no_annotation : (line : ℕ) → FirstWrongOfText (lines_of text) line → a ≡ syntax_answer line → ReportsProof g text a
  of_annotation : (coarse : List ℕ) (w : Content) → IsSafeText text coarse w → ReportsAnnotation g coarse w a → ReportsProof g text a

-- What is answered to a program text and to what the second name stands for, where it is to be checked. A program that is refused, also one that
-- cannot be lowered, is so whatever the second name stands for.
abbrev pub ReportsCheck : List ℕ → List ℕ → Option (List ℕ) → Answer → Type 0
ReportsCheck entry program second = ReportsTyped entry program (λ t. ReportsLowered t (λ g. ReportsSecond second (ReportsProof g)))

-- ---- a failure is replayed

-- The text is that of a failure.
pub record IsFailureText (text : List ℕ) (f : PlainFailure) : Type 0 where
  pub bounds : IsInBounds f
  pub spelled : text ≡ failure_text f

-- What is answered to a program and to the text of a failure. The cases exclude each other.
pub data ReportsFailure (t : TypedProgram) (text : List ℕ) (a : Answer) : Type 0 where
  no_failure : (line : ℕ) → IsFirstFault text line → a ≡ syntax_answer line → ReportsFailure t text a
  replayed : (f : PlainFailure) (id : AssertId) → IsFailureText text f → IsReplayed t f.steps f.choices id → a ≡ replayed_answer id →
      ReportsFailure t text a
  stopped : (f : PlainFailure) (step : ℕ) (cause : ReplayCause) → IsFailureText text f → StopsAt t f.steps f.choices step cause →
      a ≡ stopped_answer step cause → ReportsFailure t text a

-- What is answered to a program text and to what the second name stands for, where it is to be replayed. A program that is refused is so whatever
-- the second name stands for.
abbrev pub ReportsReplay : List ℕ → List ℕ → Option (List ℕ) → Answer → Type 0
ReportsReplay entry program second = ReportsTyped entry program (λ t. ReportsSecond second (ReportsFailure t))
