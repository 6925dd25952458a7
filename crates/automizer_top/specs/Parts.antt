-- What is answered with `--modular`, where each procedure with a body is verified by itself, in its part: every call is taken by the specification of
-- what it calls. Parts are in the order in which their procedures are declared.
use Rattle.std.specs.Prelude.{◌≡◌, ◌≢◌, ℕ, ◌+◌, ◌≤◌, List, [], ◌∷◌, ◌++◌, length, flat_map, Option, None, Some, codes}
use Rattle.std.specs.Option.{option_or, option_map}
use Rattle.outer_io.specs.Lines.{lines_of}
use Rattle.boogie_tree.specs.declared.span.Span.{Span}
use Rattle.typed_tree.specs.TypedTree.{TypedProgram}
use Rattle.modular_cut.specs.Parts.{PlainPart, parts_of}
use Rattle.modular_cut.specs.FreeConditions.{free_spans, IsFirstFree}
use Rattle.letter_acts.specs.Invariant.{Graph}
use Rattle.lowered_graph.specs.Items.{ItemFault, first_fault}
use Rattle.lowered_graph.specs.Lowered.{lowered}
use Rattle.proof_form.specs.Annotations.{Content}
use Rattle.proof_form.specs.Standing.{FirstWrongOfText}
use Rattle.proof_names.specs.CoarseLines.CoarseLetters.{coarse_letters}
use Rattle.proof_check.specs.declared.rejects.RejectCause.{RejectCause}
use Rattle.proof_check.specs.Proves.{Proves}
use Rattle.trace_replay.specs.FailureText.{PlainFailure}
use Rattle.trace_replay.specs.FailureFaults.{IsFirstFault}
use Rattle.race_core.specs.Races.{Race}
use Rattle.itp_automaton.specs.Certified.{Certificate}
use Rattle.race_rounds.specs.declared.limits.Limits.{Limits}
use Rattle.text_reports.specs.TypeRefusals.{rule_line}
use Rattle.text_reports.specs.LoweringRefusals.{lowering_refusal}
use Rattle.automizer_top.specs.PartTexts.{modular_line, part_line, text_behind, front_lines, front_text, rest_text}
use Rattle.text_reports.specs.ReportTexts.{Answer, answer, syntax_answer, accepted_answer, failed_answer}
use Rattle.text_reports.specs.ReportCases.{second_limit, ReportsTyped, ReportsSecond, IsSafeText, FailsOnLine, IsFailureText, ReportsFailure}
use Rattle.automizer_top.specs.ReportCases.{ReportsVerdict}

-- ---- the program is cut

-- What is answered to a program that has to be cut: a specification or an invariant is free, and the first in the text is named; or it has parts, to
-- which this is answered. The cases exclude each other.
pub data ReportsCut (t : TypedProgram) (to_parts : List PlainPart → Answer → Type 0) (a : Answer) : Type 0 where
  free : (at : Span) → IsFirstFree t at → a ≡ answer (rule_line (codes "Free") at) 3 → ReportsCut t to_parts a
  of_parts : free_spans t ≡ [] → to_parts (parts_of t) a → ReportsCut t to_parts a

-- ---- all parts are lowered

-- the fault of the first part that cannot be lowered
abbrev pub first_part_fault : List PlainPart → Option ItemFault
first_part_fault [] = None
first_part_fault (p ∷ ps) = option_or (first_fault p.program) (first_part_fault ps)

-- What is answered to parts that have to be lowered: one cannot be, or all have graphs, and this is answered to them. The cases exclude each other.
pub data ReportsLoweredParts (ps : List PlainPart) (to_lowered : Answer → Type 0) (a : Answer) : Type 0 where
  part_unlowered : (f : ItemFault) → first_part_fault ps ≡ Some f → a ≡ answer (lowering_refusal f) 3 → ReportsLoweredParts ps to_lowered a
  parts_lowered : first_part_fault ps ≡ None → to_lowered a → ReportsLoweredParts ps to_lowered a

-- ---- races decide, part by part

-- These parts have these verdicts, and each is `safe`.
abbrev pub AreSafe : Limits → List PlainPart → List Answer → Type 0
AreSafe l [] [] = Unit {0}
AreSafe l [] (b ∷ bs) = ⊥
AreSafe l (p ∷ ps) [] = ⊥
AreSafe l (p ∷ ps) (b ∷ bs) = ReportsVerdict None l p.program b × (b.status ≡ 0) × AreSafe l ps bs

-- the line of each part, and the text of its verdict
abbrev pub part_texts : List PlainPart → List Answer → List ℕ
part_texts [] bs = []
part_texts (p ∷ ps) [] = []
part_texts (p ∷ ps) (b ∷ bs) = part_line p.name ++ (b.bytes ++ part_texts ps bs)

-- the races of these verdicts, in order
abbrev pub races_of : List Answer → List (Race Certificate)
races_of bs = flat_map (λ b. b.races) bs

-- how many parts there are, and then each with its text
abbrev pub parts_answer : List PlainPart → List Answer → Answer
parts_answer ps bs = record { bytes = modular_line (length ps) ++ part_texts ps bs; status = 0; races = races_of bs }

-- the verdict on one part, to which these verdicts led
abbrev pub part_answer : List Answer → PlainPart → Answer → Answer
part_answer bs p b = record { bytes = part_line p.name ++ b.bytes; status = b.status; races = races_of bs ++ b.races }

-- What is answered to parts that can be lowered, where their verdicts are asked for: all are safe; or one is not, and all before it are. Of several
-- verdicts on one part any may be told. The limits are those of each part by itself.
pub data ReportsParts (l : Limits) (ps : List PlainPart) (a : Answer) : Type 0 where
  all_safe : (bs : List Answer) → AreSafe l ps bs → a ≡ parts_answer ps bs → ReportsParts l ps a
  one_is_not : (before after : List PlainPart) (p : PlainPart) (bs : List Answer) (b : Answer) → ps ≡ before ++ p ∷ after → AreSafe l before bs →
      ReportsVerdict None l p.program b → b.status ≢ 0 → a ≡ part_answer bs p b → ReportsParts l ps a

-- What is answered to a program text whose verdict is asked for part by part. It has no more bytes than a second text may have.
abbrev pub ReportsVerifyParts : List ℕ → Limits → List ℕ → Answer → Type 0
ReportsVerifyParts entry l program =
    ReportsTyped entry program (λ t. ReportsCut t (λ ps. ReportsLoweredParts ps (λ a. ReportsParts l ps a × (length a.bytes ≤ second_limit))))

-- ---- annotations are checked, part by part

-- The text is that of an annotation that proves the graph.
pub record ProvesPart (g : Graph) (text : List ℕ) : Type 0 where
  pub coarse : List ℕ
  pub annotation : Content
  pub spelled : IsSafeText text coarse annotation
  pub letters : coarse ≡ coarse_letters g annotation
  pub proves : Proves g annotation

-- What is answered to the graph of a part and to a text that proves it not, before which so many lines stand: the same as to that text by itself, but
-- for the line, which counts from the first of all lines on. The cases exclude each other.
pub data RejectsPart (g : Graph) (before : ℕ) (text : List ℕ) (a : Answer) : Type 0 where
  no_part_annotation : (line : ℕ) → FirstWrongOfText (lines_of text) line → a ≡ syntax_answer (before + line) → RejectsPart g before text a
  part_rejected : (coarse : List ℕ) (w : Content) (line : ℕ) (cause : RejectCause) → IsSafeText text coarse w →
      FailsOnLine g coarse w line cause → a ≡ failed_answer (before + line) cause → RejectsPart g before text a

-- What is answered to what is left of a second text, before which so many lines stand. It has to begin with the line of this part and with an annotation
-- that proves it; then this is answered to what follows. The cases exclude each other.
pub data ChecksPart (p : PlainPart) (before : ℕ) (left : List ℕ) (to_rest : ℕ → List ℕ → Answer → Type 0) (a : Answer) : Type 0 where
  no_part_line : text_behind (part_line p.name) left ≡ None → a ≡ syntax_answer (before + 1) → ChecksPart p before left to_rest a
  wrong_part : (text : List ℕ) → text_behind (part_line p.name) left ≡ Some text → RejectsPart (lowered p.program) (before + 1) (front_text text) a →
      ChecksPart p before left to_rest a
  right_part : (text : List ℕ) → text_behind (part_line p.name) left ≡ Some text → ProvesPart (lowered p.program) (front_text text) →
      to_rest (before + 1 + length (front_lines text)) (rest_text text) a → ChecksPart p before left to_rest a

-- Nothing may be left behind the last part.
abbrev pub ChecksEnd : ℕ → List ℕ → Answer → Type 0
ChecksEnd before [] a = a ≡ accepted_answer
ChecksEnd before (b ∷ bs) a = a ≡ syntax_answer (before + 1)

-- What is answered to these parts and to what is left of a second text, before which so many lines stand: the first part that is wrong decides.
abbrev pub ChecksParts : List PlainPart → ℕ → List ℕ → Answer → Type 0
ChecksParts [] before left a = ChecksEnd before left a
ChecksParts (p ∷ ps) before left a = ChecksPart p before left (ChecksParts ps) a

-- What is answered to parts that can be lowered, and to a second text: it has to begin with the line of as many parts. The cases exclude each other.
pub data ReportsPartProofs (ps : List PlainPart) (text : List ℕ) (a : Answer) : Type 0 where
  no_modular_line : text_behind (modular_line (length ps)) text ≡ None → a ≡ syntax_answer 1 → ReportsPartProofs ps text a
  of_part_proofs : (left : List ℕ) → text_behind (modular_line (length ps)) text ≡ Some left → ChecksParts ps 1 left a → ReportsPartProofs ps text a

-- What is answered to a program text and to what the second name stands for, where it is to be checked part by part. A program that is refused, also
-- one with a part that cannot be lowered, is so whatever the second name stands for.
abbrev pub ReportsCheckParts : List ℕ → List ℕ → Option (List ℕ) → Answer → Type 0
ReportsCheckParts entry program second =
    ReportsTyped entry program (λ t. ReportsCut t (λ ps. ReportsLoweredParts ps (ReportsSecond second (ReportsPartProofs ps))))

-- ---- the failure of a part is replayed

-- the first of these parts whose line the text begins with, and what stands behind that line
abbrev pub part_in : List PlainPart → List ℕ → Option (PlainPart × List ℕ)
part_in [] text = None
part_in (p ∷ ps) text = option_or (option_map (λ rest. (p, rest)) (text_behind (part_line p.name) text)) (part_in ps text)

-- What is answered to parts and to a text that should name one of them in its first line and then be a failure: the same as to that failure by itself,
-- but for a line that cannot stand there, which counts from the first of all lines on. The cases exclude each other.
pub data ReportsPartFailure (ps : List PlainPart) (text : List ℕ) (a : Answer) : Type 0 where
  no_part : part_in ps text ≡ None → a ≡ syntax_answer 1 → ReportsPartFailure ps text a
  no_part_failure : (p : PlainPart) (rest : List ℕ) (line : ℕ) → part_in ps text ≡ Some (p, rest) → IsFirstFault rest line →
      a ≡ syntax_answer (line + 1) → ReportsPartFailure ps text a
  of_part_failure : (p : PlainPart) (rest : List ℕ) (f : PlainFailure) → part_in ps text ≡ Some (p, rest) → IsFailureText rest f →
      ReportsFailure p.program rest a → ReportsPartFailure ps text a

-- What is answered to a program text and to what the second name stands for, where it is to be replayed in a part. Nothing is lowered.
abbrev pub ReportsReplayParts : List ℕ → List ℕ → Option (List ℕ) → Answer → Type 0
ReportsReplayParts entry program second = ReportsTyped entry program (λ t. ReportsCut t (λ ps. ReportsSecond second (ReportsPartFailure ps)))
