-- What the program answers to its words and the texts that they name.
use Rattle.std.specs.Prelude.{◌≡◌, ℕ, Bool, List, Option, None, Some, codes, if◌then◌else◌, nat_eq}
use Rattle.std.specs.List.{starts_with}
use Rattle.outer_io.specs.Lines.{lines_of}
use Rattle.outer_io.specs.Texts.{text_named}
use Rattle.boogie_tree.specs.Tree.{Declaration}
use Rattle.boogie_tree.specs.Printing.{program_text}
use Rattle.boogie_parse.specs.Rules.GrammarLimits.{IsProgram}
use Rattle.typed_tree.specs.TypedTree.{TypedProgram}
use Rattle.boogie_run.specs.declared.types.AssertId.{AssertId}
use Rattle.nwa_base.specs.declared.letters.Letter.{Letter}
use Rattle.nwa_base.specs.Runs.{IsAcceptingRun}
use Rattle.letter_acts.specs.Invariant.{Graph}
use Rattle.proof_form.specs.Annotations.{Content}
use Rattle.proof_form.specs.Standing.{FirstWrongOfText}
use Rattle.proof_names.specs.Outlines.{Sketch}
use Rattle.proof_names.specs.Items.{Names}
use Rattle.proof_check.specs.Proves.{Proves}
use Rattle.proof_check.specs.declared.rejects.RejectCause.TheVariants as rejects
use Rattle.trace_replay.specs.FailureText.{PlainFailure}
use Rattle.trace_replay.specs.FailureFaults.{IsFirstFault}
use Rattle.trace_replay.specs.ReplayCauses.{StopsAt}
use Rattle.trace_replay.specs.declared.causes.ReplayCause.{ReplayCause}
use Rattle.explain_top.specs.RunStory.Story.{IsStory}
use Rattle.explain_top.specs.TraceStory.TraceText.{PlainTrace, IsInBounds, trace_text}
use Rattle.explain_top.specs.TraceStory.TraceFaults as traces
use Rattle.explain_top.specs.TraceStory.TraceStory.{letters_of, IsTraceStory}
use Rattle.proof_names.specs.CoarseLines.CoarseLetters.{coarse_letters}
use Rattle.explained_proof.specs.Known.{known_of}
use Rattle.explained_proof.specs.Explained.{explained}
use Rattle.text_reports.specs.ReportTexts.{Answer, answer, syntax_answer, accepted_answer, failed_answer, stopped_answer}
use Rattle.text_reports.specs.ReportCases.{IsSafeText, IsFailureText, ReportsTyped, ReportsLowered, ReportsSecond, ReportsAnnotation}
use Rattle.explain_top.specs.CommandLine.{Request, requested}

abbrev pub usage_line : List ℕ
usage_line = codes "usage: explain PROGRAM ANSWER [--entry NAME] [--all]\n"

-- a program of these declarations with what an annotation of its graph knows of it, the lines of which name this
abbrev pub explained_program : TypedProgram → Graph → Content → Sketch → List Declaration → List Declaration
explained_program t g w s ds = explained (record { program = t; graph = g; known = known_of g w s.nodes }) ds

-- What is answered to a program and to an annotation with lines of these coarse letters: what `check` answers where it does not accept it, and else
-- the program with what the annotation knows of it. The cases exclude each other.
pub data ExplainsAnnotation (program : List ℕ) (t : TypedProgram) (g : Graph) (coarse : List ℕ) (w : Content) (a : Answer) : Type 0 where
  not_accepted : ReportsAnnotation g coarse w a → (a ≡ accepted_answer → ⊥) → ExplainsAnnotation program t g coarse w a
  accepted : (ds : List Declaration) (s : Sketch) → coarse ≡ coarse_letters g w → Proves g w → Names g w s → IsProgram program ds →
      a ≡ answer (program_text (explained_program t g w s ds)) 0 → ExplainsAnnotation program t g coarse w a

-- What is answered to a program and to the text of an annotation. The cases exclude each other.
pub data ExplainsProof (program : List ℕ) (t : TypedProgram) (text : List ℕ) (g : Graph) (a : Answer) : Type 0 where
  no_annotation : (line : ℕ) → FirstWrongOfText (lines_of text) line → a ≡ syntax_answer line → ExplainsProof program t text g a
  of_annotation : (coarse : List ℕ) (w : Content) → IsSafeText text coarse w → ExplainsAnnotation program t g coarse w a → ExplainsProof program t text g a

-- What is answered to a program and to the text of a failure: what `replay` answers where its values lead to no failure, and else the story of their run, all
-- of it, or of a long one its beginning and its end. The cases exclude each other.
pub data ExplainsFailure (program : List ℕ) (all : Bool) (t : TypedProgram) (text : List ℕ) (a : Answer) : Type 0 where
  no_failure : (line : ℕ) → IsFirstFault text line → a ≡ syntax_answer line → ExplainsFailure program all t text a
  stopped : (f : PlainFailure) (step : ℕ) (cause : ReplayCause) → IsFailureText text f → StopsAt t f.steps f.choices step cause → a ≡ stopped_answer step cause →
      ExplainsFailure program all t text a
  of_failure : (f : PlainFailure) (id : AssertId) (ds : List Declaration) (story : List ℕ) → IsFailureText text f → IsProgram program ds →
      IsStory t ds all f.steps f.choices id story → a ≡ answer story 0 → ExplainsFailure program all t text a

-- the text spells this trace
pub record IsTraceText (text : List ℕ) (u : PlainTrace) : Type 0 where
  pub bounds : IsInBounds u
  pub spelled : text ≡ trace_text u

-- What is answered to a program, to its graph and to the text of a trace of which nothing is known: one of its letters does not exist, or they lead to no
-- failure, and else the story of the trace, all of it, or of a long one its beginning and its end. The cases exclude each other; of several runs of the
-- automaton over the letters any may be told.
pub data ExplainsTrace (program : List ℕ) (all : Bool) (t : TypedProgram) (g : Graph) (text : List ℕ) (a : Answer) : Type 0 where
  no_trace : (line : ℕ) → traces.IsFirstFault text line → a ≡ syntax_answer line → ExplainsTrace program all t g text a
  no_letter : (u : PlainTrace) → IsTraceText text u → letters_of g u.letters ≡ None → a ≡ failed_answer 3 rejects.BadName → ExplainsTrace program all t g text a
  no_run : (u : PlainTrace) (w : List Letter) → IsTraceText text u → letters_of g u.letters ≡ Some w → (((places : List ℕ) × IsAcceptingRun g.automaton w places) → ⊥) →
      a ≡ failed_answer 3 rejects.BadStep → ExplainsTrace program all t g text a
  of_trace : (u : PlainTrace) (ds : List Declaration) (story : List ℕ) → IsTraceText text u → IsProgram program ds → IsTraceStory t ds g all u story →
      a ≡ answer story 0 → ExplainsTrace program all t g text a

-- what the text of an answer is of, by how it begins
pub data Kind : Type 0 where
  OfFailure : Kind
  OfTrace : Kind
  OfProof : Kind

abbrev pub kind_of : List ℕ → Kind
kind_of text = if starts_with nat_eq text (codes "unsafe\n") then OfFailure else (if starts_with nat_eq text (codes "unknown ") then OfTrace else OfProof)

-- What is answered to a program and to the text of an answer of this kind.
abbrev pub Explains : Kind → List ℕ → Bool → TypedProgram → Graph → List ℕ → Answer → Type 0
Explains OfFailure program all t g text a = ExplainsFailure program all t text a
Explains OfTrace program all t g text a = ExplainsTrace program all t g text a
Explains OfProof program all t g text a = ExplainsProof program t text g a

-- What is answered to a program text and to what the second name stands for. A program that is refused, also one that cannot be lowered, is so
-- whatever the second name stands for.
abbrev pub ReportsExplain : List ℕ → Bool → List ℕ → Option (List ℕ) → Answer → Type 0
ReportsExplain entry all program second =
    ReportsTyped entry program (λ t. ReportsLowered t (λ g. ReportsSecond second (λ text. Explains (kind_of text) program all t g text)))

-- The report: to words that ask for nothing the usage line, to others what the named texts give.
pub data Reports (words : List (List ℕ)) (texts : List (List ℕ × List ℕ)) (a : Answer) : Type 0 where
  usage : requested words ≡ None → a ≡ answer usage_line 4 → Reports words texts a
  explaining : (r : Request) (text : List ℕ) → requested words ≡ Some r → text_named r.program texts ≡ Some text →
      ReportsExplain r.entry r.all text (text_named r.answer texts) a → Reports words texts a
