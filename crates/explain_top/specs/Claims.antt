-- What contracts and laws say by the report: what is so of a program that is explained, and what has become of an answer.
use Rattle.std.specs.Prelude.{◌≡◌, ◌⊎◌, ℕ, Bool, List, ◌++◌, Option, Some, IfSome}
use Rattle.std.specs.List.{AllZip}
use Rattle.outer_io.specs.Texts.{text_named, GainsFront}
use Rattle.boogie_tree.specs.Tree.{Declaration}
use Rattle.boogie_tree.specs.Printing.{program_text}
use Rattle.boogie_parse.specs.Rules.GrammarLimits.{IsProgram}
use Rattle.typed_tree.specs.TypedTree.{TypedProgram}
use Rattle.boogie_run.specs.RunRules.Runs.{Fails, IsSafe}
use Rattle.boogie_run.specs.declared.types.AssertId.{AssertId}
use Rattle.nwa_base.specs.declared.letters.Letter.{Letter}
use Rattle.nwa_base.specs.Runs.{IsAcceptingRun}
use Rattle.lowered_graph.specs.Lowered.{lowered}
use Rattle.trace_replay.specs.FailureText.{PlainFailure}
use Rattle.explain_top.specs.RunStory.Story.{IsStory}
use Rattle.explain_top.specs.TraceStory.TraceText.{PlainTrace}
use Rattle.explain_top.specs.TraceStory.TraceStory.{IsTraceStory}
use Rattle.explained_proof.specs.Laws.{DeclarationSaysMore}
use Rattle.text_reports.specs.ReportTexts.{Answer, answer, replayed_answer}
use Rattle.text_reports.specs.ReportCases.{IsTypedText, RefusesLowering, IsFailureText}
use Rattle.explain_top.specs.CommandLine.{Request, requested}
use Rattle.explain_top.specs.Report.{IsTraceText, Reports}

-- The words ask for the explanation of this program, which stands in the texts and keeps the typing rules.
pub record AsksFor (words : List (List ℕ)) (texts : List (List ℕ × List ℕ)) (t : TypedProgram) : Type 0 where
  pub request : Request
  pub asked : requested words ≡ Some request
  pub text : List ℕ
  pub found : text_named request.program texts ≡ Some text
  pub typed : IsTypedText request.entry text t

-- the program whose explanation they ask for is safe: no run of it fails an assertion
abbrev pub ProgramIsSafe : List (List ℕ) → List (List ℕ × List ℕ) → Type 0
ProgramIsSafe words texts = (t : TypedProgram) × AsksFor words texts t × IsSafe t

-- it fails: a run of it fails an assertion
abbrev pub ProgramFails : List (List ℕ) → List (List ℕ × List ℕ) → Type 0
ProgramFails words texts = (t : TypedProgram) × AsksFor words texts t × (i : ℕ) × Fails t i

-- a word of its automaton leads to a failure, along these places
abbrev pub TraceIsTold : List (List ℕ) → List (List ℕ × List ℕ) → Type 0
TraceIsTold words texts = (t : TypedProgram) × AsksFor words texts t × (w : List Letter) × (places : List ℕ) × IsAcceptingRun (lowered t).automaton w places

-- The answers are both stories of one trace of the program: of several runs over its letters each tells one.
pub record TellOneTrace (entry program : List ℕ) (second : Option (List ℕ)) (all : Bool) (a b : Answer) : Type 0 where
  pub meant : TypedProgram
  pub tree : List Declaration
  pub text : List ℕ
  pub trace : PlainTrace
  pub one : List ℕ
  pub other : List ℕ
  pub typed : IsTypedText entry program meant
  pub spelled : IsProgram program tree
  pub named : second ≡ Some text
  pub read : IsTraceText text trace
  pub tells_one : IsTraceStory meant tree (lowered meant) all trace one
  pub tells_other : IsTraceStory meant tree (lowered meant) all trace other
  pub is_one : a ≡ answer one 0
  pub is_other : b ≡ answer other 0

-- the words ask for the stories of that trace
abbrev pub AreOfOneTrace : List (List ℕ) → List (List ℕ × List ℕ) → Answer → Answer → Type 0
AreOfOneTrace words texts a b =
    (r : Request) × (program : List ℕ) × (requested words ≡ Some r) × (text_named r.program texts ≡ Some program) × TellOneTrace r.entry program (text_named r.answer texts) r.all a b

-- The answer is the text of a program that says more than the program of this text, declaration by declaration, and nothing else.
abbrev pub SaysMoreThan : List ℕ → Answer → Type 0
SaysMoreThan text a = (ds es : List Declaration) × IsProgram text ds × AllZip DeclarationSaysMore ds es × (a ≡ answer (program_text es) 0)

-- The one answer, to a program and to the text of a failure, is that the failure is replayed, and the other is its story, of the same run.
pub record TellsReplay (entry program second : List ℕ) (all : Bool) (replayed told : Answer) : Type 0 where
  pub meant : TypedProgram
  pub tree : List Declaration
  pub failure : PlainFailure
  pub assertion : AssertId
  pub story : List ℕ
  pub typed : IsTypedText entry program meant
  pub spelled : IsProgram program tree
  pub read : IsFailureText second failure
  pub of_run : IsStory meant tree all failure.steps failure.choices assertion story
  pub is_replayed : replayed ≡ replayed_answer assertion
  pub is_told : told ≡ answer story 0

-- The program of the text keeps the typing rules, and cannot be lowered, which is what is answered.
abbrev pub IsUnlowered : List ℕ → List ℕ → Answer → Type 0
IsUnlowered entry program a = (t : TypedProgram) × IsTypedText entry program t × RefusesLowering t a

-- The status is that of an answer that the report allows; a sink that tells what it takes has taken all its bytes.
pub record Answers (words : List (List ℕ)) (texts : List (List ℕ × List ℕ)) (before after : Option (List ℕ)) (status : ℕ) : Type 0 where
  pub given : Answer
  pub reported : Reports words texts given
  pub status_is : status ≡ given.status
  pub taken : IfSome before (λ bytes. after ≡ Some (bytes ++ given.bytes))

-- The sink has taken nothing, or a front of the bytes of an answer that the report allows.
abbrev pub TookFront : List (List ℕ) → List (List ℕ × List ℕ) → List ℕ → Option (List ℕ) → Type 0
TookFront words texts before after = (after ≡ Some before) ⊎ ((a : Answer) × Reports words texts a × GainsFront a.bytes before after)
