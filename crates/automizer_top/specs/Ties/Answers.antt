-- The code's answers and questions as contracts see them.
use Rattle.std.specs.Prelude.{◌≡◌, ◌⊎◌, ℕ, List, [], ◌∷◌, Some, codes}
use Rattle.outer_io.specs.Texts.{text_named}
use Rattle.typed_tree.specs.TypedTree.{TypedProgram}
use Rattle.boogie_run.specs.RunRules.Runs.{IsSafe}
use Rattle.boogie_types.specs.Resolved.{resolved_program}
use Rattle.letter_acts.specs.Invariant.{Graph, IsGraph}
use Rattle.lowered_graph.specs.Lowered.{lowered}
use Rattle.proof_check.specs.Proves.{Proves}
use Rattle.race_verdicts.specs.declared.verdicts.Verdict.{Verdict}
use Rattle.race_verdicts.specs.declared.verdicts.Verdict.TheVariants.{Safe, Unsafe, Unknown}
use Rattle.automizer_top.specs.GeneratedProgram.Generated.{generated}
use Rattle.text_reports.specs.TypeRefusals.{rule_line}
use Rattle.text_reports.specs.ReportTexts as written
use Rattle.text_reports.specs.Answers.{answer_of}
use Rattle.automizer_top.specs.declared.answer.Answer.{Answer}
use Rattle.automizer_top.specs.declared.answer.Answer.TheVariants.{Usage, OnText, Free, Ranking, NoRanking, NoNumber, Decided, PartsDecided, PartDecided}
use Rattle.automizer_top.specs.declared.reporting.Decision.{Decision}
use Rattle.automizer_top.specs.declared.words.Mode.{Mode}
use Rattle.automizer_top.specs.declared.words.Options.{Options}
use Rattle.automizer_top.specs.Ties.Asked.{of_texts, settings}
use Rattle.automizer_top.specs.CommandLine.{Settings, Big, Lasso, Ranked}
use Rattle.automizer_top.specs.Verdicts.{verdict_status}
use Rattle.automizer_top.specs.ReportTexts.{usage_line, no_ranking_answer, no_number_answer}
use Rattle.automizer_top.specs.Report as report
use Rattle.automizer_top.specs.ReportClaims as claims

abbrev pub answered : Answer → written.Answer
answered Usage = written.answer usage_line 4
answered (OnText a) = answer_of a
answered (Free at) = written.answer (rule_line (codes "Free") at) 3
answered (Ranking text) = written.answer text.items 0
answered NoRanking = no_ranking_answer
answered NoNumber = no_number_answer
answered (Decided text verdict race) = record { bytes = text.items; status = verdict_status verdict; races = race ∷ [] }
answered (PartsDecided text races) = record { bytes = text.items; status = 0; races = races.items }
answered (PartDecided text verdict races) = record { bytes = text.items; status = verdict_status verdict; races = races.items }

-- the answer with this verdict
abbrev pub decided_answer : Decision → written.Answer
decided_answer d = record { bytes = d.text.items; status = verdict_status d.verdict; races = d.race ∷ [] }

-- the words ask for this, with these options
abbrev pub Asks : List (List ℕ) → Mode → Options → Type 0
Asks words mode o = report.Ask words (settings o) (of_texts mode)

-- the annotation of a verdict proves the graph, if the verdict has one
abbrev pub VerdictProves : Graph → Verdict → Type 0
VerdictProves g (Safe coarse annotation) = Proves g annotation
VerdictProves g (Unsafe failure) = Unit {0}
VerdictProves g (Unknown cause word) = Unit {0}

-- the program whose verdict the words ask for is safe
abbrev pub VerifiedIsSafe : List (List ℕ) → List (List ℕ × List ℕ) → Type 0
VerifiedIsSafe words texts = (t : TypedProgram) → claims.AsksForVerdict words texts t → IsSafe t

-- the generated program that the words ask for is safe
abbrev pub BuiltIsSafe : List (List ℕ) → Type 0
BuiltIsSafe words = (s : Settings) (count : ℕ) (t : TypedProgram) → report.Ask words s (Big count) → resolved_program (generated count) (codes "main") ≡ Some t → IsSafe t

-- the program whose check the words ask for is safe
abbrev pub CheckedIsSafe : List (List ℕ) → List (List ℕ × List ℕ) → Type 0
CheckedIsSafe words texts = (t : TypedProgram) → claims.AsksForCheck words texts t → IsSafe t

-- the graph of the program of the text is one, if it keeps the typing rules
abbrev pub TextIsGraph : List ℕ → List ℕ → Type 0
TextIsGraph entry text = (t : TypedProgram) → report.IsTypedText entry text t → IsGraph (lowered t)

-- The words ask for a ranking of a lasso of this program, or for its check; the program stands in the texts and keeps the typing rules.
pub record AsksOfLasso (words : List (List ℕ)) (texts : List (List ℕ × List ℕ)) (t : TypedProgram) : Type 0 where
  pub settings : Settings
  pub program : List ℕ
  pub second : List ℕ
  pub asked : report.Ask words settings (Lasso program second) ⊎ report.Ask words settings (Ranked program second)
  pub text : List ℕ
  pub found : text_named program texts ≡ Some text
  pub typed : report.IsTypedText settings.entry text t

-- the graph of the program for a lasso of which the words ask is one
abbrev pub RankedIsGraph : List (List ℕ) → List (List ℕ × List ℕ) → Type 0
RankedIsGraph words texts = (t : TypedProgram) → AsksOfLasso words texts t → IsGraph (lowered t)
