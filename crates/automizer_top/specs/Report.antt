-- What the program answers to its words and the texts that they name.
use Rattle.std.specs.Prelude.{◌≡◌, ℕ, Bool, true, false, List, Option, None, Some}
use Rattle.outer_io.specs.Texts.{text_named}
use Rattle.race_rounds.specs.declared.limits.Limits.{Limits}
use Rattle.automizer_top.specs.CommandLine.{Check, Replay, Print, Verify, Big, Lasso, Ranked, Settings, requested}
use Rattle.text_reports.specs.ReportTexts.{Answer, answer}
use Rattle.automizer_top.specs.ReportTexts.{usage_line}
use Rattle.automizer_top.specs.Earlier.{ReportsVerifyWith}
use Rattle.automizer_top.specs.Parts.{ReportsVerifyParts, ReportsCheckParts, ReportsReplayParts}
use Rattle.automizer_top.specs.Rankings.{ReportsLasso, ReportsRanked}
pub use Rattle.text_reports.specs.ReportCases.{program_limit, second_limit, RefusesProgram, ReportsPrint, IsIllTyped, IsTypingRefusal, RefusesTyped, IsTypedText, ReportsTyped, RefusesLowering, ReportsLowered, ReportsSecond, IsSafeText, ReportsAnnotation, ReportsProof, ReportsCheck, IsFailureText, ReportsFailure, ReportsReplay, too_long, no_program, refused_print, printed, refused_text, ill_typed, refused, of_typed, unlowered, of_lowered, second_too_long, of_second, wrong_line, missing_line, accepted, rejected, no_annotation, of_annotation, no_failure, replayed, stopped}
pub use Rattle.automizer_top.specs.ReportCases.{Ask, ReportsVerdict, ReportsVerify, ReportsBig}

-- of the whole program, or with the flag `--modular` of its parts
abbrev pub ReportsCheckBy : Bool → List ℕ → List ℕ → Option (List ℕ) → Answer → Type 0
ReportsCheckBy false = ReportsCheck
ReportsCheckBy true = ReportsCheckParts

abbrev pub ReportsReplayBy : Bool → List ℕ → List ℕ → Option (List ℕ) → Answer → Type 0
ReportsReplayBy false = ReportsReplay
ReportsReplayBy true = ReportsReplayParts

-- of the whole program, which may begin with an earlier annotation, or of its parts
abbrev pub ReportsVerifyBy : Bool → Option (List ℕ) → List (List ℕ × List ℕ) → List ℕ → Limits → List ℕ → Answer → Type 0
ReportsVerifyBy false None texts entry l program = ReportsVerify entry l program
ReportsVerifyBy false (Some old) texts entry l program = ReportsVerifyWith entry l program (text_named old texts)
ReportsVerifyBy true reuse texts entry l program = ReportsVerifyParts entry l program

-- The report: to words that ask for nothing the usage line, to others what the named texts give.
pub data Reports (words : List (List ℕ)) (texts : List (List ℕ × List ℕ)) (a : Answer) : Type 0 where
  usage : requested words ≡ None → a ≡ answer usage_line 4 → Reports words texts a
  printing : (s : Settings) (program text : List ℕ) → Ask words s (Print program) → text_named program texts ≡ Some text → ReportsPrint text a →
      Reports words texts a
  checking : (s : Settings) (program second text : List ℕ) → Ask words s (Check program second) → text_named program texts ≡ Some text →
      ReportsCheckBy s.modular s.entry text (text_named second texts) a → Reports words texts a
  replaying : (s : Settings) (program second text : List ℕ) → Ask words s (Replay program second) → text_named program texts ≡ Some text →
      ReportsReplayBy s.modular s.entry text (text_named second texts) a → Reports words texts a
  verifying : (s : Settings) (program text : List ℕ) → Ask words s (Verify program) → text_named program texts ≡ Some text →
      ReportsVerifyBy s.modular s.reuse texts s.entry s.limits text a → Reports words texts a
  seeking : (s : Settings) (program second text : List ℕ) → Ask words s (Lasso program second) → text_named program texts ≡ Some text →
      ReportsLasso s.entry s.limits.depth text (text_named second texts) a → Reports words texts a
  ranking : (s : Settings) (program second text : List ℕ) → Ask words s (Ranked program second) → text_named program texts ≡ Some text →
      ReportsRanked s.entry text (text_named second texts) a → Reports words texts a
  generating : (s : Settings) (count : ℕ) → Ask words s (Big count) → ReportsBig s.limits count a → Reports words texts a
