-- What the report says of words, by the task that they ask for.
use Rattle.std.proofs.Common.{◌≡◌, ℕ, List, None, Some, subst}
use Rattle.outer_io.specs.Texts.{text_named}
use Rattle.automizer_top.specs.CommandLine.{Task, Check, Replay, Print, Verify, Big, Lasso, Ranked, Settings, requested}
use Rattle.text_reports.specs.ReportTexts.{Answer, answer}
use Rattle.automizer_top.specs.ReportTexts.{usage_line}
use Rattle.automizer_top.specs.Report.{Ask, ReportsPrint, ReportsCheckBy, ReportsReplayBy, ReportsVerifyBy, ReportsBig, Reports, usage, printing, checking, replaying, verifying, seeking, ranking, generating}
use Rattle.automizer_top.specs.Rankings.{ReportsLasso, ReportsRanked}
use Rattle.automizer_top.proofs.RequestLaws.{same_task, same_settings, nothing_asked}

-- what is answered to a task
abbrev pub ReportsTask : List (List ℕ × List ℕ) → Settings → Task → Answer → Type 0
ReportsTask texts s (Check p x) a = (text : List ℕ) × (text_named p texts ≡ Some text) × ReportsCheckBy s.modular s.entry text (text_named x texts) a
ReportsTask texts s (Replay p x) a = (text : List ℕ) × (text_named p texts ≡ Some text) × ReportsReplayBy s.modular s.entry text (text_named x texts) a
ReportsTask texts s (Print p) a = (text : List ℕ) × (text_named p texts ≡ Some text) × ReportsPrint text a
ReportsTask texts s (Verify p) a = (text : List ℕ) × (text_named p texts ≡ Some text) × ReportsVerifyBy s.modular s.reuse texts s.entry s.limits text a
ReportsTask texts s (Big count) a = ReportsBig s.limits count a
ReportsTask texts s (Lasso p x) a = (text : List ℕ) × (text_named p texts ≡ Some text) × ReportsLasso s.entry s.limits.depth text (text_named x texts) a
ReportsTask texts s (Ranked p x) a = (text : List ℕ) × (text_named p texts ≡ Some text) × ReportsRanked s.entry text (text_named x texts) a

module _ (words : List (List ℕ)) (texts : List (List ℕ × List ℕ)) (a : Answer) where
  -- words ask for one task, with one set of settings
  as_asked : (s u : Settings) (x y : Task) → Ask words s x → Ask words u y → ReportsTask texts u y a → ReportsTask texts s x a
  as_asked s u x y ask asked r =
      subst (λ (z : Task). ReportsTask texts s z a) (same_task words u s y x asked ask)
      (subst (λ (v : Settings). ReportsTask texts v y a) (same_settings words u s y x asked ask) r)

  -- the report says no more than what is answered to the task
  pub task_reported : (s : Settings) (x : Task) → Ask words s x → Reports words texts a → ReportsTask texts s x a
  task_reported s x ask (usage none is) = absurd (nothing_asked words s x none ask)
  task_reported s x ask (printing u p t asked found print) = as_asked s u x (Print p) ask asked (t, found, print)
  task_reported s x ask (checking u p y t asked found check) = as_asked s u x (Check p y) ask asked (t, found, check)
  task_reported s x ask (replaying u p y t asked found replay) = as_asked s u x (Replay p y) ask asked (t, found, replay)
  task_reported s x ask (verifying u p t asked found verify) = as_asked s u x (Verify p) ask asked (t, found, verify)
  task_reported s x ask (seeking u p y t asked found seek) = as_asked s u x (Lasso p y) ask asked (t, found, seek)
  task_reported s x ask (ranking u p y t asked found check) = as_asked s u x (Ranked p y) ask asked (t, found, check)
  task_reported s x ask (generating u count asked big) = as_asked s u x (Big count) ask asked big

  -- and where they ask for nothing it is the usage line
  pub usage_reported : requested words ≡ None → Reports words texts a → a ≡ answer usage_line 4
  usage_reported none (usage none' is) = is
  usage_reported none (printing u p t asked found print) = absurd (nothing_asked words u (Print p) none asked)
  usage_reported none (checking u p y t asked found check) = absurd (nothing_asked words u (Check p y) none asked)
  usage_reported none (replaying u p y t asked found replay) = absurd (nothing_asked words u (Replay p y) none asked)
  usage_reported none (verifying u p t asked found verify) = absurd (nothing_asked words u (Verify p) none asked)
  usage_reported none (seeking u p y t asked found seek) = absurd (nothing_asked words u (Lasso p y) none asked)
  usage_reported none (ranking u p y t asked found check) = absurd (nothing_asked words u (Ranked p y) none asked)
  usage_reported none (generating u count asked big) = absurd (nothing_asked words u (Big count) none asked)
