-- What words ask for, and what is answered where a race decides.
use Rattle.std.specs.Prelude.{◌≡◌, ℕ, ◌≤◌, List, length, Option, None, Some, codes}
use Rattle.typed_tree.specs.TypedTree.{TypedProgram}
use Rattle.boogie_types.specs.Resolved.{resolved_program}
use Rattle.lowered_graph.specs.Items.{first_fault}
use Rattle.race_core.specs.declared.events.Entry.{Entry}
use Rattle.race_core.specs.Races.{Race}
use Rattle.itp_automaton.specs.Certified.{Certificate}
use Rattle.race_rounds.specs.declared.limits.Limits.{Limits}
use Rattle.race_verdicts.specs.declared.verdicts.Verdict.{Verdict}
use Rattle.race_verdicts.specs.Verdicts.{IsVerdict}
use Rattle.automizer_top.specs.GeneratedProgram.Generated.{generated}
use Rattle.automizer_top.specs.CommandLine.{Task, Settings, requested}
use Rattle.automizer_top.specs.Verdicts.{IsClosedRace}
use Rattle.text_reports.specs.ReportTexts.{Answer}
use Rattle.text_reports.specs.ReportCases.{second_limit, ReportsTyped, ReportsLowered}
use Rattle.automizer_top.specs.ReportTexts.{verdict_answer, summary_answer}

-- the words ask for this task, with these settings
abbrev pub Ask : List (List ℕ) → Settings → Task → Type 0
Ask words s task = requested words ≡ Some (record { task = task; settings = s })

-- ---- a race decides

-- What is answered to a program that can be lowered, where its verdict is asked for: the verdict for which a race over it has ended, which began with
-- the entry that was given, where one was.
pub record ReportsVerdict (given : Option (Entry Certificate)) (l : Limits) (t : TypedProgram) (a : Answer) : Type 0 where
  pub race : Race Certificate
  pub verdict : Verdict
  pub closed : IsClosedRace t given l race
  pub of_end : IsVerdict t race verdict
  pub is : a ≡ verdict_answer race verdict

-- What is answered to a program text whose verdict is asked for. Of several verdicts any may be told. A verdict has no more bytes than a second
-- text may have, so that its text can be handed over.
abbrev pub ReportsVerify : List ℕ → Limits → List ℕ → Answer → Type 0
ReportsVerify entry l program = ReportsTyped entry program (λ t. ReportsLowered t (λ g a. ReportsVerdict None l t a × (length a.bytes ≤ second_limit)))

-- What is answered where the generated program of so many procedures is asked for: the summary of the verdict for which a race over it has ended.
-- This program is never refused.
pub record ReportsBig (l : Limits) (count : ℕ) (a : Answer) : Type 0 where
  pub program : TypedProgram
  pub typed : resolved_program (generated count) (codes "main") ≡ Some program
  pub lowers : first_fault program ≡ None
  pub race : Race Certificate
  pub verdict : Verdict
  pub closed : IsClosedRace program None l race
  pub of_end : IsVerdict program race verdict
  pub is : a ≡ summary_answer count race verdict
