-- What contracts and laws say by the report: what words ask for, what an answer is, and what has become of it.
use Rattle.std.specs.Prelude.{◌≡◌, ◌⊎◌, ℕ, List, ◌++◌, Option, None, Some, codes, IfSome}
use Rattle.outer_io.specs.Lines.{lines_of}
use Rattle.outer_io.specs.Texts.{text_named, GainsFront}
use Rattle.boogie_tree.specs.Tree.{Declaration}
use Rattle.boogie_parse.specs.Rules.GrammarLimits.{IsProgram}
use Rattle.typed_tree.specs.TypedTree.{TypedProgram}
use Rattle.boogie_types.specs.Resolved.{resolved_program}
use Rattle.boogie_run.specs.RunRules.Runs.{Fails, IsSafe}
use Rattle.boogie_run.specs.declared.types.AssertId.{AssertId}
use Rattle.proof_form.specs.Standing.{FirstWrongOfText}
use Rattle.trace_replay.specs.FailureText.{PlainFailure}
use Rattle.trace_replay.specs.Replays.{IsReplayed}
use Rattle.race_core.specs.declared.events.Entry.{Entry}
use Rattle.race_core.specs.Races.{Race}
use Rattle.itp_automaton.specs.Certified.{Certificate}
use Rattle.automizer_top.specs.GeneratedProgram.Generated.{generated}
use Rattle.automizer_top.specs.CommandLine.{Check, Replay, Print, Verify, Big, Settings}
use Rattle.text_reports.specs.ReportTexts.{Answer, syntax_answer}
use Rattle.automizer_top.specs.Report.{Ask, IsTypedText, IsFailureText, ReportsVerdict, Reports}

-- ---- what an answer is

-- the answer is a verdict on this program, of a race that began with no entry where no earlier annotation is named
abbrev pub IsVerdictOn : List (List ℕ) → List (List ℕ × List ℕ) → TypedProgram → Answer → Type 0
IsVerdictOn words texts t a = (s : Settings) × (program text : List ℕ) × Ask words s (Verify program) × (text_named program texts ≡ Some text)
    × IsTypedText s.entry text t × (given : Option (Entry Certificate)) × (s.reuse ≡ None → given ≡ None) × ReportsVerdict given s.limits t a

-- an earlier annotation is named, and its text is none: this is its first wrong line
abbrev pub RefusesEarlier : Settings → List (List ℕ × List ℕ) → Answer → Type 0
RefusesEarlier s texts a = (old text : List ℕ) × (line : ℕ) × (s.reuse ≡ Some old) × (text_named old texts ≡ Some text)
    × FirstWrongOfText (lines_of text) line × (a ≡ syntax_answer line)

-- the answer spells values that replay, and their run fails this assertion
abbrev pub PrintsFailure : TypedProgram → Answer → Type 0
PrintsFailure t a = (f : PlainFailure) × (id : AssertId) × Fails t id.number × IsFailureText a.bytes f × IsReplayed t f.steps f.choices id

-- ---- what words ask for, and what is so of that

-- The words ask for the printing of a program that stands in the texts.
abbrev pub PrintsProgram : List (List ℕ) → List (List ℕ × List ℕ) → Type 0
PrintsProgram words texts = (s : Settings) × (program text : List ℕ) × (ds : List Declaration) × Ask words s (Print program)
    × (text_named program texts ≡ Some text) × IsProgram text ds

-- The words ask for a check of this program, which stands in the texts and keeps the typing rules.
pub record AsksForCheck (words : List (List ℕ)) (texts : List (List ℕ × List ℕ)) (t : TypedProgram) : Type 0 where
  pub settings : Settings
  pub program : List ℕ
  pub second : List ℕ
  pub asked : Ask words settings (Check program second)
  pub text : List ℕ
  pub found : text_named program texts ≡ Some text
  pub typed : IsTypedText settings.entry text t

-- The words ask for the verdict on this program, which stands in the texts and keeps the typing rules.
pub record AsksForVerdict (words : List (List ℕ)) (texts : List (List ℕ × List ℕ)) (t : TypedProgram) : Type 0 where
  pub settings : Settings
  pub program : List ℕ
  pub asked : Ask words settings (Verify program)
  pub text : List ℕ
  pub found : text_named program texts ≡ Some text
  pub typed : IsTypedText settings.entry text t

-- The program whose check or verdict they ask for is safe: no run of it fails an assertion.
abbrev pub ProgramIsSafe : List (List ℕ) → List (List ℕ × List ℕ) → Type 0
ProgramIsSafe words texts = (t : TypedProgram) × (AsksForCheck words texts t ⊎ AsksForVerdict words texts t) × IsSafe t

-- The words ask for the replay of a failure of a program, both of which stand in the texts, and its values lead to the failure of
-- this assertion.
pub record AsksForFailing (words : List (List ℕ)) (texts : List (List ℕ × List ℕ)) (program second text values : List ℕ) (t : TypedProgram) (f : PlainFailure) (id : AssertId) : Type 0 where
  pub settings : Settings
  pub asked : Ask words settings (Replay program second)
  pub found : text_named program texts ≡ Some text
  pub typed : IsTypedText settings.entry text t
  pub told : text_named second texts ≡ Some values
  pub read : IsFailureText values f
  pub replays : IsReplayed t f.steps f.choices id

abbrev pub ProgramFails : List (List ℕ) → List (List ℕ × List ℕ) → Type 0
ProgramFails words texts = (program second text values : List ℕ) × (t : TypedProgram) × (f : PlainFailure) × (id : AssertId)
    × AsksForFailing words texts program second text values t f id

-- The words ask for the generated program, and it is safe: no run of it fails an assertion.
abbrev pub GeneratedIsSafe : List (List ℕ) → Type 0
GeneratedIsSafe words = (s : Settings) × (count : ℕ) × (t : TypedProgram) × Ask words s (Big count)
    × (resolved_program (generated count) (codes "main") ≡ Some t) × IsSafe t

-- The program has the same text and the same entry in both, both or none go by parts, and the second name stands for the bytes of an answer.
pub record IsHandedOver (program second : List ℕ) (r s : Settings) (before after : List (List ℕ × List ℕ)) (a : Answer) : Type 0 where
  pub entry : s.entry ≡ r.entry
  pub modular : s.modular ≡ r.modular
  pub same : text_named program after ≡ text_named program before
  pub given : text_named second after ≡ Some a.bytes

-- ---- what has become of an answer

-- What holds of the texts and of what was taken before, where the shelf and the sink tell these.
abbrev pub WhereTold : Option (List (List ℕ × List ℕ)) → Option (List ℕ) → (List (List ℕ × List ℕ) → List ℕ → Type 0) → Type 0
WhereTold texts taken P = IfSome texts (λ shown. IfSome taken (λ before. P shown before))

-- The status is that of an answer that the report allows; a sink that tells what it takes has taken all its bytes.
pub record Answers (words : List (List ℕ)) (texts : List (List ℕ × List ℕ)) (before after : Option (List ℕ)) (status : ℕ) (a : Answer) : Type 0 where
  pub reported : Reports words texts a
  pub status_is : status ≡ a.status
  pub taken : IfSome before (λ bytes. after ≡ Some (bytes ++ a.bytes))

-- The same, and `closed` has gained the races of that answer.
pub record Closes (words : List (List ℕ)) (texts : List (List ℕ × List ℕ)) (before after : Option (List ℕ)) (status : ℕ) (old new : List (Race Certificate)) : Type 0 where
  pub given : Answer
  pub answers : Answers words texts before after status given
  pub gained : new ≡ old ++ given.races

-- The sink has taken a front of the bytes of an answer that the report allows, and `closed` has gained its races.
pub record ClosesAtFront (words : List (List ℕ)) (texts : List (List ℕ × List ℕ)) (before after : Option (List ℕ)) (old new : List (Race Certificate)) : Type 0 where
  pub given : Answer
  pub reported : Reports words texts given
  pub taken : IfSome before (λ bytes. GainsFront given.bytes bytes after)
  pub gained : new ≡ old ++ given.races

-- The sink has taken nothing, or a front of the bytes of an answer that the report allows.
abbrev pub TookFront : List (List ℕ) → List (List ℕ × List ℕ) → List ℕ → Option (List ℕ) → Type 0
TookFront words texts before after = (after ≡ Some before) ⊎ ((a : Answer) × Reports words texts a × GainsFront a.bytes before after)
