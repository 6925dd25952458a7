-- What contracts and laws say by the report on parts.
use Rattle.std.specs.Prelude.{◌≡◌, ℕ, true, List, ◌++◌, Some, Contains}
use Rattle.outer_io.specs.Texts.{text_named}
use Rattle.typed_tree.specs.TypedTree.{TypedProgram}
use Rattle.boogie_run.specs.declared.types.AssertId.{AssertId}
use Rattle.modular_cut.specs.Parts.{PlainPart, parts_of}
use Rattle.trace_replay.specs.FailureText.{PlainFailure}
use Rattle.trace_replay.specs.Replays.{IsReplayed}
use Rattle.automizer_top.specs.CommandLine.{Replay, Verify, Settings}
use Rattle.automizer_top.specs.PartTexts.{part_line}
use Rattle.automizer_top.specs.Parts.{ReportsParts}
use Rattle.text_reports.specs.ReportTexts.{Answer}
use Rattle.automizer_top.specs.Report.{Ask, IsTypedText, IsFailureText}
use Rattle.automizer_top.specs.ReportClaims.{PrintsFailure}

-- the answer tells verdicts on the parts of this program
abbrev pub AreVerdictsOn : List (List ℕ) → List (List ℕ × List ℕ) → TypedProgram → Answer → Type 0
AreVerdictsOn words texts t a = (s : Settings) × (program text : List ℕ) × Ask words s (Verify program) × (s.modular ≡ true)
    × (text_named program texts ≡ Some text) × IsTypedText s.entry text t × ReportsParts s.limits (parts_of t) a

-- the answer names a part, and spells values that replay in it, and their run fails an assertion of that part
abbrev pub PrintsPartFailure : TypedProgram → Answer → Type 0
PrintsPartFailure t a = (p : PlainPart) × Contains (parts_of t) p × (b : Answer) × (a.bytes ≡ part_line p.name ++ b.bytes) × PrintsFailure p.program b

-- The words ask for the replay of a failure of a part of a program, both of which stand in the texts, and its values lead to the failure of this
-- assertion. So the specifications do not suffice for that part; of the whole program nothing is said.
pub record AsksForFailingPart (words : List (List ℕ)) (texts : List (List ℕ × List ℕ)) (program second text values : List ℕ) (t : TypedProgram) (p : PlainPart) (f : PlainFailure) (id : AssertId) : Type 0 where
  pub settings : Settings
  pub asked : Ask words settings (Replay program second)
  pub modular : settings.modular ≡ true
  pub found : text_named program texts ≡ Some text
  pub typed : IsTypedText settings.entry text t
  pub is_part : Contains (parts_of t) p
  pub told : text_named second texts ≡ Some (part_line p.name ++ values)
  pub read : IsFailureText values f
  pub replays : IsReplayed p.program f.steps f.choices id

abbrev pub PartFails : List (List ℕ) → List (List ℕ × List ℕ) → Type 0
PartFails words texts = (program second text values : List ℕ) × (t : TypedProgram) × (p : PlainPart) × (f : PlainFailure) × (id : AssertId)
    × AsksForFailingPart words texts program second text values t p f id
