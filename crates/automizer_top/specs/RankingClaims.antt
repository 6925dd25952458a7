-- What contracts and laws say by the report on lassos and rankings.
use Rattle.std.specs.Prelude.{◌≡◌, ℕ, List, None, Some}
use Rattle.outer_io.specs.Texts.{text_named}
use Rattle.typed_tree.specs.TypedTree.{TypedProgram}
use Rattle.lowered_graph.specs.Items.{first_fault}
use Rattle.lowered_graph.specs.Lowered.{lowered}
use Rattle.rank_lasso.specs.LassoRanks.Lassos.{PlainLasso, IsLassoOf}
use Rattle.rank_lasso.specs.LassoRanks.Ranks.{PlainRanking, HasFewTurns, LassoEnds}
use Rattle.rank_lasso.specs.Faults.{IsReadAs}
use Rattle.automizer_top.specs.CommandLine.{Lasso, Ranked, Settings}
use Rattle.text_reports.specs.ReportTexts.{Answer}
use Rattle.automizer_top.specs.Report.{Ask, IsTypedText}
use Rattle.automizer_top.specs.Rankings.{IsLassoText, ReportsSearch}

-- The words ask for a ranking of this lasso of a program, both of which stand in the texts; the program keeps the typing rules and can be lowered.
pub record AsksForLasso (words : List (List ℕ)) (texts : List (List ℕ × List ℕ)) (s : Settings) (t : TypedProgram) (l : PlainLasso) : Type 0 where
  pub program : List ℕ
  pub second : List ℕ
  pub asked : Ask words s (Lasso program second)
  pub text : List ℕ
  pub found : text_named program texts ≡ Some text
  pub typed : IsTypedText s.entry text t
  pub lowers : first_fault t ≡ None
  pub told : List ℕ
  pub second_is : text_named second texts ≡ Some told
  pub read : IsLassoText told l
  pub is_lasso : IsLassoOf (lowered t) l

-- The words ask for the check of this ranking of this lasso of a program, which stand in the texts; the program keeps the typing rules and can be
-- lowered.
pub record AsksForRanked (words : List (List ℕ)) (texts : List (List ℕ × List ℕ)) (t : TypedProgram) (l : PlainLasso) (r : PlainRanking) : Type 0 where
  pub settings : Settings
  pub program : List ℕ
  pub second : List ℕ
  pub asked : Ask words settings (Ranked program second)
  pub text : List ℕ
  pub found : text_named program texts ≡ Some text
  pub typed : IsTypedText settings.entry text t
  pub lowers : first_fault t ≡ None
  pub told : List ℕ
  pub second_is : text_named second texts ≡ Some told
  pub read : IsReadAs (lowered t) told l r
  pub is_lasso : IsLassoOf (lowered t) l

-- The lasso for which they ask ends: no states obey its stem and then its loop again and again.
abbrev pub AskedLassoEnds : List (List ℕ) → List (List ℕ × List ℕ) → Type 0
AskedLassoEnds words texts = (s : Settings) × (t : TypedProgram) × (l : PlainLasso) × AsksForLasso words texts s t l × LassoEnds (lowered t) l

-- That of the ranking whose check they ask for does, too, and no states obey more turns of the loop than the rank in the first of them allows.
abbrev pub RankedLassoEnds : List (List ℕ) → List (List ℕ × List ℕ) → Type 0
RankedLassoEnds words texts = (t : TypedProgram) × (l : PlainLasso) × (r : PlainRanking) × AsksForRanked words texts t l r
    × HasFewTurns (lowered t) l r × LassoEnds (lowered t) l

-- the answer tells what the search for a ranking of this lasso has found
abbrev pub IsFoundOn : List (List ℕ) → List (List ℕ × List ℕ) → TypedProgram → PlainLasso → Answer → Type 0
IsFoundOn words texts t l a = (s : Settings) × AsksForLasso words texts s t l × ReportsSearch s.limits.depth (lowered t) l a
