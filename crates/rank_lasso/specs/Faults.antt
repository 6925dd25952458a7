-- What is read from the texts of lassos and rankings, and the first line of a text that cannot stand where it stands.
use Rattle.std.specs.Prelude.{◌≡◌, ℕ, ◌<◌, List, take, Some}
use Rattle.outer_io.specs.Lines.{lines_of}
use Rattle.letter_acts.specs.Invariant.{Graph}
use Rattle.rank_lasso.specs.declared.lasso_ranks.lassos.LassoFault.{LassoFault}
use Rattle.rank_lasso.specs.declared.lasso_ranks.lassos.LassoFault.TheVariants.{Syntax, BadName, BadStep, Memory}
use Rattle.rank_lasso.specs.LassoRanks.Lassos.{PlainLasso}
use Rattle.rank_lasso.specs.LassoRanks.Ranks.{PlainRanking}
use Rattle.rank_lasso.specs.LassoText.{IsWritable, lasso_lines}
use Rattle.rank_lasso.specs.RankingText.{RankingForm, IsForm, ranking_lines, ranking_text}
use Rattle.rank_lasso.specs.Naming.{ranking_named, bad_line}

-- these are the lines of some lasso's text
abbrev pub AreOfLasso : List (List ℕ) → Type 0
AreOfLasso lines = (l : PlainLasso) × IsWritable l × (lines ≡ lasso_lines l)

-- these are the lines of some ranking's text
abbrev pub AreOfRanking : List (List ℕ) → Type 0
AreOfRanking lines = (l : PlainLasso) × (f : RankingForm) × IsWritable l × IsForm f × (lines ≡ ranking_lines l f)

-- The text begins with the first n lines of a text of this form; n lines of a text that has fewer are all of it.
abbrev pub BeginsAs : (List (List ℕ) → Type 0) → ℕ → List ℕ → Type 0
BeginsAs AreOfForm n text = (lines : List (List ℕ)) × AreOfForm lines × (take n (lines_of text) ≡ take n lines)

-- This line cannot stand there, while those before it can. Where the text ends too early, it is the line that is missing.
pub record IsFirstFaultAs (AreOfForm : List (List ℕ) → Type 0) (text : List ℕ) (line : ℕ) : Type 0 where
  pub before : (n : ℕ) → n < line → BeginsAs AreOfForm n text
  pub here : BeginsAs AreOfForm line text → ⊥

-- why a text is not a lasso's
abbrev pub IsLassoFault : List ℕ → LassoFault → Type 0
IsLassoFault text (Syntax line) = IsFirstFaultAs AreOfLasso text line
IsLassoFault text (BadName line) = ⊥
IsLassoFault text (BadStep line) = ⊥
IsLassoFault text Memory = Unit {0}

-- the text spells this ranking of this lasso over the graph
pub record IsReadAs (g : Graph) (text : List ℕ) (l : PlainLasso) (r : PlainRanking) : Type 0 where
  pub form : RankingForm
  pub writable : IsWritable l
  pub is_form : IsForm form
  pub spelled : text ≡ ranking_text l form
  pub named : ranking_named g form ≡ Some r

-- the text has its form, and this is its first line that names what is not there
pub record IsBadlyNamed (g : Graph) (text : List ℕ) (line : ℕ) : Type 0 where
  pub lasso : PlainLasso
  pub form : RankingForm
  pub writable : IsWritable lasso
  pub is_form : IsForm form
  pub spelled : text ≡ ranking_text lasso form
  pub here : bad_line g form ≡ Some line

-- why a text is not one of a ranking over the graph
abbrev pub IsRankingFault : Graph → List ℕ → LassoFault → Type 0
IsRankingFault g text (Syntax line) = IsFirstFaultAs AreOfRanking text line
IsRankingFault g text (BadName line) = IsBadlyNamed g text line
IsRankingFault g text (BadStep line) = ⊥
IsRankingFault g text Memory = Unit {0}
