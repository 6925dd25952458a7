-- What is answered step by step where a ranking of a lasso is looked for, or checked: the second text is read, its letters are placed, and then a
-- ranking is found, or the refutations of the one that is given are checked.
use Rattle.std.specs.Prelude.{◌≡◌, ◌≢◌, ℕ, ◌≤◌, List, length, Option}
use Rattle.letter_acts.specs.Invariant.{Graph}
use Rattle.rank_lasso.specs.declared.lasso_ranks.lassos.LassoFault.{LassoFault}
use Rattle.rank_lasso.specs.declared.lasso_ranks.lassos.LassoFault.TheVariants.{Memory}
use Rattle.rank_lasso.specs.LassoRanks.Lassos.{PlainLasso, IsLassoOf, IsNoLassoBy}
use Rattle.rank_lasso.specs.LassoRanks.Ranks.{PlainRanking, Ranks, IsFirstFailing, IsRankingOver}
use Rattle.rank_lasso.specs.LassoRanks.Outcomes.{DecideExcludes, RankFits, HasNoRank, IsRank}
use Rattle.rank_lasso.specs.LassoText.{IsWritable, lasso_text}
use Rattle.rank_lasso.specs.Faults.{IsLassoFault, IsReadAs, IsRankingFault}
use Rattle.proof_check.specs.declared.rejects.RejectCause.TheVariants as rejects
use Rattle.text_reports.specs.ReportTexts.{Answer, answer, accepted_answer, failed_answer}
use Rattle.automizer_top.specs.ReportTexts.{fault_answer, no_ranking_answer, no_number_answer}
use Rattle.text_reports.specs.ReportCases.{second_limit, ReportsTyped, ReportsLowered, ReportsSecond}

-- the text is that of this lasso
pub record IsLassoText (text : List ℕ) (l : PlainLasso) : Type 0 where
  pub writable : IsWritable l
  pub spelled : text ≡ lasso_text l

-- ---- a ranking is looked for

-- The answer spells a ranking of the lasso that holds, and is no rank where Decide refutes the stem and one turn of the loop.
pub record FindsRanking (depth : ℕ) (g : Graph) (l : PlainLasso) (a : Answer) : Type 0 where
  pub ranking : PlainRanking
  pub text : List ℕ
  pub spelled : IsReadAs g text l ranking
  pub over : IsRankingOver g ranking
  pub holds : Ranks g l ranking
  pub excludes_first : IsRank ranking → DecideExcludes g l depth → ⊥
  pub short : length text ≤ second_limit
  pub is : a ≡ answer text 0

-- What is answered to a lasso of the graph of a program. Of these answers any that holds may be told: a ranking whose refutations have cuts may hold
-- where no linear rank has a proof without.
pub data ReportsSearch (depth : ℕ) (g : Graph) (l : PlainLasso) (a : Answer) : Type 0 where
  found_ranking : FindsRanking depth g l a → ReportsSearch depth g l a
  found_none : HasNoRank g l depth → a ≡ no_ranking_answer → ReportsSearch depth g l a
  past_number : (RankFits g l depth → ⊥) → a ≡ no_number_answer → ReportsSearch depth g l a

-- What is answered to the graph of a program and to the text of a lasso. The cases exclude each other.
pub data ReportsLassoText (depth : ℕ) (g : Graph) (text : List ℕ) (a : Answer) : Type 0 where
  no_lasso_text : (f : LassoFault) → IsLassoFault text f → f ≢ Memory → a ≡ fault_answer f → ReportsLassoText depth g text a
  no_lasso : (l : PlainLasso) (f : LassoFault) → IsLassoText text l → IsNoLassoBy g l f → f ≢ Memory → a ≡ fault_answer f →
      ReportsLassoText depth g text a
  of_lasso : (l : PlainLasso) → IsLassoText text l → IsLassoOf g l → ReportsSearch depth g l a → ReportsLassoText depth g text a

-- What is answered to a program text and to what the second name stands for, where a ranking is looked for. A program that is refused, also one that
-- cannot be lowered, is so whatever the second name stands for.
abbrev pub ReportsLasso : List ℕ → ℕ → List ℕ → Option (List ℕ) → Answer → Type 0
ReportsLasso entry depth program second = ReportsTyped entry program (λ t. ReportsLowered t (λ g. ReportsSecond second (ReportsLassoText depth g)))

-- ---- a ranking is checked

-- What is answered to the graph of a program and to the text of a ranking: the text is none, or names what is not there; its letters make no lasso of
-- the graph; or its refutations are checked. The cases exclude each other.
pub data ReportsRankingText (g : Graph) (text : List ℕ) (a : Answer) : Type 0 where
  no_ranking_text : (f : LassoFault) → IsRankingFault g text f → f ≢ Memory → a ≡ fault_answer f → ReportsRankingText g text a
  ranks_no_lasso : (l : PlainLasso) (r : PlainRanking) (f : LassoFault) → IsReadAs g text l r → IsNoLassoBy g l f → f ≢ Memory → a ≡ fault_answer f →
      ReportsRankingText g text a
  ranking_holds : (l : PlainLasso) (r : PlainRanking) → IsReadAs g text l r → IsLassoOf g l → Ranks g l r → a ≡ accepted_answer →
      ReportsRankingText g text a
  ranking_fails : (l : PlainLasso) (r : PlainRanking) (line : ℕ) → IsReadAs g text l r → IsLassoOf g l → IsFirstFailing g l r line →
      a ≡ failed_answer line rejects.BadTriple → ReportsRankingText g text a

-- What is answered to a program text and to what the second name stands for, where a ranking is checked.
abbrev pub ReportsRanked : List ℕ → List ℕ → Option (List ℕ) → Answer → Type 0
ReportsRanked entry program second = ReportsTyped entry program (λ t. ReportsLowered t (λ g. ReportsSecond second (ReportsRankingText g)))
