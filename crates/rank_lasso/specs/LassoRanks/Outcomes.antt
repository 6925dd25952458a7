-- What the search for a ranking answers: one that holds, that there is none, or that a number does not fit.
use Rattle.std.specs.Prelude.{◌≡◌, ℕ, ℤ, List, [], ◌∷◌, map}
use Rattle.frac.specs.Fractions.{Fraction}
use Rattle.lin_rows.specs.Rows.{LinearRow}
use Rattle.lin_rows.specs.Tightening.{tightened}
use Rattle.farkas_check.specs.Nodes.{PlainNode, leaf}
use Rattle.fm_elim.specs.Elimination.{EliminationOutcome, refuted, point, elimination, EliminationFits}
use Rattle.fm_elim.specs.Worth.{IsSolvable}
use Rattle.int_decide.specs.Decisions as decisions
use Rattle.int_decide.specs.Decisions.{Decision, WhereRefuted}
use Rattle.int_decide.specs.Decide.{decide_rows}
use Rattle.int_decide.specs.Numbers.{RowsFit, LeavesFit}
use Rattle.letter_acts.specs.Invariant.{Graph}
use Rattle.rank_lasso.specs.LassoTurns.Turns.{Turn}
use Rattle.rank_lasso.specs.LassoTurns.Claims.{turn_goal}
use Rattle.rank_lasso.specs.RankingSystem.RankingSystem.{ranking_system, unknowns, rank_terms, rank_bound, falls_leaf, bounded_leaf}
use Rattle.rank_lasso.specs.RankingSystem.Scaled.{ScaledRankFits}
use Rattle.rank_lasso.specs.declared.lasso_ranks.ranking.Exclusion.{Exclusion}
use Rattle.rank_lasso.specs.declared.lasso_ranks.ranking.Exclusion.TheVariants.{Refuted, Unrefuted, Past}
use Rattle.rank_lasso.specs.declared.lasso_ranks.rankings.Ranked.{Ranked}
use Rattle.rank_lasso.specs.declared.lasso_ranks.rankings.Ranked.TheVariants.{Found, NoRank, Number}
use Rattle.rank_lasso.specs.LassoRanks.Lassos.{PlainLasso, loop_turn, whole_turn}
use Rattle.rank_lasso.specs.LassoRanks.Ranks.{PlainRanking, ranked_by, excluded_by, plain_ranking}

-- ---- Decide of a turn

-- what Decide says of the rows of a turn, with d cuts on a branch at most
abbrev pub decided_turn : ℕ → Turn → Decision
decided_turn d t = decide_rows t.columns d (map tightened t.rows)

-- it refutes them
abbrev pub DecideRefutes : ℕ → Turn → Type 0
DecideRefutes d t = (nodes : List PlainNode) × (decided_turn d t ≡ decisions.refuted nodes)

-- all numbers of it fit, those of its refutation too
pub record DecisionFits (d : ℕ) (t : Turn) : Type 0 where
  pub rows : RowsFit t.columns d (map tightened t.rows)
  pub leaves : WhereRefuted (decided_turn d t) (λ nodes. LeavesFit nodes (turn_goal t ∷ []))

-- Decide refutes the stem and one turn, and its numbers fit
pub record DecideExcludes (g : Graph) (l : PlainLasso) (depth : ℕ) : Type 0 where
  pub refuted : DecideRefutes depth (whole_turn g l)
  pub fits : DecisionFits depth (whole_turn g l)

abbrev pub WherePoint : EliminationOutcome → (List Fraction → Type 0) → Type 0
WherePoint (refuted parts) P = Unit {0}
WherePoint (point values) P = P values

-- ---- the answers

-- the ranking that whole values of the unknowns of the ranking system give, each of its two claims refuted by one leaf
abbrev pub ranking_at : Turn → List LinearRow → (ℕ → ℤ) → PlainRanking
ranking_at t rows p = ranked_by (rank_terms t rows p) (rank_bound rows p) (leaf (falls_leaf t rows p) ∷ []) (leaf (bounded_leaf t rows p) ∷ [])

-- all numbers of a linear rank fit: those of the elimination of the ranking system, and those of the rank at its point
pub record LinearFits (g : Graph) (l : PlainLasso) : Type 0 where
  pub elimination_fits : EliminationFits (unknowns (loop_turn g l)) (ranking_system (loop_turn g l))
  pub rank_fits : WherePoint (elimination (unknowns (loop_turn g l)) (ranking_system (loop_turn g l))) (ScaledRankFits (loop_turn g l))

-- and so do those of Decide
pub record RankFits (g : Graph) (l : PlainLasso) (depth : ℕ) : Type 0 where
  pub decide_fits : DecisionFits depth (whole_turn g l)
  pub linear_fits : LinearFits g l

-- no rational point meets the ranking system of the loop, and Decide does not refute the stem and one turn
pub record HasNoRank (g : Graph) (l : PlainLasso) (depth : ℕ) : Type 0 where
  pub unsolvable : IsSolvable (ranking_system (loop_turn g l)) → ⊥
  pub unrefuted : DecideRefutes depth (whole_turn g l) → ⊥

-- the ranking is a rank
abbrev pub IsRank : PlainRanking → Type 0
IsRank (ranked_by terms bound falls bounded) = Unit {0}
IsRank (excluded_by nodes) = ⊥

-- what a ranking that is found owes
abbrev pub WhereFound : Ranked → (PlainRanking → Type 0) → Type 0
WhereFound (Found ranking) P = P (plain_ranking ranking)
WhereFound NoRank P = Unit {0}
WhereFound Number P = Unit {0}

-- what an exclusion that is found owes
abbrev pub WhereExcluded : Exclusion → (List PlainNode → Type 0) → Type 0
WhereExcluded (Refuted nodes) P = P nodes
WhereExcluded Unrefuted P = Unit {0}
WhereExcluded Past P = Unit {0}
