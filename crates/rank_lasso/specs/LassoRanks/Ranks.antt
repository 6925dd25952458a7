-- Ranks: a linear form over the frame that each turn of a loop lowers by at least 1, and that is at least a bound before each.
use Rattle.std.specs.Prelude.{◌≡◌, ◌⊎◌, ℕ, zero, suc, ℤ, pos, ◌+ℤ◌, ◌-ℤ◌, ◌≤ℤ◌, List, [], ◌++◌, length}
use Rattle.std.specs.Int.{int_max}
use Rattle.math_facts.specs.Fits.{Fits}
use Rattle.math_facts.specs.Terms.{dot}
use Rattle.lin_rows.specs.Points.{point_of}
use Rattle.farkas_check.specs.Nodes.{PlainNode}
use Rattle.letter_acts.specs.Acts.{Alphabet, frame_of}
use Rattle.letter_acts.specs.Invariant.{Graph, alphabet_of}
use Rattle.rank_lasso.specs.declared.lasso_ranks.rankings.Ranking.{Ranking}
use Rattle.rank_lasso.specs.declared.lasso_ranks.rankings.Ranking.TheVariants as rankings
use Rattle.rank_lasso.specs.LassoTurns.Turns.{LeadsAlong}
use Rattle.rank_lasso.specs.LassoTurns.Claims.{IsFormOver, unfallen, unbounded, RefutesTurn, RefutesWith}
use Rattle.rank_lasso.specs.LassoRanks.Lassos.{PlainLasso, entry_proc, loop_turn, whole_turn}

-- ---- rankings

-- a rank, its bound, and the refutations that show that it falls and that it is bounded; or a refutation of the stem and one turn
pub data PlainRanking : Type 0 where
  ranked_by : List (ℕ × ℤ) → ℤ → List PlainNode → List PlainNode → PlainRanking
  excluded_by : List PlainNode → PlainRanking

abbrev pub plain_ranking : Ranking → PlainRanking
plain_ranking (rankings.Rank terms bound falls bounded) = ranked_by terms.items bound falls bounded
plain_ranking (rankings.Excluded nodes) = excluded_by nodes

-- the terms are a form over the frame, and the bound fits
pub record IsRankOver (width : ℕ) (terms : List (ℕ × ℤ)) (bound : ℤ) : Type 0 where
  pub form : IsFormOver width terms
  pub bound_fits : Fits bound

-- what is asked of a ranking: its rank is one over the frame of place 0
abbrev pub IsRankingOver : Graph → PlainRanking → Type 0
IsRankingOver g (ranked_by terms bound falls bounded) = IsRankOver (length (frame_of (alphabet_of g) (entry_proc g))) terms bound
IsRankingOver g (excluded_by nodes) = Unit {0}

-- ---- when a ranking holds

-- each refutation of the ranking refutes what it is to refute
abbrev pub Ranks : Graph → PlainLasso → PlainRanking → Type 0
Ranks g l (ranked_by terms b falls bounded) =
    RefutesWith (loop_turn g l) (unfallen (loop_turn g l) terms) falls × RefutesWith (loop_turn g l) (unbounded (loop_turn g l) terms b) bounded
Ranks g l (excluded_by nodes) = RefutesTurn (whole_turn g l) nodes

-- the line of a ranking's text with the first refutation that does not
abbrev pub IsFirstFailing : Graph → PlainLasso → PlainRanking → ℕ → Type 0
IsFirstFailing g l (ranked_by terms b falls bounded) line =
    ((line ≡ 6) × (RefutesWith (loop_turn g l) (unfallen (loop_turn g l) terms) falls → ⊥)) ⊎
    ((line ≡ 7) × RefutesWith (loop_turn g l) (unfallen (loop_turn g l) terms) falls × (RefutesWith (loop_turn g l) (unbounded (loop_turn g l) terms b) bounded → ⊥))
IsFirstFailing g l (excluded_by nodes) line = (line ≡ 4) × (RefutesTurn (whole_turn g l) nodes → ⊥)

-- ---- what a ranking says

-- the value of the rank in a state
abbrev pub rank_of : List (ℕ × ℤ) → List ℤ → ℤ
rank_of terms s = dot (point_of s) terms

-- the letters so many times
abbrev pub times : ℕ → List ℕ → List ℕ
times zero ns = []
times (suc k) ns = ns ++ times k ns

-- k is at most 0 or the rank in s less the bound and 1 more, whichever is greater
abbrev pub AreFew : List (ℕ × ℤ) → ℤ → List ℤ → ℕ → Type 0
AreFew terms b s k = pos k ≤ℤ int_max (pos 0) ((rank_of terms s -ℤ b) +ℤ pos 1)

-- No states obey more turns of the loop than the rank in the first of them allows; or none obey the stem and one turn.
abbrev pub HasFewTurns : Graph → PlainLasso → PlainRanking → Type 0
HasFewTurns g l (ranked_by terms b falls bounded) =
    (k : ℕ) (s u : List ℤ) → LeadsAlong (alphabet_of g) (entry_proc g) (times k l.loop) s u → AreFew terms b s k
HasFewTurns g l (excluded_by nodes) = (s u : List ℤ) → LeadsAlong (alphabet_of g) (entry_proc g) (l.stem ++ l.loop) s u → ⊥

-- states obey the stem, and behind it the loop again and again
pub record GoesForEver (al : Alphabet) (p : ℕ) (stem loop : List ℕ) : Type 0 where
  pub start : List ℤ
  pub states : ℕ → List ℤ
  pub enters : LeadsAlong al p stem start (states 0)
  pub turns : (n : ℕ) → LeadsAlong al p loop (states n) (states (suc n))

-- no states do
abbrev pub LassoEnds : Graph → PlainLasso → Type 0
LassoEnds g l = GoesForEver (alphabet_of g) (entry_proc g) l.stem l.loop → ⊥
