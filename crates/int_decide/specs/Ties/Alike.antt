-- Decide by outcomes that stand in for those of its eliminations: the same but for multipliers, and for what comes after a value
-- that is not whole.
use Rattle.std.specs.Prelude.{◌≡◌, ℕ, ℤ, List, [], ◌∷◌, None, Some, map}
use Rattle.std.specs.List.{AllByRecursion}
use Rattle.math_facts.specs.Fits.{Fits}
use Rattle.frac.specs.Fractions.{Fraction, IsFraction}
use Rattle.lin_rows.specs.declared.systems.System.{System}
use Rattle.lin_rows.specs.Rows.{LinearRow}
use Rattle.lin_rows.specs.Systems.{Meets}
use Rattle.lin_rows.specs.Tightening.{tightened}
use Rattle.farkas_check.specs.Refutes.{Goal}
use Rattle.fm_elim.specs.Elimination as outcome
use Rattle.fm_elim.specs.Worth.{MeetsAll}
use Rattle.int_decide.specs.declared.search.Search.{Search}
use Rattle.int_decide.specs.declared.search.Step.{Step}
use Rattle.int_decide.specs.declared.search.Step.TheVariants.{Gone, Met, Lost}
use Rattle.int_decide.specs.declared.deciding.Ending.{Ending}
use Rattle.int_decide.specs.declared.deciding.Ending.TheVariants as ending
use Rattle.int_decide.specs.Decisions.{Decision, refuted, whole, gap, beside, all_beside}
use Rattle.int_decide.specs.Decide.{first_broken, decide}
use Rattle.int_decide.specs.Ties.Searching.{Task, Standing, standing_of, IsPaired, after_outcome, after_cases, values_if, whole_outcome, cut_at, IsReady, found_by, decide_task, SomeMet, IsPoint}

-- ---- one elimination

-- the first value that is not whole stands in the same column, above the same whole number; or all are whole, and the same
pub record IsCutAlike (own values : List Fraction) : Type 0 where
  pub cuts : cut_at (first_broken 0 own) ≡ cut_at (first_broken 0 values)
  pub numbers : values_if own (first_broken 0 own) ≡ values_if values (first_broken 0 values)

-- both refute, or both are points that are cut alike
abbrev pub AreAlike : outcome.EliminationOutcome → outcome.EliminationOutcome → Type 0
AreAlike (outcome.refuted own) (outcome.refuted parts) = Unit {0}
AreAlike (outcome.refuted own) (outcome.point values) = ⊥
AreAlike (outcome.point own) (outcome.refuted parts) = ⊥
AreAlike (outcome.point own) (outcome.point values) = IsCutAlike own values

abbrev pub MeetsIfPoint : ℕ → List LinearRow → outcome.EliminationOutcome → Type 0
MeetsIfPoint n rows (outcome.refuted parts) = Unit {0}
MeetsIfPoint n rows (outcome.point values) = MeetsAll n rows values

-- the outcome stands in for that of the elimination; a point meets the rows
pub record StandsIn (n : ℕ) (rows : List LinearRow) (o : outcome.EliminationOutcome) : Type 0 where
  pub alike : AreAlike (outcome.elimination n rows) o
  pub meets : MeetsIfPoint n (map tightened rows) o

-- ---- the decision

-- the decision without the nodes of its refutation
abbrev pub bare : Decision → Decision
bare (refuted ns) = refuted []
bare (whole x) = whole x
bare gap = gap

-- ---- the search

-- how it stands after the goal, where an outcome stands in for that of its elimination
abbrev pub StandsAfter : ℕ → Task → Standing → Standing → List (List System) → Type 0
StandsAfter n t old new [] = (o : outcome.EliminationOutcome) × (StandsIn n t.goal.rows o × (whole_outcome o ≡ None) × (new ≡ after_outcome t old o))
StandsAfter n t old new (members ∷ groups) = new ≡ after_cases t old members groups

-- the goal is decided by one step, without a whole point
pub record GoesOn (n : ℕ) (t : Task) (old new : Search) : Type 0 where
  pub stands : StandsAfter n t (standing_of old) (standing_of new) t.goal.groups
  pub paired : IsPaired new

-- the goal, of rows alone, is met by a whole point
pub record IsMetBy (n : ℕ) (g : Goal) (numbers : List ℤ) : Type 0 where
  pub alone : g.groups ≡ []
  pub values : List Fraction
  pub found : StandsIn n g.rows (outcome.point values)
  pub valid : AllByRecursion IsFraction values
  pub are_whole : values_if values (first_broken 0 values) ≡ Some numbers
  pub fit : AllByRecursion Fits numbers

abbrev pub Steps : ℕ → Task → Search → Search → Step → Type 0
Steps n t old new Gone = GoesOn n t old new
Steps n t old new (Met numbers) = IsMetBy n t.goal numbers.items
Steps n t old new Lost = Unit {0}

-- Where the search has come: the decision of the system is what was found so far beside those of the goals that wait, but for
-- nodes.
pub record ComesTo (n d : ℕ) (s : System) (now : Standing) : Type 0 where
  pub value : bare (decide n d s) ≡ bare (beside (found_by now.gap now.nodes) (all_beside (map (decide_task n) now.tasks)))
  pub ready : AllByRecursion (IsReady n) now.tasks
  pub met : (point : ℕ → ℤ) → SomeMet point now.tasks → Meets point s

-- how it ends: nothing is said of the nodes that it found
abbrev pub EndsAlike : ℕ → ℕ → System → Ending → Type 0
EndsAlike n d s (ending.Closed nodes) = Unit {0}
EndsAlike n d s (ending.Met numbers) = IsPoint n d s numbers.items
EndsAlike n d s ending.Open = decide n d s ≡ gap
