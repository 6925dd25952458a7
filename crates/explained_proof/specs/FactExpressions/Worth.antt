-- When facts hold at a point, and when what is said of them holds.
use Rattle.std.specs.Prelude.{◌≡◌, ℕ, ◌≤◌, ℤ, Bool, true, false, ◌&&◌, ◌||◌, not, List}
use Rattle.std.specs.List.{list_any, list_all, AllByRecursion}
use Rattle.boogie_tree.specs.Tree.{Expression}
use Rattle.triple_rows.specs.Predicates.{Formula, Formulas, truth, atom, and_of, or_of, no_formula, one_more, FormulaHolds, HasInequalities, nesting}
use Rattle.explained_proof.specs.BuiltExpressions.Laws.{all_hold}
use Rattle.explained_proof.specs.RowExpressions.Scopes.{ClauseScope, is_of_entry, entry_column}
use Rattle.explained_proof.specs.RowExpressions.Worth.{IsReading, HasColumns, row_holds}
use Rattle.explained_proof.specs.FactExpressions.Facts.{Facts, no_facts, facts_from}
use Rattle.explained_proof.specs.FactExpressions.Disjunctions.{Alternatives, either_of_all}
use Rattle.explained_proof.specs.FactExpressions.Conclusions.{facts_said, alternatives_said}

abbrev mutual
  -- the predicate holds at a point, each of its rows taken as an inequality
  pub formula_holds : (ℕ → ℤ) → Formula → Bool
  formula_holds point (truth b) = b
  formula_holds point (atom r) = row_holds point r false
  formula_holds point (and_of fs) = each_holds point fs
  formula_holds point (or_of fs) = some_holds point fs

  pub each_holds : (ℕ → ℤ) → Formulas → Bool
  each_holds point no_formula = true
  each_holds point (one_more f fs) = formula_holds point f && each_holds point fs

  pub some_holds : (ℕ → ℤ) → Formulas → Bool
  some_holds point no_formula = false
  some_holds point (one_more f fs) = formula_holds point f || some_holds point fs

-- all parts of a conjunction hold at a point
abbrev pub facts_hold : (ℕ → ℤ) → Facts → Bool
facts_hold point c = not c.never && (list_all (λ r. row_holds point r false) c.rows && list_all (formula_holds point) c.cases)

-- what all share holds at a point, and what is left of one
abbrev pub alternatives_hold : (ℕ → ℤ) → Alternatives → Bool
alternatives_hold point d = facts_hold point d.shared && list_any (facts_hold point) d.rests

-- A predicate that holds holds as inequalities; the other way round where its rows are inequalities.
abbrev pub HoldsAsInequalities : Type 0
HoldsAsInequalities = (point : ℕ → ℤ) (f : Formula) → FormulaHolds point f → formula_holds point f ≡ true

abbrev pub InequalitiesHold : Type 0
InequalitiesHold = (point : ℕ → ℤ) (f : Formula) → HasInequalities f → formula_holds point f ≡ true → FormulaHolds point f

-- the facts of several predicates hold exactly where each of them does
abbrev pub FactsAreTheirs : Type 0
FactsAreTheirs = (point : ℕ → ℤ) (fs : List Formula) → facts_hold point (facts_from fs no_facts) ≡ list_all (formula_holds point) fs

-- A disjunction, without what is left out and with what all share once, holds exactly where one of the facts does.
abbrev pub EitherHolds : Type 0
EitherHolds = (point : ℕ → ℤ) (cs : List Facts) → alternatives_hold point (either_of_all cs) ≡ list_any (facts_hold point) cs

-- Where a clause speaks of the entry of the frame, what a global had there is what it is.
abbrev pub HasEntryValues : ClauseScope → (ℕ → ℤ) → Type 0
HasEntryValues s point = is_of_entry s ≡ true → (n : ℕ) → point (entry_column s n) ≡ point n

-- the columns have the values of the point where the clause stands
pub record IsAt (worth : Expression → ℤ) (holds : Expression → Bool) (s : ClauseScope) (point : ℕ → ℤ) : Type 0 where
  pub reading : IsReading worth holds
  pub columns : HasColumns worth holds s point
  pub entry : HasEntryValues s point

-- a predicate with cases, as facts have them
abbrev pub begins_with_or : Formula → Bool
begins_with_or (truth b) = false
begins_with_or (atom r) = false
begins_with_or (and_of fs) = false
begins_with_or (or_of fs) = true

abbrev pub AreCases : Facts → Type 0
AreCases c = list_all begins_with_or c.cases ≡ true

-- as those of an annotation
abbrev pub AreShallow : Facts → Type 0
AreShallow c = AllByRecursion (λ f. nesting f ≤ 200) c.cases

-- As a conclusion facts say nothing that fails where they hold.
abbrev pub FactsFollow : Type 0
FactsFollow = (worth : Expression → ℤ) (holds : Expression → Bool) (s : ClauseScope) (point : ℕ → ℤ) (c : Facts) → IsAt worth holds s point → s.premise ≡ false → AreCases c →
    facts_hold point c ≡ true → all_hold holds (facts_said s c) ≡ true

-- As a premise what is said of them holds nowhere where they fail.
abbrev pub FactsAreImplied : Type 0
FactsAreImplied = (worth : Expression → ℤ) (holds : Expression → Bool) (s : ClauseScope) (point : ℕ → ℤ) (c : Facts) → IsAt worth holds s point → s.premise ≡ true → AreShallow c →
    all_hold holds (facts_said s c) ≡ true → facts_hold point c ≡ true

-- the same of a disjunction
pub record AreAlternatives (P : Facts → Type 0) (d : Alternatives) : Type 0 where
  pub shared : P d.shared
  pub rests : AllByRecursion P d.rests

abbrev pub AlternativesFollow : Type 0
AlternativesFollow = (worth : Expression → ℤ) (holds : Expression → Bool) (s : ClauseScope) (point : ℕ → ℤ) (d : Alternatives) → IsAt worth holds s point → s.premise ≡ false →
    AreAlternatives AreCases d → alternatives_hold point d ≡ true → all_hold holds (alternatives_said s d) ≡ true

abbrev pub AlternativesAreImplied : Type 0
AlternativesAreImplied = (worth : Expression → ℤ) (holds : Expression → Bool) (s : ClauseScope) (point : ℕ → ℤ) (d : Alternatives) → IsAt worth holds s point → s.premise ≡ true →
    AreAlternatives AreShallow d → all_hold holds (alternatives_said s d) ≡ true → alternatives_hold point d ≡ true
