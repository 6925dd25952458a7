-- When what a row says holds.
use Rattle.std.specs.Prelude.{◌≡◌, ◌⊎◌, ℕ, ℤ, pos, ◌+ℤ◌, ◌*ℤ◌, Bool, true, false, not, ◌||◌, int_le, Some}
use Rattle.std.specs.Ordering.{int_eq}
use Rattle.boogie_tree.specs.declared.span.Span.{Span}
use Rattle.boogie_tree.specs.declared.tree.Op.TheVariants as ops
use Rattle.boogie_tree.specs.Tree.{Expression, Not}
use Rattle.math_facts.specs.Terms.{dot}
use Rattle.lin_rows.specs.Rows.{LinearRow}
use Rattle.explained_proof.specs.BuiltExpressions.Building.{number, operation}
use Rattle.explained_proof.specs.BuiltExpressions.Laws.{IsTruthTest, all_hold}
use Rattle.explained_proof.specs.RowExpressions.Scopes.{ClauseScope, is_truth, said, number_said}
use Rattle.explained_proof.specs.RowExpressions.Rows.{row_said}

-- what expressions are worth, and which of them hold: numbers and operations are taken for what they are
pub record IsReading (worth : Expression → ℤ) (holds : Expression → Bool) : Type 0 where
  pub numbers : (z : ℤ) → worth (number z) ≡ z
  pub sums : (a b : Expression) → worth (operation ops.Add a b) ≡ worth a +ℤ worth b
  pub products : (a b : Expression) → worth (operation ops.Mul a b) ≡ worth a *ℤ worth b
  pub at_most : (a b : Expression) → holds (operation ops.Le a b) ≡ int_le (worth a) (worth b)
  pub equal : (a b : Expression) → holds (operation ops.Eq a b) ≡ int_eq (worth a) (worth b)
  pub opposites : (at : Span) (e : Expression) → holds (Not at e) ≡ not (holds e)
  pub conclusions : (a b : Expression) → holds (operation ops.Implies a b) ≡ (not (holds a) || holds b)
  pub truths : IsTruthTest holds

-- The columns have these values where the clause stands: what they are called there is worth them, and boolean columns are 0 or 1, and hold where they are 1.
pub record HasColumns (worth : Expression → ℤ) (holds : Expression → Bool) (s : ClauseScope) (point : ℕ → ℤ) : Type 0 where
  pub columns : (n : ℕ) (e : Expression) → number_said s n ≡ Some e → worth e ≡ point n
  pub truths : (n : ℕ) (e : Expression) → is_truth s n ≡ true → said s n ≡ Some e → holds e ≡ int_eq (point n) (pos 1)
  pub bounded : (n : ℕ) → is_truth s n ≡ true → (point n ≡ pos 0) ⊎ (point n ≡ pos 1)

abbrev pub meets : Bool → ℤ → ℤ → Bool
meets true a b = int_eq a b
meets false a b = int_le a b

-- the row, taken as an equality or an inequality, holds at the point
abbrev pub row_holds : (ℕ → ℤ) → LinearRow → Bool → Bool
row_holds point r equal = meets equal (dot point r.terms) r.bound

-- As a conclusion a row says nothing that fails where the row holds.
abbrev pub ConclusionsFollow : Type 0
ConclusionsFollow = (worth : Expression → ℤ) (holds : Expression → Bool) (s : ClauseScope) (point : ℕ → ℤ) (r : LinearRow) (equal : Bool) →
    IsReading worth holds → HasColumns worth holds s point → s.premise ≡ false → row_holds point r equal ≡ true → all_hold holds (row_said s r equal) ≡ true

-- As a premise it holds nowhere where the row fails.
abbrev pub PremisesImply : Type 0
PremisesImply = (worth : Expression → ℤ) (holds : Expression → Bool) (s : ClauseScope) (point : ℕ → ℤ) (r : LinearRow) (equal : Bool) →
    IsReading worth holds → HasColumns worth holds s point → s.premise ≡ true → all_hold holds (row_said s r equal) ≡ true → row_holds point r equal ≡ true
