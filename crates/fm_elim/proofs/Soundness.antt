-- The outcome of the elimination is true of the tightened rows.
use Rattle.std.proofs.Common.{◌≡◌, ℕ, suc, ℤ, List, [], ◌∷◌, Result, Ok, Err, map, sym, ap, ◌∙◌, subst}
use Rattle.std.specs.Prelude.{IfOk}
use Rattle.std.specs.List.{AllByRecursion}
use Rattle.lin_rows.specs.Rows.{LinearRow, IsRow, RowsBelow}
use Rattle.lin_rows.specs.Tightening.{tightened}
use Rattle.lin_rows.proofs.TighteningLaw.{tightened_is_row}
use Rattle.fm_elim.specs.declared.types.Elim.{Elim}
use Rattle.fm_elim.specs.declared.types.ElimFault.{ElimFault}
use Rattle.fm_elim.specs.Answers.{Exactly, outcome_of}
use Rattle.fm_elim.specs.Derivations.{DerivedRow, inputs}
use Rattle.fm_elim.specs.Elimination.{EliminationOutcome, refuted, point, elimination, solve, SolveFits}
use Rattle.fm_elim.specs.Worth.{Combines, HoldsAt, IsWorth}
use Rattle.fm_elim.proofs.Lists.{all_weaker}
use Rattle.fm_elim.proofs.Multipliers.{IfRefuted, solve_refutes}
use Rattle.fm_elim.proofs.Inputs.{inputs_are_made, inputs_are_clear, inputs_are_ordered}
use Rattle.fm_elim.proofs.Points.{RowHolds, MeetsRows, IfPoint, solve_meets}

pub inputs_hold : (d : ℤ) (p : ℕ → ℤ) (n : ℕ) (rows : List LinearRow) → AllByRecursion (RowHolds d p) (inputs n rows) → AllByRecursion (HoldsAt d p) (map tightened rows)
inputs_hold d p n [] h = tt
inputs_hold d p n (r ∷ rs) h = (h.0, inputs_hold d p (suc n) rs h.1)

worth_of : (n : ℕ) (rows : List LinearRow) (o : EliminationOutcome) → IfRefuted o (Combines (map tightened rows)) → IfPoint o (MeetsRows n (inputs 0 rows)) →
    IsWorth n (map tightened rows) o
worth_of n rows (refuted parts) h m = h
worth_of n rows (point values) h m = record {
  columns = m.columns;
  d = m.d;
  p = m.p;
  positive = m.are_values.positive;
  values_are = λ c. (m.are_values.each c).ratio;
  holds = inputs_hold m.d m.p 0 rows m.holds;
}

pub is_worth : (n : ℕ) (rows : List LinearRow) → AllByRecursion (λ r. IsRow (tightened r)) rows → RowsBelow n rows → IsWorth n (map tightened rows) (elimination n rows)
is_worth n rows v b =
    worth_of n rows (elimination n rows) (solve_refutes (map tightened rows) n (inputs 0 rows) (inputs_are_made rows))
    (solve_meets n (inputs 0 rows) (inputs_are_clear n 0 rows b) (inputs_are_ordered 0 rows v))

pub rows_are_worth : (n : ℕ) (rows : List LinearRow) → AllByRecursion IsRow rows → RowsBelow n rows → IsWorth n (map tightened rows) (elimination n rows)
rows_are_worth n rows v b = is_worth n rows (all_weaker IsRow (λ r. IsRow (tightened r)) rows (λ r i. tightened_is_row r i) v) b

-- what is found is worth as much
pub worth_found : (n : ℕ) (rows : List LinearRow) (derived : List DerivedRow) (o : Result Elim ElimFault) → AllByRecursion (λ r. IsRow (tightened r)) rows → RowsBelow n rows →
    derived ≡ inputs 0 rows → Exactly o (λ e. outcome_of e ≡ solve n derived) (SolveFits n derived) → IfOk o (λ e. IsWorth n (map tightened rows) (outcome_of e))
worth_found n rows derived (Ok e) v b d h =
    subst (λ (x : EliminationOutcome). IsWorth n (map tightened rows) x) (sym (h.1 ∙ ap (λ (xs : List DerivedRow). solve n xs) d)) (is_worth n rows v b)
worth_found n rows derived (Err f) v b d h = tt
