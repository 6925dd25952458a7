-- What Decide answers of rows alone, by the outcome of their elimination, and when its numbers fit.
use Rattle.std.proofs.Common.{◌≡◌, ℕ, zero, suc, ℤ, List, [], ◌∷◌, ◌++◌, Option, Some, ap, ◌∙◌, subst, sym}
use Rattle.frac.specs.Fractions.{Fraction}
use Rattle.lin_rows.specs.Rows.{LinearRow}
use Rattle.farkas_check.specs.Nodes.{leaf, cut}
use Rattle.farkas_check.specs.Refutes.{at_most, above}
use Rattle.fm_elim.specs.Elimination as outcome
use Rattle.int_decide.specs.Decisions.{Decision, refuted, gap, beside, under, UnlessWhole}
use Rattle.int_decide.specs.Decide.{first_broken, by_values, by_outcome, decide_rows}
use Rattle.fm_elim.specs.Quotients.{floor}
use Rattle.int_decide.specs.Numbers.{WhereBroken, WhereCut, RowsFit}

-- ---- the decision

-- what a value that is not whole leads to
abbrev pub broken_of : ℕ → ℕ → List LinearRow → ℕ → ℤ → Decision
broken_of n zero rows c k = gap
broken_of n (suc d) rows c k = under (cut c k) (beside (decide_rows n d (rows ++ at_most c k ∷ [])) (decide_rows n d (rows ++ above c k ∷ [])))

pub by_elimination : (n d : ℕ) (rows : List LinearRow) (o : outcome.EliminationOutcome) → outcome.elimination n rows ≡ o → decide_rows n d rows ≡ by_outcome (broken_of n d rows) o
by_elimination n zero rows o e = ap (by_outcome (broken_of n zero rows)) e
by_elimination n (suc d) rows o e = ap (by_outcome (broken_of n (suc d) rows)) e

pub rows_refuted : (n d : ℕ) (rows : List LinearRow) (parts : List (ℕ × ℤ)) → outcome.elimination n rows ≡ outcome.refuted parts → decide_rows n d rows ≡ refuted (leaf parts ∷ [])
rows_refuted n d rows parts e = by_elimination n d rows (outcome.refuted parts) e

pub rows_at : (n d : ℕ) (rows : List LinearRow) (values : List Fraction) (x : Option (ℕ × Fraction)) → outcome.elimination n rows ≡ outcome.point values → first_broken 0 values ≡ x →
    decide_rows n d rows ≡ by_values (broken_of n d rows) values x
rows_at n d rows values x e b = by_elimination n d rows (outcome.point values) e ∙ ap (by_values (broken_of n d rows) values) b

-- ---- its numbers

-- what a value that is not whole has to meet
abbrev pub BrokenFits : ℕ → ℕ → List LinearRow → ℕ → ℤ → Type 0
BrokenFits n zero rows c k = Unit {0}
BrokenFits n (suc d) rows c k =
    RowsFit n d (rows ++ at_most c k ∷ []) × UnlessWhole (decide_rows n d (rows ++ at_most c k ∷ [])) (RowsFit n d (rows ++ above c k ∷ []))

-- the numbers are those of the elimination, and those of both sides of a cut
pub rows_fit : (n d : ℕ) (rows : List LinearRow) (o : outcome.EliminationOutcome) → outcome.elimination n rows ≡ o → outcome.EliminationFits n rows → WhereCut (BrokenFits n d rows) o → RowsFit n d rows
rows_fit n zero rows o e f w = f
rows_fit n (suc d) rows o e f w = (f, subst (WhereCut (BrokenFits n (suc d) rows)) (sym e) w)

pub rows_fit_elimination : (n d : ℕ) (rows : List LinearRow) → RowsFit n d rows → outcome.EliminationFits n rows
rows_fit_elimination n zero rows h = h
rows_fit_elimination n (suc d) rows h = h.0

pub rows_fit_cut : (n d : ℕ) (rows : List LinearRow) (values : List Fraction) (x : ℕ × Fraction) → outcome.elimination n rows ≡ outcome.point values → first_broken 0 values ≡ Some x →
    RowsFit n (suc d) rows → BrokenFits n (suc d) rows x.0 (floor x.1)
rows_fit_cut n d rows values x e b h =
    subst (WhereBroken (BrokenFits n (suc d) rows)) b (subst (WhereCut (BrokenFits n (suc d) rows)) e h.1)

pub cut_fits : (n d : ℕ) (rows : List LinearRow) (values : List Fraction) (x : Option (ℕ × Fraction)) → outcome.elimination n rows ≡ outcome.point values → first_broken 0 values ≡ x →
    outcome.EliminationFits n rows → WhereBroken (BrokenFits n d rows) x → RowsFit n d rows
cut_fits n d rows values x e b f w =
    rows_fit n d rows (outcome.point values) e f (subst (WhereBroken (BrokenFits n d rows)) (sym b) w)
