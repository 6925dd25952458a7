-- The ranking system of a turn (Podelski and Rybalchenko, 2004): its unknowns are a multiplier of each row for the fall, one for the bound,
-- and the coefficients of the rank. Its rational points are ranks with a refutation of one leaf for each of their two claims.
use Rattle.std.specs.Prelude.{ℕ, zero, suc, ◌+◌, ℤ, pos, negsuc, neg_ℤ, List, [], ◌∷◌, ◌++◌, map, length, nat_eq, if◌then◌else◌}
use Rattle.math_facts.specs.Terms.{coefficient, dot, opposite}
use Rattle.lin_rows.specs.declared.types.RowKind.{RowKind}
use Rattle.lin_rows.specs.declared.types.RowKind.TheVariants.{Le, Eq}
use Rattle.lin_rows.specs.Rows.{LinearRow}
use Rattle.lin_rows.specs.Sums.{summed, row_of}
use Rattle.lin_rows.specs.Tightening.{content, tightened}
use Rattle.letter_acts.specs.FrameRows.Rows.{columns_from}
use Rattle.rank_lasso.specs.LassoTurns.Turns.{Turn}
use Rattle.rank_lasso.specs.LassoTurns.Claims.{unfallen, unbounded}

-- ---- the unknowns: of n rows the multipliers for the fall from 0 on, those for the bound from n on, and from 2n on the coefficients

-- these numbers as coefficients of the unknowns from n on
abbrev pub weighted : ℕ → List ℤ → List (ℕ × ℤ)
weighted n [] = []
weighted n (z ∷ zs) = (n, z) ∷ weighted (suc n) zs

-- the coefficients that a column of the turn has in the rows
abbrev pub across : ℕ → List LinearRow → List ℤ
across c rows = map (λ r. coefficient c r.terms) rows

-- the unknown coefficient of each column of the frame whose version is column c; the unknowns are those from n on
abbrev pub standing_at : ℕ → ℕ → List ℕ → List (ℕ × ℤ)
standing_at n c versions = weighted n (map (λ v. if nat_eq v c then pos 1 else pos 0) versions)

-- where the coefficients begin
abbrev pub first_coefficient : List LinearRow → ℕ
first_coefficient rows = length rows + length rows

-- ---- the rows

-- in column c the rows add up to `r(after) - r(before)`
abbrev pub falls_at : Turn → List LinearRow → ℕ → LinearRow
falls_at t rows c =
    row_of (weighted 0 (across c rows) ++ (standing_at (first_coefficient rows) c t.before ++ opposite (standing_at (first_coefficient rows) c t.after))) Eq (pos 0)

-- in column c the rows add up to `-r(before)`
abbrev pub bounded_at : Turn → List LinearRow → ℕ → LinearRow
bounded_at t rows c = row_of (weighted (length rows) (across c rows) ++ standing_at (first_coefficient rows) c t.before) Eq (pos 0)

-- the bounds add up to -1 at most
abbrev pub falls_by_one : List LinearRow → LinearRow
falls_by_one rows = row_of (weighted 0 (map (λ r. r.bound) rows)) Le (negsuc 0)

-- the unknown is at least 0
abbrev pub not_negative : ℕ → LinearRow
not_negative n = row_of ((n, negsuc 0) ∷ []) Le (pos 0)

-- both multipliers of an inequality are at least 0
abbrev pub signs_of : RowKind → ℕ → ℕ → List LinearRow
signs_of Le i j = not_negative i ∷ not_negative j ∷ []
signs_of Eq i j = []

abbrev pub signs : ℕ → ℕ → List LinearRow → List LinearRow
signs i j [] = []
signs i j (r ∷ rows) = signs_of r.kind i j ++ signs (suc i) (suc j) rows

-- the system for these rows of the turn
abbrev pub ranking_rows : Turn → List LinearRow → List LinearRow
ranking_rows t rows =
    map (falls_at t rows) (columns_from 0 t.columns) ++ (map (bounded_at t rows) (columns_from 0 t.columns) ++ (falls_by_one rows ∷ signs 0 (length rows) rows))

-- the ranking system of a turn: that of its tightened rows
abbrev pub ranking_system : Turn → List LinearRow
ranking_system t = ranking_rows t (map tightened t.rows)

-- how many unknowns it has
abbrev pub unknowns : Turn → ℕ
unknowns t = length t.rows + length t.rows + length t.before

-- ---- the ranking that whole values of the unknowns give

-- the values of so many unknowns from n on
abbrev pub values_from : (ℕ → ℤ) → ℕ → ℕ → List ℤ
values_from p n k = map p (columns_from n k)

abbrev pub rank_terms : Turn → List LinearRow → (ℕ → ℤ) → List (ℕ × ℤ)
rank_terms t rows p = summed (weighted 0 (values_from p (first_coefficient rows) (length t.before)))

abbrev pub rank_bound : List LinearRow → (ℕ → ℤ) → ℤ
rank_bound rows p = neg_ℤ (dot p (weighted (length rows) (map (λ r. r.bound) rows)))

-- how often the tightened row is taken to make the row itself
abbrev pub taken_by : ℕ → ℕ
taken_by zero = 1
taken_by (suc g) = suc g

-- the leaf with the multipliers from unknown o on, in which the row added behind the rows is taken once
abbrev pub leaf_parts : List LinearRow → (ℕ → ℤ) → ℕ → LinearRow → List (ℕ × ℤ)
leaf_parts rows p o r = summed (weighted 0 (values_from p o (length rows))) ++ (length rows, pos (taken_by (content r.terms))) ∷ []

abbrev pub falls_leaf : Turn → List LinearRow → (ℕ → ℤ) → List (ℕ × ℤ)
falls_leaf t rows p = leaf_parts rows p 0 (unfallen t (rank_terms t rows p))

abbrev pub bounded_leaf : Turn → List LinearRow → (ℕ → ℤ) → List (ℕ × ℤ)
bounded_leaf t rows p = leaf_parts rows p (length rows) (unbounded t (rank_terms t rows p) (rank_bound rows p))
