-- Each row that a step sets aside has the column.
use Rattle.std.proofs.Common.{◌≡◌, ◌≢◌, ℕ, ℤ, pos, ◌<ℤ◌, true, List, Option, None, Some, ap, arith}
use Rattle.std.specs.Prelude.{MatchOption, unsigned_abs}
use Rattle.std.specs.List.{filter, flat_map}
use Rattle.std.proofs.lemmas.Int.{ints}
use Rattle.fm_elim.specs.Folds.{first}
use Rattle.fm_elim.specs.Derivations.{DerivedRow, at, is_upper, is_lower}
use Rattle.fm_elim.specs.Columns.{is_pivot, halves, elimination_step_by, elimination_step}
use Rattle.fm_elim.specs.Ties.Climb.{SetsColumn}
use Rattle.fm_elim.proofs.Lists.{all_weaker, all_always, all_first}
use Rattle.fm_elim.proofs.Multipliers.{less_is}
use Rattle.fm_elim.proofs.Clearing.{pivot_is_unit}
use Rattle.fm_elim.proofs.Points.{Anything, passing}

unit_nonzero : (z : ℤ) → unsigned_abs z ≡ 1 → z ≢ pos 0
unit_nonzero z h e = let a : unsigned_abs z ≡ 0 = ap unsigned_abs e in omega arith

upper_nonzero : (z : ℤ) → pos 0 <ℤ z → z ≢ pos 0
upper_nonzero z h e = omega (arith, ints)

lower_nonzero : (z : ℤ) → z <ℤ pos 0 → z ≢ pos 0
lower_nonzero z h e = omega (arith, ints)

step_by_sets : (k : ℕ) (o : Option DerivedRow) (rows : List DerivedRow) → MatchOption o (Unit {0}) (λ e. Anything e × (is_pivot k e ≡ true)) →
    SetsColumn k (elimination_step_by k o rows).aside
step_by_sets k (Some e) rows h = unit_nonzero (at k e) (pivot_is_unit k e h.1)
step_by_sets k None rows h =
    let all : List DerivedRow = flat_map (halves k) rows in (
      all_weaker (λ r. is_lower k r ≡ true) (λ r. at k r ≢ pos 0) (filter (is_lower k) all) (λ r i. lower_nonzero (at k r) (less_is (at k r) (pos 0) i)) (passing (is_lower k) all),
      all_weaker (λ r. is_upper k r ≡ true) (λ r. at k r ≢ pos 0) (filter (is_upper k) all) (λ r i. upper_nonzero (at k r) (less_is (pos 0) (at k r) i)) (passing (is_upper k) all),
    )

pub step_sets : (k : ℕ) (rows : List DerivedRow) → SetsColumn k (elimination_step k rows).aside
step_sets k rows = step_by_sets k (first (is_pivot k) rows) rows (all_first Anything (is_pivot k) rows (all_always Anything rows (λ r. tt)))
