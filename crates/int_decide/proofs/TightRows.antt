-- Rows that tightening leaves as they are, whatever their terms.
use Rattle.std.proofs.Common.{◌≡◌, ℕ, ℤ, List, [], ◌∷◌, map, refl}
use Rattle.std.specs.List.{AllByRecursion}
use Rattle.lin_rows.specs.Rows.{LinearRow}
use Rattle.lin_rows.specs.Tightening.{tightened}
use Rattle.farkas_check.specs.Refutes.{at_most, above}
use Rattle.int_decide.specs.Ties.Searching.{StaysTight}
use Rattle.int_decide.proofs.Tight.{tightened_twice, at_most_is_tight, above_is_tight}

-- rows once tightened
pub tightened_stay : (rows : List LinearRow) → AllByRecursion StaysTight (map tightened rows)
tightened_stay [] = tt
tightened_stay (r ∷ rs) = (tightened_twice r, tightened_stay rs)

pub tight_stay : (rows : List LinearRow) → AllByRecursion StaysTight rows → map tightened rows ≡ rows
tight_stay [] h = refl
tight_stay (r ∷ rs) h = λ i. h.0 i ∷ tight_stay rs h.1 i

-- the rows of a cut
pub at_most_stays : (c : ℕ) (k : ℤ) → StaysTight (at_most c k)
at_most_stays c k = (at_most_is_tight c k).stays

pub above_stays : (c : ℕ) (k : ℤ) → StaysTight (above c k)
above_stays c k = (above_is_tight c k).stays
