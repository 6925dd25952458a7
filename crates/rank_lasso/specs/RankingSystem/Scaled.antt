-- A point of the ranking system as whole numbers, times the least common denominator of its values, and which numbers of the rank that it
-- gives have to fit.
use Rattle.std.specs.Prelude.{ℕ, ◌/◌, ◌*◌, ℤ, pos, ◌*ℤ◌, ◌≡◌, List, [], ◌∷◌, ◌++◌, map, unsigned_abs}
use Rattle.std.specs.List.{AllByRecursion}
use Rattle.math_facts.specs.Fits.{Fits}
use Rattle.frac.specs.Fractions.{Fraction}
use Rattle.lin_rows.specs.Rows.{LinearRow, IsRow}
use Rattle.lin_rows.specs.Tightening.{tightened}
use Rattle.farkas_check.specs.Nodes.{leaf}
use Rattle.fm_elim.specs.Quotients.{common}
use Rattle.fm_elim.specs.Values.{value_at}
use Rattle.int_decide.specs.Numbers.{LeafFits}
use Rattle.rank_lasso.specs.LassoTurns.Turns.{Turn}
use Rattle.rank_lasso.specs.LassoTurns.Claims.{IsFormOver, unfallen, unbounded}
use Rattle.rank_lasso.specs.declared.ranking_system.points.LinearRank.{LinearRank}
use Rattle.rank_lasso.specs.RankingSystem.RankingSystem.{rank_terms, rank_bound, falls_leaf, bounded_leaf}

-- the least common multiple
abbrev pub common_multiple : ℕ → ℕ → ℕ
common_multiple a b = (a / common a b) * b

-- that of a number and the denominators
abbrev pub multiple_with : ℕ → List Fraction → ℕ
multiple_with m [] = m
multiple_with m (f ∷ fs) = multiple_with (common_multiple (unsigned_abs f.den) m) fs

-- the least common denominator
abbrev pub least_denominator : List Fraction → ℕ
least_denominator values = multiple_with 1 values

-- the numerator of a fraction over d
abbrev pub numerator_over : ℕ → Fraction → ℤ
numerator_over d f = f.num *ℤ pos (d / unsigned_abs f.den)

abbrev pub scaled_point : List Fraction → ℕ → ℤ
scaled_point values c = numerator_over (least_denominator values) (value_at values c)

-- the row's numbers fit, and so do those of the leaf that takes it, tightened, behind the rows
pub record ClaimFits (rows : List LinearRow) (r : LinearRow) (parts : List (ℕ × ℤ)) : Type 0 where
  pub is_row : IsRow r
  pub leaf : LeafFits (rows ++ tightened r ∷ []) parts

-- the numbers of the scaled point fit
pub record ScaleFits (values : List Fraction) : Type 0 where
  pub denominator : Fits (pos (least_denominator values))
  pub numerators : AllByRecursion (λ f. Fits (numerator_over (least_denominator values) f)) values

-- the numbers of the rank at a point fit, and those of both leaves
pub record RankAtFits (t : Turn) (rows : List LinearRow) (p : ℕ → ℤ) : Type 0 where
  pub bound : Fits (rank_bound rows p)
  pub falls : ClaimFits rows (unfallen t (rank_terms t rows p)) (falls_leaf t rows p)
  pub bounded : ClaimFits rows (unbounded t (rank_terms t rows p) (rank_bound rows p)) (bounded_leaf t rows p)

-- the numbers of the scaled point fit, and those of the rank there
pub record ScaledRankFits (t : Turn) (values : List Fraction) : Type 0 where
  pub scale : ScaleFits values
  pub rank : RankAtFits t (map tightened t.rows) (scaled_point values)

-- the numbers are the values over their least common denominator, and fit
pub record IsScaled (values : List Fraction) (numbers : List ℤ) : Type 0 where
  pub are : numbers ≡ map (numerator_over (least_denominator values)) values
  pub fit : AllByRecursion Fits numbers

-- the rank is the one at the point, over a frame of this width, with its two leaves
pub record IsRankAt (t : Turn) (width : ℕ) (rows : List LinearRow) (p : ℕ → ℤ) (r : LinearRank) : Type 0 where
  pub terms : r.terms.items ≡ rank_terms t rows p
  pub bound : r.bound ≡ rank_bound rows p
  pub falls : r.falls ≡ leaf (falls_leaf t rows p) ∷ []
  pub bounded : r.bounded ≡ leaf (bounded_leaf t rows p) ∷ []
  pub form : IsFormOver width r.terms.items
  pub bound_fits : Fits r.bound
