-- One column is eliminated: by an equality with the coefficient 1 or -1 (Gauss), or by pairs of inequalities (Fourier, 1826; Motzkin, 1936).
use Rattle.std.specs.Prelude.{◌≡◌, ℕ, ◌/◌, ℤ, pos, negsuc, neg_ℤ, ◌*ℤ◌, Bool, ◌&&◌, not, List, [], ◌∷◌, ◌++◌, Option, None, Some, map, nat_eq, unsigned_abs, if◌then◌else◌}
use Rattle.std.specs.List.{filter, flat_map, AllByRecursion}
use Rattle.fm_elim.specs.Quotients.{common}
use Rattle.fm_elim.specs.Folds.{first, others, Where}
use Rattle.fm_elim.specs.Derivations.{DerivedRow, nothing_derived, plus_times, PlusTimesFits, at, has, is_upper, is_lower, is_equality}

-- what an eliminated column leaves for its value: the equality that forces it, or the inequalities below and above
pub data SetAside : Type 0 where
  forced : DerivedRow → SetAside
  bounded : List DerivedRow → List DerivedRow → SetAside

-- the rows without the column, and what is set aside
pub record Eliminated : Type 0 where
  pub rows : List DerivedRow
  pub aside : SetAside

-- ---- by an equality

-- an equality with the coefficient 1 or -1
abbrev pub is_pivot : ℕ → DerivedRow → Bool
is_pivot k r = is_equality r.row.kind && nat_eq (unsigned_abs (at k r)) 1

-- the multiplier of the equality with which the column leaves the row
abbrev pub clearing : ℕ → DerivedRow → DerivedRow → ℤ
clearing k e r = neg_ℤ (at k r *ℤ at k e)

-- the row without the column
abbrev pub cleared : ℕ → DerivedRow → DerivedRow → DerivedRow
cleared k e r = if has k r then plus_times r (clearing k e r) e else r

abbrev pub ClearedFits : ℕ → DerivedRow → DerivedRow → Type 0
ClearedFits k e r = Where (has k r) (PlusTimesFits r (clearing k e r) e)

-- ---- by pairs of inequalities

-- the two inequalities that an equality says
abbrev pub both_halves : DerivedRow → List DerivedRow
both_halves r = plus_times nothing_derived (pos 1) r ∷ plus_times nothing_derived (negsuc 0) r ∷ []

abbrev pub BothHalvesFit : DerivedRow → Type 0
BothHalvesFit r = PlusTimesFits nothing_derived (pos 1) r × PlusTimesFits nothing_derived (negsuc 0) r

-- an equality with the column becomes two inequalities
abbrev pub halves : ℕ → DerivedRow → List DerivedRow
halves k r = if is_equality r.row.kind && has k r then both_halves r else r ∷ []

abbrev pub HalvesFit : ℕ → DerivedRow → Type 0
HalvesFit k r = Where (is_equality r.row.kind && has k r) (BothHalvesFit r)

-- these lists end by the rows without the column, the lower bounds and the upper bounds, and begin by what they had before
pub record AreSides (k : ℕ) (rows old_without old_lowers old_uppers without lowers uppers : List DerivedRow) : Type 0 where
  pub rest : without ≡ old_without ++ filter (λ r. not (has k r)) rows
  pub below : lowers ≡ old_lowers ++ filter (is_lower k) rows
  pub above : uppers ≡ old_uppers ++ filter (is_upper k) rows

-- how often a row is taken in a pair: the other coefficient divided by the greatest common divisor of both
abbrev pub share : ℕ → DerivedRow → DerivedRow → ℤ
share k u l = pos (unsigned_abs (at k l) / common (unsigned_abs (at k u)) (unsigned_abs (at k l)))

abbrev pub other_share : ℕ → DerivedRow → DerivedRow → ℤ
other_share k u l = pos (unsigned_abs (at k u) / common (unsigned_abs (at k u)) (unsigned_abs (at k l)))

-- the sum of an upper and a lower bound in which the column cancels
abbrev pub pair : ℕ → DerivedRow → DerivedRow → DerivedRow
pair k u l = plus_times (plus_times nothing_derived (share k u l) u) (other_share k u l) l

abbrev pub PairFits : ℕ → DerivedRow → DerivedRow → Type 0
PairFits k u l =
    PlusTimesFits nothing_derived (share k u l) u × PlusTimesFits (plus_times nothing_derived (share k u l) u) (other_share k u l) l

-- all pairs, upper bounds outermost
abbrev pub pairs : ℕ → List DerivedRow → List DerivedRow → List DerivedRow
pairs k us ls = flat_map (λ u. map (pair k u) ls) us

abbrev pub PairsFit : ℕ → List DerivedRow → List DerivedRow → Type 0
PairsFit k us ls = AllByRecursion (λ u. AllByRecursion (PairFits k u) ls) us

-- ---- the step

-- the rows without the column stay, and the pairs follow
abbrev pub paired_off : ℕ → List DerivedRow → Eliminated
paired_off k rows = record {
  rows = filter (λ r. not (has k r)) rows ++ pairs k (filter (is_upper k) rows) (filter (is_lower k) rows);
  aside = bounded (filter (is_lower k) rows) (filter (is_upper k) rows);
}

abbrev pub CombinedFits : ℕ → List DerivedRow → Type 0
CombinedFits k rows = PairsFit k (filter (is_upper k) rows) (filter (is_lower k) rows)

abbrev pub elimination_step_by : ℕ → Option DerivedRow → List DerivedRow → Eliminated
elimination_step_by k (Some e) rows = record { rows = map (cleared k e) (others (is_pivot k) rows); aside = forced e }
elimination_step_by k None rows = paired_off k (flat_map (halves k) rows)

abbrev pub StepByFits : ℕ → Option DerivedRow → List DerivedRow → Type 0
StepByFits k (Some e) rows = AllByRecursion (ClearedFits k e) (others (is_pivot k) rows)
StepByFits k None rows = AllByRecursion (HalvesFit k) rows × CombinedFits k (flat_map (halves k) rows)

-- the column k is eliminated
abbrev pub elimination_step : ℕ → List DerivedRow → Eliminated
elimination_step k rows = elimination_step_by k (first (is_pivot k) rows) rows

abbrev pub EliminationStepFits : ℕ → List DerivedRow → Type 0
EliminationStepFits k rows = StepByFits k (first (is_pivot k) rows) rows
