-- What the way down and the way back find is the outcome.
use Rattle.std.proofs.Common.{◌≡◌, ℕ, ◌-◌, ℤ, List, [], ◌∷◌, refl, sym, ap, ◌∙◌, subst}
use Rattle.frac.specs.Fractions.{Fraction}
use Rattle.fm_elim.specs.Derivations.{DerivedRow}
use Rattle.fm_elim.specs.Columns.{SetAside}
use Rattle.fm_elim.specs.Elimination.{EliminationOutcome, refuted, point, extended, ExtendedFits, solve, SolveFits}
use Rattle.fm_elim.specs.Ties.Climb.{climb, ClimbFits, IsBottom}

climb_refuted : (n : ℕ) (asides : List SetAside) (parts : List (ℕ × ℤ)) → climb n asides (refuted parts) ≡ refuted parts
climb_refuted n [] parts = refl
climb_refuted n (a ∷ rest) parts = ap (λ (o : EliminationOutcome). extended (n - 1) a o) (climb_refuted (n - 1) rest parts)

climb_fits_refuted : (n : ℕ) (asides : List SetAside) (parts : List (ℕ × ℤ)) → ClimbFits n asides (refuted parts)
climb_fits_refuted n [] parts = tt
climb_fits_refuted n (a ∷ rest) parts =
    (climb_fits_refuted (n - 1) rest parts, subst (λ (o : EliminationOutcome). ExtendedFits (n - 1) a o) (sym (climb_refuted (n - 1) rest parts)) tt)

-- a false row
pub refuted_found : (n : ℕ) (rows : List DerivedRow) (asides : List SetAside) (parts : List (ℕ × ℤ)) → IsBottom n rows asides (refuted parts) →
    SolveFits n rows × (refuted parts ≡ solve n rows)
refuted_found n rows asides parts d = (d.fits.1 (climb_fits_refuted n asides parts), sym (d.value ∙ climb_refuted n asides parts))

-- a value for each column
pub point_found : (n : ℕ) (rows : List DerivedRow) (asides : List SetAside) (values : List Fraction) → IsBottom n rows asides (point []) →
    ClimbFits n asides (point []) × (climb n asides (point []) ≡ point values) → SolveFits n rows × (point values ≡ solve n rows)
point_found n rows asides values d h = (d.fits.1 h.0, sym (d.value ∙ h.1))
