-- Why the loop over the columns computes what the recursion defines.
use Rattle.std.proofs.Common.{◌≡◌, ◌↔◌, ℕ, zero, suc, ◌+◌, ◌-◌, List, [], ◌∷◌, ◌++◌, Option, None, Some, length, refl, sym, ap, ◌∙◌, subst, arith}
use Rattle.fm_elim.specs.Folds.{first}
use Rattle.fm_elim.specs.Derivations.{DerivedRow, is_false, refuting}
use Rattle.fm_elim.specs.Columns.{SetAside, Eliminated, elimination_step, EliminationStepFits}
use Rattle.fm_elim.specs.Elimination.{EliminationOutcome, refuted, point, unless_false, UnlessFalse, extended, ExtendedFits, solve, SolveFits}
use Rattle.fm_elim.specs.Ties.Climb.{climb, ClimbFits, SetsColumn, SetColumns, IsDown, IsBottom}
use Rattle.fm_elim.proofs.SetColumnLemmas.{step_sets}

pub climb_push : (n k : ℕ) (asides : List SetAside) (a : SetAside) (o : EliminationOutcome) → suc k + length asides ≡ n → climb n (asides ++ a ∷ []) o ≡ climb n asides (extended k a o)
climb_push n k [] a o h = ap (λ (m : ℕ). extended m a o) (let e : n - 1 ≡ k = omega arith in e)
climb_push n k (b ∷ asides) a o h = ap (λ (x : EliminationOutcome). extended (n - 1) b x) (climb_push (n - 1) k asides a o (omega arith))

pub climb_fits_push : (n k : ℕ) (asides : List SetAside) (a : SetAside) (o : EliminationOutcome) → suc k + length asides ≡ n →
    ClimbFits n (asides ++ a ∷ []) o ↔ (ClimbFits n asides (extended k a o) × ExtendedFits k a o)
climb_fits_push n k [] a o h =
    let e : n - 1 ≡ k = omega arith in
    (λ x. (tt, subst (λ (m : ℕ). ExtendedFits m a o) e x.1), λ x. (tt, subst (λ (m : ℕ). ExtendedFits m a o) (sym e) x.1))
climb_fits_push n k (b ∷ asides) a o h =
    let e : climb (n - 1) (asides ++ a ∷ []) o ≡ climb (n - 1) asides (extended k a o) = climb_push (n - 1) k asides a o (omega arith) in
    let f : ClimbFits (n - 1) (asides ++ a ∷ []) o ↔ (ClimbFits (n - 1) asides (extended k a o) × ExtendedFits k a o) = climb_fits_push (n - 1) k asides a o (omega arith) in (
      λ x. let y = f.0 x.0 in ((y.0, subst (λ (z : EliminationOutcome). ExtendedFits (n - 1) b z) e x.1), y.1),
      λ x. (f.1 (x.0.0, x.1), subst (λ (z : EliminationOutcome). ExtendedFits (n - 1) b z) (sym e) x.0.1),
    )

pub set_columns_push : (n k : ℕ) (asides : List SetAside) (a : SetAside) → suc k + length asides ≡ n → SetColumns n (asides ++ a ∷ []) ↔ (SetColumns n asides × SetsColumn k a)
set_columns_push n k [] a h =
    let e : n - 1 ≡ k = omega arith in
    (λ x. (tt, subst (λ (m : ℕ). SetsColumn m a) e x.0), λ x. (subst (λ (m : ℕ). SetsColumn m a) (sym e) x.1, tt))
set_columns_push n k (b ∷ asides) a h =
    let f : SetColumns (n - 1) (asides ++ a ∷ []) ↔ (SetColumns (n - 1) asides × SetsColumn k a) = set_columns_push (n - 1) k asides a (omega arith) in
    (λ x. let y = f.0 x.1 in ((x.0, y.0), y.1), λ x. (x.0.0, f.1 (x.0.1, x.1)))

pub down_start : (n : ℕ) (rows : List DerivedRow) → IsDown n rows n rows []
down_start n rows = record { value = refl; fits = (λ x. (tt, x), λ x. x.1); height = omega arith; set = tt }

-- without a false row, one column is eliminated
solve_more : (k : ℕ) (rows : List DerivedRow) → first is_false rows ≡ None → solve (suc k) rows ≡ extended k (elimination_step k rows).aside (solve k (elimination_step k rows).rows)
solve_more k rows h = ap (λ (o : Option DerivedRow). unless_false o (extended k (elimination_step k rows).aside (solve k (elimination_step k rows).rows))) h

abbrev MoreFits : ℕ → List DerivedRow → Type 0
MoreFits k rows = EliminationStepFits k rows × SolveFits k (elimination_step k rows).rows × ExtendedFits k (elimination_step k rows).aside (solve k (elimination_step k rows).rows)

fits_more : (k : ℕ) (rows : List DerivedRow) → first is_false rows ≡ None → SolveFits (suc k) rows ↔ MoreFits k rows
fits_more k rows h =
    (λ x. subst (λ (o : Option DerivedRow). UnlessFalse o (MoreFits k rows)) h x, λ x. subst (λ (o : Option DerivedRow). UnlessFalse o (MoreFits k rows)) (sym h) x)

pub down_more : (n : ℕ) (given : List DerivedRow) (left k : ℕ) (rows : List DerivedRow) (asides : List SetAside) (e : Eliminated) → IsDown n given left rows asides →
    left ≡ suc k → first is_false rows ≡ None → EliminationStepFits k rows × (e ≡ elimination_step k rows) → IsDown n given k e.rows (asides ++ e.aside ∷ [])
down_more n given left k rows asides e d l h s =
    subst (λ (x : Eliminated). IsDown n given k x.rows (asides ++ x.aside ∷ [])) (sym s.1)
    (at_step (subst (λ (m : ℕ). IsDown n given m rows asides) l d))
  where
    at_step : IsDown n given (suc k) rows asides → IsDown n given k (elimination_step k rows).rows (asides ++ (elimination_step k rows).aside ∷ [])
    at_step d =
        let a : SetAside = (elimination_step k rows).aside in
        let o : EliminationOutcome = solve k (elimination_step k rows).rows in
        let p : climb n (asides ++ a ∷ []) o ≡ climb n asides (extended k a o) = climb_push n k asides a o d.height in
        let q : ClimbFits n (asides ++ a ∷ []) o ↔ (ClimbFits n asides (extended k a o) × ExtendedFits k a o) = climb_fits_push n k asides a o d.height in
        let m : solve (suc k) rows ≡ extended k a o = solve_more k rows h in
        let f : SolveFits (suc k) rows ↔ MoreFits k rows = fits_more k rows h in
        record {
          value = d.value ∙ ap (λ (x : EliminationOutcome). climb n asides x) m ∙ sym p;
          fits = (
            λ x. let y = d.fits.0 x in let z = f.0 y.1 in (q.1 (subst (λ (w : EliminationOutcome). ClimbFits n asides w) m y.0, z.2), z.1),
            λ x. let y = q.0 x.0 in d.fits.1 (subst (λ (w : EliminationOutcome). ClimbFits n asides w) (sym m) y.0, f.1 (s.0, x.1, y.1)),
          );
          height = (let e : length (asides ++ a ∷ []) ≡ suc (length asides) = length_push asides a in let g : suc k + length asides ≡ n = d.height in omega arith);
          set = (set_columns_push n k asides a d.height).1 (d.set, step_sets k rows);
        }
      where
        length_push : (xs : List SetAside) (x : SetAside) → length (xs ++ x ∷ []) ≡ suc (length xs)
        length_push [] x = refl
        length_push (y ∷ xs) x = ap suc (length_push xs x)

-- a number of the step that does not fit
pub down_past : (n : ℕ) (given : List DerivedRow) (left k : ℕ) (rows : List DerivedRow) (asides : List SetAside) → IsDown n given left rows asides → left ≡ suc k →
    first is_false rows ≡ None → SolveFits n given → EliminationStepFits k rows
down_past n given left k rows asides d l h x =
    ((fits_more k rows h).0 (subst (λ (m : ℕ). SolveFits m rows) l (d.fits.0 x).1)).0

-- a false row refutes
pub down_refuted : (n : ℕ) (given : List DerivedRow) (left : ℕ) (rows : List DerivedRow) (asides : List SetAside) (r : DerivedRow) → IsDown n given left rows asides →
    first is_false rows ≡ Some r → IsBottom n given asides (refuted (refuting r))
down_refuted n given left rows asides r d h = by_left left d
  where
    is_refuted : (m : ℕ) → solve m rows ≡ refuted (refuting r)
    is_refuted zero = ap (λ (o : Option DerivedRow). unless_false o (point [])) h
    is_refuted (suc k) = ap (λ (o : Option DerivedRow). unless_false o (extended k (elimination_step k rows).aside (solve k (elimination_step k rows).rows))) h

    fit : (m : ℕ) → SolveFits m rows
    fit zero = tt
    fit (suc k) = subst (λ (o : Option DerivedRow). UnlessFalse o (MoreFits k rows)) (sym h) tt

    by_left : (m : ℕ) → IsDown n given m rows asides → IsBottom n given asides (refuted (refuting r))
    by_left m d = record {
      value = d.value ∙ ap (λ (x : EliminationOutcome). climb n asides x) (is_refuted m);
      fits = (
        λ x. subst (λ (w : EliminationOutcome). ClimbFits n asides w) (is_refuted m) (d.fits.0 x).0,
        λ x. d.fits.1 (subst (λ (w : EliminationOutcome). ClimbFits n asides w) (sym (is_refuted m)) x, fit m),
      );
      height = tt;
      set = d.set;
    }

-- no column is left
pub down_end : (n : ℕ) (given : List DerivedRow) (left : ℕ) (rows : List DerivedRow) (asides : List SetAside) → IsDown n given left rows asides → left ≡ 0 →
    first is_false rows ≡ None → IsBottom n given asides (point [])
down_end n given left rows asides d l h = at_end (subst (λ (m : ℕ). IsDown n given m rows asides) l d)
  where
    is_point : solve zero rows ≡ point []
    is_point = ap (λ (o : Option DerivedRow). unless_false o (point [])) h

    at_end : IsDown n given zero rows asides → IsBottom n given asides (point [])
    at_end d = record {
      value = d.value ∙ ap (λ (x : EliminationOutcome). climb n asides x) is_point;
      fits = (
        λ x. subst (λ (w : EliminationOutcome). ClimbFits n asides w) is_point (d.fits.0 x).0,
        λ x. d.fits.1 (subst (λ (w : EliminationOutcome). ClimbFits n asides w) (sym is_point) x, tt),
      );
      height = d.height;
      set = d.set;
    }
