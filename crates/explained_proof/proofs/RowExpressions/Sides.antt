-- The terms on a side, from a place on.
use Rattle.std.proofs.Common.{◌≡◌, ℕ, zero, suc, ◌+◌, ◌<◌, ℤ, pos, Bool, true, false, List, [], ◌∷◌, length, drop, get_or, refl, ap, ◌∙◌, arith}
use Rattle.std.proofs.lemmas.List.{drop_more}
use Rattle.std.specs.List.{AllByRecursion}
use Rattle.math_facts.specs.Fits.{Fits}
use Rattle.lin_rows.specs.Rows.{IsCoefficient}
use Rattle.explained_proof.specs.RowExpressions.Options.{in_front}
use Rattle.explained_proof.specs.RowExpressions.Scopes.{ClauseScope}
use Rattle.explained_proof.specs.RowExpressions.Sums.{term_said, is_on, side}

pub coefficient_fits : (ts : List (ℕ × ℤ)) (i : ℕ) → i < length ts → AllByRecursion IsCoefficient ts → Fits (get_or ts i (0, pos 0)).1
coefficient_fits [] i l h = absurd (omega (arith, l))
coefficient_fits (t ∷ ts) zero l h = h.0.fits
coefficient_fits (t ∷ ts) (suc i) l h = coefficient_fits ts i (omega (arith, l)) h.1

first_skipped : (s : ClauseScope) (b : Bool) (t : ℕ × ℤ) (ts : List (ℕ × ℤ)) → is_on b t.1 ≡ false → side s b (t ∷ ts) ≡ side s b ts
first_skipped s b t ts h = rw h refl

first_taken : (s : ClauseScope) (b : Bool) (t : ℕ × ℤ) (ts : List (ℕ × ℤ)) → is_on b t.1 ≡ true → side s b (t ∷ ts) ≡ in_front (term_said s t.0 t.1) (side s b ts)
first_taken s b t ts h = rw h refl

module _ (s : ClauseScope) (b : Bool) (ts : List (ℕ × ℤ)) (i : ℕ) (l : i < length ts) where
  -- the term at a place stands on the other side
  pub side_skips : is_on b (get_or ts i (0, pos 0)).1 ≡ false → side s b (drop i ts) ≡ side s b (drop (i + 1) ts)
  side_skips h = ap (side s b) (drop_more ts i (0, pos 0) l) ∙ first_skipped s b (get_or ts i (0, pos 0)) (drop (i + 1) ts) h

  -- it stands on this one
  pub side_takes : is_on b (get_or ts i (0, pos 0)).1 ≡ true →
      side s b (drop i ts) ≡ in_front (term_said s (get_or ts i (0, pos 0)).0 (get_or ts i (0, pos 0)).1) (side s b (drop (i + 1) ts))
  side_takes h = ap (side s b) (drop_more ts i (0, pos 0) l) ∙ first_taken s b (get_or ts i (0, pos 0)) (drop (i + 1) ts) h
