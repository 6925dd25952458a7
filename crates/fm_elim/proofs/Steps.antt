-- What eliminating a column keeps.
use Rattle.std.proofs.Common.{◌≡◌, ℕ, ℤ, pos, negsuc, Bool, true, false, ◌&&◌, not, List, [], ◌∷◌, Option, None, Some, map, refl, inl, inr, arith, if◌then◌else◌}
use Rattle.std.specs.Prelude.{MatchOption}
use Rattle.std.specs.List.{AllByRecursion, filter, flat_map}
use Rattle.std.proofs.lemmas.Bool.{and_parts}
use Rattle.std.proofs.lemmas.Int.{ints}
use Rattle.lin_rows.specs.declared.types.RowKind.{RowKind}
use Rattle.lin_rows.specs.declared.types.RowKind.TheVariants.{Le, Eq}
use Rattle.lin_rows.specs.Sums.{CanScale}
use Rattle.fm_elim.specs.Folds.{first, others}
use Rattle.fm_elim.specs.Derivations.{DerivedRow, nothing_derived, plus_times, has, is_upper, is_lower, is_equality}
use Rattle.fm_elim.specs.Columns.{is_pivot, clearing, cleared, halves, share, other_share, pair, pairs, elimination_step_by, elimination_step}
use Rattle.fm_elim.proofs.Lists.{all_append, all_weaker, all_map, all_flat_map, all_filter, all_others, all_first}

pub equality_is : (k : RowKind) → is_equality k ≡ true → k ≡ Eq
equality_is Le e = absurd (cc)
equality_is Eq e = refl

-- a property of rows that sums keep
module _ (P : DerivedRow → Type 0) (none : P nothing_derived) (sums : (a : DerivedRow) (m : ℤ) (b : DerivedRow) → CanScale m b.row.kind → P a → P b → P (plus_times a m b)) where
  pub cleared_keeps : (k : ℕ) (e r : DerivedRow) → e.row.kind ≡ Eq → P e → P r → P (cleared k e r)
  cleared_keeps k e r q h i = by_test (has k r)
    where
      by_test : (b : Bool) → P (if b then plus_times r (clearing k e r) e else r)
      by_test true = sums r (clearing k e r) e (inr q) i h
      by_test false = i

  pub halves_keep : (k : ℕ) (r : DerivedRow) → P r → AllByRecursion P (halves k r)
  halves_keep k r h = by_test (is_equality r.row.kind && has k r) refl
    where
      by_test : (b : Bool) → (is_equality r.row.kind && has k r) ≡ b →
          AllByRecursion P (if b then plus_times nothing_derived (pos 1) r ∷ plus_times nothing_derived (negsuc 0) r ∷ [] else r ∷ [])
      by_test true e =
          let q : r.row.kind ≡ Eq = equality_is r.row.kind (and_parts (is_equality r.row.kind) (has k r) e).0 in
          (sums nothing_derived (pos 1) r (inr q) none h, (sums nothing_derived (negsuc 0) r (inr q) none h, tt))
      by_test false e = (h, tt)

  pub pair_keeps : (k : ℕ) (u l : DerivedRow) → P u → P l → P (pair k u l)
  pair_keeps k u l h i =
      sums (plus_times nothing_derived (share k u l) u) (other_share k u l) l (inl (omega (arith, ints)))
      (sums nothing_derived (share k u l) u (inl (omega (arith, ints))) none h) i

  pub pairs_keep : (k : ℕ) (us ls : List DerivedRow) → AllByRecursion P us → AllByRecursion P ls → AllByRecursion P (pairs k us ls)
  pairs_keep k us ls h i =
      all_flat_map P P (λ u. map (pair k u) ls) us (λ u d. all_map P P (pair k u) ls (λ l e. pair_keeps k u l d e) i) h

  pub step_by_keeps : (k : ℕ) (o : Option DerivedRow) (rows : List DerivedRow) → MatchOption o (Unit {0}) (λ e. P e × (is_pivot k e ≡ true)) →
      AllByRecursion P rows → AllByRecursion P (elimination_step_by k o rows).rows
  step_by_keeps k (Some e) rows f h =
      let q : e.row.kind ≡ Eq = equality_is e.row.kind (and_parts (is_equality e.row.kind) _ f.1).0 in
      all_map P P (cleared k e) (others (is_pivot k) rows) (λ r i. cleared_keeps k e r q f.0 i) (all_others P (is_pivot k) rows h)
  step_by_keeps k None rows f h =
      let all : List DerivedRow = flat_map (halves k) rows in
      let a : AllByRecursion P all = all_flat_map P P (halves k) rows (λ r i. halves_keep k r i) h in
      let taken : (p : DerivedRow → Bool) → AllByRecursion P (filter p all) =
      λ p. all_weaker (λ r. P r × (p r ≡ true)) P (filter p all) (λ r i. i.0) (all_filter P p all a) in
      all_append P (filter (λ r. not (has k r)) all) (pairs k (filter (is_upper k) all) (filter (is_lower k) all))
      (taken (λ r. not (has k r)))
      (pairs_keep k (filter (is_upper k) all) (filter (is_lower k) all) (taken (is_upper k)) (taken (is_lower k)))

  -- each row that is left after a column is eliminated has it
  pub step_keeps : (k : ℕ) (rows : List DerivedRow) → AllByRecursion P rows → AllByRecursion P (elimination_step k rows).rows
  step_keeps k rows h = step_by_keeps k (first (is_pivot k) rows) rows (all_first P (is_pivot k) rows h) h
