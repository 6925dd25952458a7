-- One row that is cleared, or two that are paired.
use Rattle.std.proofs.Common.{◌≡◌, ℕ, ℤ, pos, ◌≤ℤ◌, Bool, true, false, ◌&&◌, ◌⊎◌, inl, inr, nat_eq, refl, sym, subst, arith, if◌then◌else◌}
use Rattle.std.specs.Prelude.{unsigned_abs}
use Rattle.std.proofs.lemmas.Int.{ints}
use Rattle.lin_rows.specs.declared.types.RowKind.{RowKind}
use Rattle.lin_rows.specs.declared.types.RowKind.TheVariants.{Le, Eq}
use Rattle.lin_rows.specs.Sums.{CanScale}
use Rattle.fm_elim.specs.Folds.{Where}
use Rattle.fm_elim.specs.Derivations.{DerivedRow, nothing_derived, plus_times, PlusTimesFits, at, has, is_equality}
use Rattle.fm_elim.specs.Columns.{is_pivot, clearing, cleared, ClearedFits, share, PairFits}

-- a row that lacks the column stays
pub cleared_stays : (k : ℕ) (e r : DerivedRow) → has k r ≡ false → ClearedFits k e r × (r ≡ cleared k e r)
cleared_stays k e r h =
    subst (λ (b : Bool). Where b (PlusTimesFits r (clearing k e r) e) × (r ≡ (if b then plus_times r (clearing k e r) e else r))) (sym h) (tt, refl)

-- any other becomes a sum
pub cleared_made : (k : ℕ) (e r x : DerivedRow) (m : ℤ) → has k r ≡ true → m ≡ clearing k e r → PlusTimesFits r m e × (x ≡ plus_times r m e) →
    ClearedFits k e r × (x ≡ cleared k e r)
cleared_made k e r x m h f p =
    subst (λ (b : Bool). Where b (PlusTimesFits r (clearing k e r) e) × (x ≡ (if b then plus_times r (clearing k e r) e else r))) (sym h)
    (subst (λ (z : ℤ). PlusTimesFits r z e × (x ≡ plus_times r z e)) f p)

-- whose numbers are to fit
pub cleared_fits : (k : ℕ) (e r : DerivedRow) (m : ℤ) → has k r ≡ true → m ≡ clearing k e r → ClearedFits k e r → PlusTimesFits r m e
cleared_fits k e r m h f c =
    subst (λ (z : ℤ). PlusTimesFits r z e) (sym f) (subst (λ (b : Bool). Where b (PlusTimesFits r (clearing k e r) e)) h c)

-- an equality may be taken any number of times
pub pivot_scales : (k : ℕ) (e : DerivedRow) (m : ℤ) → is_pivot k e ≡ true → CanScale m e.row.kind
pivot_scales k e m h = by_kind e.row.kind h
  where
    by_kind : (t : RowKind) → (is_equality t && nat_eq (unsigned_abs (at k e)) 1) ≡ true → (pos 0 ≤ℤ m) ⊎ (t ≡ Eq)
    by_kind Le d = absurd (cc)
    by_kind Eq d = inr refl

-- and any row so many times
pub many_scale : (n : ℕ) (m : ℤ) (kind : RowKind) → m ≡ pos n → CanScale m kind
many_scale n m kind e = inl (subst (λ (z : ℤ). pos 0 ≤ℤ z) (sym e) (omega (arith, ints)))

-- the numbers of the first sum of a pair
pub pair_fits : (k : ℕ) (u l none : DerivedRow) (m : ℤ) → none ≡ nothing_derived → m ≡ share k u l → PairFits k u l → PlusTimesFits none m u
pair_fits k u l none m e f h =
    subst (λ (q : DerivedRow). PlusTimesFits q m u) (sym e) (subst (λ (z : ℤ). PlusTimesFits nothing_derived z u) (sym f) h.0)
