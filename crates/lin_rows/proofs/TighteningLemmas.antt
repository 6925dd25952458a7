-- What tightening gives: the row itself, `0 <= -1`, or the row divided.
use Rattle.std.proofs.Common.{◌≡◌, ℕ, zero, suc, ◌%◌, ◌/◌, ◌<◌, ◌≤◌, ℤ, pos, negsuc, List, [], ◌∷◌, ap, refl, ◌∙◌, arith}
use Rattle.std.specs.Prelude.{unsigned_abs}
use Rattle.std.specs.Int.{int_div_euclid}
use Rattle.std.proofs.lemmas.Bool.{eq-eqb, ne_eqb}
use Rattle.lin_rows.specs.declared.types.RowKind.{RowKind}
use Rattle.lin_rows.specs.declared.types.RowKind.TheVariants.{Le, Eq}
use Rattle.lin_rows.specs.Rows.{LinearRow}
use Rattle.lin_rows.specs.Tightening.{content, divided, never, divided_row, tightened}
use Rattle.lin_rows.proofs.TighteningLaw.{tightened_as}

-- ---- by 1

floor_one : (z : ℤ) → int_div_euclid z (pos 1) ≡ z
floor_one (pos n) = ap pos (let e : n / 1 ≡ n = omega arith in e)
floor_one (negsuc n) = ap negsuc (let e : n / 1 ≡ n = omega arith in e)

divided_one : (ts : List (ℕ × ℤ)) → divided 1 ts ≡ ts
divided_one [] = refl
divided_one (t ∷ ts) = rw (floor_one t.1, divided_one ts)

divided_row_one : (kind : RowKind) (ts : List (ℕ × ℤ)) (b : ℤ) → divided_row kind 1 ts b ≡ record { terms = ts; kind = kind; bound = b }
divided_row_one Le ts b = λ i. record { terms = divided_one ts i; kind = Le; bound = floor_one b i }
divided_row_one Eq ts b =
    let e : unsigned_abs b % 1 ≡ 0 = omega arith in
    rw (eq-eqb (unsigned_abs b % 1) 0 e) (λ i. record { terms = divided_one ts i; kind = Eq; bound = floor_one b i })

-- a row whose coefficients have no common divisor above 1 stays
pub tightened_stays : (r : LinearRow) → content r.terms ≤ 1 → tightened r ≡ r
tightened_stays r l = by_content r (content r.terms) refl l
  where
    by_content : (r : LinearRow) (g : ℕ) → content r.terms ≡ g → g ≤ 1 → tightened r ≡ r
    by_content r zero e l = tightened_as r 0 e
    by_content r (suc zero) e l = tightened_as r 1 e ∙ divided_row_one r.kind r.terms r.bound
    by_content r (suc (suc g)) e l = absurd (omega arith)

-- ---- by more

-- an equality whose bound is not divisible holds nowhere
pub tightened_never : (r : LinearRow) (g : ℕ) → content r.terms ≡ g → 0 < g → r.kind ≡ Eq → (unsigned_abs r.bound % g ≡ 0 → ⊥) → tightened r ≡ never
tightened_never r zero e l k n = absurd (omega arith)
tightened_never r (suc g) e l k n =
    tightened_as r (suc g) e ∙ ap (λ (kind : RowKind). divided_row kind (suc g) r.terms r.bound) k ∙ rw (ne_eqb (unsigned_abs r.bound % suc g) 0 n) refl

-- any other row is divided
pub tightened_divided : (r : LinearRow) (g : ℕ) → content r.terms ≡ g → 0 < g → (r.kind ≡ Eq → unsigned_abs r.bound % g ≡ 0) →
    tightened r ≡ record { terms = divided g r.terms; kind = r.kind; bound = int_div_euclid r.bound (pos g) }
tightened_divided r zero e l d = absurd (omega arith)
tightened_divided r (suc g) e l d = tightened_as r (suc g) e ∙ by_kind r.kind (suc g) r.terms r.bound d
  where
    by_kind : (kind : RowKind) (g : ℕ) (ts : List (ℕ × ℤ)) (b : ℤ) → (kind ≡ Eq → unsigned_abs b % g ≡ 0) →
        divided_row kind g ts b ≡ record { terms = divided g ts; kind = kind; bound = int_div_euclid b (pos g) }
    by_kind Le g ts b d = refl
    by_kind Eq g ts b d = rw (eq-eqb (unsigned_abs b % g) 0 (d refl)) refl
