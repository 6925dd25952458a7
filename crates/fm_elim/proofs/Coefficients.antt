-- A term of a row has the coefficient of its column.
use Rattle.std.proofs.Common.{◌≡◌, ℕ, zero, suc, ◌+◌, ◌-◌, ◌<◌, ◌≤◌, ℤ, pos, ◌+ℤ◌, List, [], ◌∷◌, length, get_or, take, refl, sym, ap, ◌∙◌, subst, arith, nat_eq, if◌then◌else◌}
use Rattle.std.specs.List.{AllByRecursion}
use Rattle.math_facts.specs.Fits.{Fits}
use Rattle.math_facts.specs.Terms.{coefficient}
use Rattle.lin_rows.specs.Rows.{LinearRow, AscendsFrom, IsCoefficient, IsRow}
use Rattle.lin_rows.proofs.Ascending.{coefficient_first, coefficient_rest}

found_from : (low i : ℕ) (ts : List (ℕ × ℤ)) (d : ℕ × ℤ) → AscendsFrom low ts → i < length ts →
    (low ≤ (get_or ts i d).0) × (coefficient (get_or ts i d).0 ts ≡ (get_or ts i d).1)
found_from low i [] d a l = absurd (omega arith)
found_from low zero (t ∷ ts) d a l = (a.0, coefficient_first t.0 t ts a.1 refl)
found_from low (suc i) (t ∷ ts) d a l =
    let r = found_from (t.0 + 1) i ts d a.1 (omega arith) in
    let k : low ≤ t.0 = a.0 in
    let m : t.0 + 1 ≤ (get_or ts i d).0 = r.0 in
    (omega arith, coefficient_rest (get_or ts i d).0 t ts (λ (e : t.0 ≡ (get_or ts i d).0). omega arith) ∙ r.1)

-- the coefficient of a term's column
pub found : (r : LinearRow) (items : List (ℕ × ℤ)) (c i : ℕ) (d : ℕ × ℤ) → IsRow r → items ≡ r.terms → i < length items → (get_or items i d).0 ≡ c →
    (get_or items i d).1 ≡ coefficient c r.terms
found r items c i d v e l k =
    let s : AscendsFrom 0 items = subst (λ (ts : List (ℕ × ℤ)). AscendsFrom 0 ts) (sym e) v.ascends in
    sym (found_from 0 i items d s l).1 ∙ ap (λ (n : ℕ). coefficient n items) k ∙ ap (λ (ts : List (ℕ × ℤ)). coefficient c ts) e

fits_at : (ts : List (ℕ × ℤ)) (i : ℕ) (d : ℕ × ℤ) → AllByRecursion IsCoefficient ts → i < length ts → Fits (get_or ts i d).1
fits_at [] i d h l = absurd (omega arith)
fits_at (t ∷ ts) zero d h l = h.0.fits
fits_at (t ∷ ts) (suc i) d h l = fits_at ts i d h.1 (omega arith)

-- it fits
pub found_fits : (r : LinearRow) (items : List (ℕ × ℤ)) (i : ℕ) (d : ℕ × ℤ) → IsRow r → items ≡ r.terms → i < length items → Fits (get_or items i d).1
found_fits r items i d v e l = fits_at items i d (subst (λ (ts : List (ℕ × ℤ)). AllByRecursion IsCoefficient ts) (sym e) v.coefficients) l

-- ---- from the last term on

-- a term of another column behind the first i counts nothing
more_taken : (c i : ℕ) (ts : List (ℕ × ℤ)) (d : ℕ × ℤ) → i < length ts → ((get_or ts i d).0 ≡ c → ⊥) → coefficient c (take (suc i) ts) ≡ coefficient c (take i ts)
more_taken c i [] d l n = absurd (omega arith)
more_taken c zero (t ∷ ts) d l n = coefficient_rest c t [] n
more_taken c (suc i) (t ∷ ts) d l n = ap (λ (z : ℤ). (if nat_eq t.0 c then t.1 else pos 0) +ℤ z) (more_taken c i ts d (omega arith) n)

-- a column past the first i + 1 terms stands in none of them
past_taken : (low c i : ℕ) (ts : List (ℕ × ℤ)) (d : ℕ × ℤ) → AscendsFrom low ts → i < length ts → (get_or ts i d).0 < c → coefficient c (take (suc i) ts) ≡ pos 0
past_taken low c i [] d a l k = absurd (omega arith)
past_taken low c zero (t ∷ ts) d a l k = coefficient_rest c t [] (λ (e : t.0 ≡ c). omega arith)
past_taken low c (suc i) (t ∷ ts) d a l k =
    let m : t.0 + 1 ≤ (get_or ts i d).0 = (found_from (t.0 + 1) i ts d a.1 (omega arith)).0 in
    coefficient_rest c t (take (suc i) ts) (λ (e : t.0 ≡ c). omega arith) ∙ past_taken (t.0 + 1) c i ts d a.1 (omega arith) k

-- the same of a row's terms, the first ones of which are left to look at
module _ (r : LinearRow) (items : List (ℕ × ℤ)) (c left i : ℕ) (d : ℕ × ℤ) (v : IsRow r) (e : items ≡ r.terms) (s : left ≡ suc i) (l : i < length items)
    (h : coefficient c r.terms ≡ coefficient c (take left items)) where
  -- no term of the column is left
  pub past : (get_or items i d).0 < c → pos 0 ≡ coefficient c r.terms
  past k =
      let a : AscendsFrom 0 items = subst (λ (ts : List (ℕ × ℤ)). AscendsFrom 0 ts) (sym e) v.ascends in
      sym (h ∙ ap (λ (m : ℕ). coefficient c (take m items)) s ∙ past_taken 0 c i items d a l k)

  -- one fewer is left
  pub fewer : ((get_or items i d).0 ≡ c → ⊥) → coefficient c r.terms ≡ coefficient c (take i items)
  fewer n = h ∙ ap (λ (m : ℕ). coefficient c (take m items)) s ∙ more_taken c i items d l n

take_all : (ts : List (ℕ × ℤ)) → take (length ts) ts ≡ ts
take_all [] = refl
take_all (t ∷ ts) = ap (λ (us : List (ℕ × ℤ)). t ∷ us) (take_all ts)

-- a column past the last term stands in no term
pub past_last : (r : LinearRow) (items : List (ℕ × ℤ)) (c : ℕ) (last : ℕ × ℤ) → IsRow r → items ≡ r.terms → 0 < length items → last ≡ get_or items (length items - 1) last →
    last.0 < c → coefficient c r.terms ≡ pos 0
past_last r items c last v e l s k =
    let h : coefficient c r.terms ≡ coefficient c (take (length items) items) = ap (λ (ts : List (ℕ × ℤ)). coefficient c ts) (sym e ∙ sym (take_all items)) in
    let m : (get_or items (length items - 1) last).0 < c = subst (λ (t : ℕ × ℤ). t.0 < c) s k in
    sym (past r items c (length items) (length items - 1) last v e (omega arith) (omega arith) h m)

-- nor does any where there is no term
pub no_terms : (r : LinearRow) (items : List (ℕ × ℤ)) (c : ℕ) → items ≡ r.terms → length items ≤ 0 → coefficient c r.terms ≡ pos 0
no_terms r [] c e l = ap (λ (ts : List (ℕ × ℤ)). coefficient c ts) (sym e)
no_terms r (t ∷ ts) c e l = absurd (omega arith)
