-- The value of terms at a point, term by term: what is added up so far, and what is left.
use Rattle.std.proofs.Common.{◌≡◌, ◌↔◌, ℕ, zero, suc, ◌+◌, ◌<◌, ◌≤◌, ℤ, pos, ◌+ℤ◌, ◌*ℤ◌, List, [], ◌∷◌, length, drop, get_or, refl, sym, subst, arith}
use Rattle.std.proofs.lemmas.Int.{ints}
use Rattle.std.proofs.lemmas.List.{drop_more, drop_all}
use Rattle.math_facts.specs.Fits.{Fits}
use Rattle.math_facts.specs.Terms.{dot, IsBelow}
use Rattle.lin_rows.specs.declared.types.RowKind.{RowKind}
use Rattle.lin_rows.specs.Rows.{LinearRow, Stands, Holds}
use Rattle.lin_rows.specs.Points.{point_of, DotFits, HasSum, IsSeenToHold}

-- what is read at a place is the point's value there
pub get_or-point_of : (vs : List ℤ) (c : ℕ) (d : ℤ) → c < length vs → get_or vs c d ≡ point_of vs c
get_or-point_of [] c d l = absurd (omega arith)
get_or-point_of (v ∷ vs) zero d l = refl
get_or-point_of (v ∷ vs) (suc c) d l = get_or-point_of vs c d (omega arith)

-- each column of terms below n is below n
pub IsBelow_at : (n : ℕ) (ts : List (ℕ × ℤ)) (i : ℕ) (d : ℕ × ℤ) → i < length ts → IsBelow n ts → (get_or ts i d).0 < n
IsBelow_at n [] i d l b = absurd (omega arith)
IsBelow_at n (t ∷ ts) zero d l b = b.0
IsBelow_at n (t ∷ ts) (suc i) d l b = IsBelow_at n ts i d (omega arith) b.1

-- the sum so far and the terms that are left give the value, and their numbers fit exactly where all numbers do
pub record IsValuing (point : ℕ → ℤ) (terms : List (ℕ × ℤ)) (sum : ℤ) (rest : List (ℕ × ℤ)) : Type 0 where
  pub value : sum +ℤ dot point rest ≡ dot point terms
  pub fits : DotFits point sum rest ↔ DotFits point (pos 0) terms

pub valuing_starts : (point : ℕ → ℤ) (terms : List (ℕ × ℤ)) → IsValuing point terms (pos 0) terms
valuing_starts point terms = record { value = omega (arith, ints); fits = (λ h. h, λ h. h) }

-- one term more
one_more : (point : ℕ → ℤ) (terms : List (ℕ × ℤ)) (sum : ℤ) (t : ℕ × ℤ) (rest : List (ℕ × ℤ)) → IsValuing point terms sum (t ∷ rest) →
    Fits (t.1 *ℤ point t.0) → Fits (sum +ℤ (t.1 *ℤ point t.0)) → IsValuing point terms (sum +ℤ (t.1 *ℤ point t.0)) rest
one_more point terms sum t rest h f g = record {
  value = let e = h.value in omega (arith, ints);
  fits = (λ k. h.fits.0 (f, g, k), λ k. (h.fits.1 k).2);
}

pub valuing_goes : (point : ℕ → ℤ) (terms : List (ℕ × ℤ)) (sum new product : ℤ) (i : ℕ) (d : ℕ × ℤ) → i < length terms → IsValuing point terms sum (drop i terms) →
    product ≡ (get_or terms i d).1 *ℤ point (get_or terms i d).0 → new ≡ sum +ℤ product → Fits product → Fits new → IsValuing point terms new (drop (i + 1) terms)
valuing_goes point terms sum new product i d l h e k f g =
    let t : ℕ × ℤ = get_or terms i d in
    let p : Fits (t.1 *ℤ point t.0) = subst Fits e f in
    let q : new ≡ sum +ℤ (t.1 *ℤ point t.0) = omega (arith, ints) in
    let r : Fits (sum +ℤ (t.1 *ℤ point t.0)) = subst Fits q g in
    subst (λ (z : ℤ). IsValuing point terms z (drop (i + 1) terms)) (sym q)
    (one_more point terms sum t (drop (i + 1) terms) (subst (IsValuing point terms sum) (drop_more terms i d l) h) p r)

-- a product that does not fit
pub valuing_stops : (point : ℕ → ℤ) (terms : List (ℕ × ℤ)) (sum : ℤ) (i : ℕ) (d : ℕ × ℤ) → i < length terms → IsValuing point terms sum (drop i terms) →
    (Fits ((get_or terms i d).1 *ℤ point (get_or terms i d).0) → Fits (sum +ℤ ((get_or terms i d).1 *ℤ point (get_or terms i d).0)) → ⊥) →
    DotFits point (pos 0) terms → ⊥
valuing_stops point terms sum i d l h n k =
    let all : DotFits point sum (drop i terms) = h.fits.1 k in
    let here : DotFits point sum (get_or terms i d ∷ drop (i + 1) terms) = subst (DotFits point sum) (drop_more terms i d l) all in
    n here.0 here.1

pub valuing_ends : (point : ℕ → ℤ) (terms : List (ℕ × ℤ)) (sum : ℤ) (i : ℕ) → length terms ≤ i → IsValuing point terms sum (drop i terms) →
    DotFits point (pos 0) terms × (sum ≡ dot point terms)
valuing_ends point terms sum i l h = at_end (subst (IsValuing point terms sum) (drop_all i terms l) h)
  where
    at_end : IsValuing point terms sum [] → DotFits point (pos 0) terms × (sum ≡ dot point terms)
    at_end h = (h.fits.0 tt, let e = h.value in omega (arith, ints))

-- a row whose sum is found is seen to hold where the sum meets its bound
pub seen_by : (vs : List ℤ) (r : LinearRow) (ts : List (ℕ × ℤ)) (kind : RowKind) (sum bound : ℤ) (P : Type 0) → ts ≡ r.terms → kind ≡ r.kind → bound ≡ r.bound →
    HasSum vs ts × (sum ≡ dot (point_of vs) ts) → (P ↔ Stands kind sum bound) → P ↔ IsSeenToHold vs r
seen_by vs r ts kind sum bound P e f g h s =
    let there : Stands kind sum bound → Holds (point_of vs) r =
    (λ x.
    subst (λ (us : List (ℕ × ℤ)). Stands r.kind (dot (point_of vs) us) r.bound) e
    (subst (λ (z : ℤ). Stands r.kind (dot (point_of vs) ts) z) g
    (subst (λ (k : RowKind). Stands k (dot (point_of vs) ts) bound) f (subst (λ (z : ℤ). Stands kind z bound) h.1 x)))) in
    let back : Holds (point_of vs) r → Stands kind sum bound =
    (λ x.
    subst (λ (z : ℤ). Stands kind z bound) (sym h.1)
    (subst (λ (k : RowKind). Stands k (dot (point_of vs) ts) bound) (sym f)
    (subst (λ (z : ℤ). Stands r.kind (dot (point_of vs) ts) z) (sym g)
    (subst (λ (us : List (ℕ × ℤ)). Stands r.kind (dot (point_of vs) us) r.bound) (sym e) x)))) in
    (λ p. record { sum = subst (HasSum vs) e h.0; holds = there (s.0 p) }, λ k. s.1 (back k.holds))
