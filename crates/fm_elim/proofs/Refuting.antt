-- Why rows with a false combination have no rational point: at such a point the combination would hold.
use Rattle.std.proofs.Common.{◌≡◌, ℕ, zero, suc, ◌<◌, ℤ, pos, ◌+ℤ◌, ◌*ℤ◌, ◌≤ℤ◌, ◌<ℤ◌, List, [], ◌∷◌, length, ◌∙◌, arith}
use Rattle.std.specs.List.{AllByRecursion}
use Rattle.std.proofs.lemmas.Int.{ints}
use Rattle.math_facts.specs.Terms.{dot}
use Rattle.math_facts.proofs.Whole.{product_assoc, product_strict, product_comm, product_zero_right, product_zero_left, distrib_right}
use Rattle.math_facts.proofs.TermLaws.{dot_from_coefficients}
use Rattle.lin_rows.specs.Rows.{LinearRow}
use Rattle.lin_rows.specs.Combinations.{row_at, IsPart, combined}
use Rattle.lin_rows.proofs.Contradiction.{combined_terms, coefficient-combined_terms, dot-combined_terms, stands_times}
use Rattle.fm_elim.specs.Worth.{Combines, IsSolvable, HoldsAt}

-- what holds of all rows holds of the one with a number
row_at_has : (P : LinearRow → Type 0) (rows : List LinearRow) (k : ℕ) → k < length rows → AllByRecursion P rows → P (row_at rows k)
row_at_has P [] k l h = absurd (omega arith)
row_at_has P (r ∷ rs) zero l h = h.0
row_at_has P (r ∷ rs) (suc k) l h = row_at_has P rs k (omega arith) h.1

-- the combination of rows that hold is at most the combination of their bounds
combined_at_most : (d : ℤ) (p : ℕ → ℤ) (rows : List LinearRow) (parts : List (ℕ × ℤ)) → AllByRecursion (IsPart rows) parts → AllByRecursion (HoldsAt d p) rows →
    combined (λ r. dot p r.terms) rows parts ≤ℤ (combined (λ r. r.bound) rows parts *ℤ d)
combined_at_most d p rows [] h i = let z : pos 0 *ℤ d ≡ pos 0 = product_zero_left d in omega (arith, ints)
combined_at_most d p rows (t ∷ ts) h i =
    let r : LinearRow = row_at rows t.0 in
    let e : combined (λ r. dot p r.terms) rows ts ≤ℤ (combined (λ r. r.bound) rows ts *ℤ d) = combined_at_most d p rows ts h.1 i in
    let k : HoldsAt d p r = row_at_has (HoldsAt d p) rows t.0 h.0.exists i in
    let f : (t.1 *ℤ dot p r.terms) ≤ℤ (t.1 *ℤ (r.bound *ℤ d)) = stands_times r.kind t.1 (dot p r.terms) (r.bound *ℤ d) h.0.multiplies k in
    let g : (t.1 *ℤ r.bound) *ℤ d ≡ t.1 *ℤ (r.bound *ℤ d) = product_assoc t.1 r.bound d in
    let j : ((t.1 *ℤ r.bound) +ℤ combined (λ r. r.bound) rows ts) *ℤ d ≡ ((t.1 *ℤ r.bound) *ℤ d) +ℤ (combined (λ r. r.bound) rows ts *ℤ d) =
    distrib_right (t.1 *ℤ r.bound) (combined (λ r. r.bound) rows ts) d in
    omega (arith, ints)

pub no_point : (rows : List LinearRow) (parts : List (ℕ × ℤ)) → Combines rows parts → IsSolvable rows → ⊥
no_point rows parts h s =
    let e : dot s.p (combined_terms rows parts) ≡ pos 0 =
    dot_from_coefficients s.p (combined_terms rows parts) [] (λ c. coefficient-combined_terms c rows parts ∙ h.columns_vanish c) in
    let f : dot s.p (combined_terms rows parts) ≡ combined (λ r. dot s.p r.terms) rows parts = dot-combined_terms s.p rows parts in
    let g : combined (λ r. dot s.p r.terms) rows parts ≤ℤ (combined (λ r. r.bound) rows parts *ℤ s.d) = combined_at_most s.d s.p rows parts h.each s.holds in
    let b : ℤ = combined (λ r. r.bound) rows parts in
    let n : (s.d *ℤ b) <ℤ (s.d *ℤ pos 0) = product_strict s.d b (pos 0) s.positive h.bound_negative in
    let z : s.d *ℤ pos 0 ≡ pos 0 = product_zero_right s.d in
    let c : b *ℤ s.d ≡ s.d *ℤ b = product_comm b s.d in
    omega (arith, ints)
