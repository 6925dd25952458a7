-- Why rows with a contradicting combination hold together nowhere: the rows that are combined hold, so their sum holds,
-- but it says `0 <= c` with `c < 0`.
use Rattle.std.proofs.Common.{◌≡◌, ℕ, zero, suc, ◌<◌, ℤ, pos, ◌+ℤ◌, ◌*ℤ◌, ◌≤ℤ◌, ◌<ℤ◌, List, [], ◌∷◌, ◌++◌, length, ap, refl, ◌∙◌, arith}
use Rattle.std.specs.List.{AllByRecursion}
use Rattle.std.proofs.lemmas.Int.{ints}
use Rattle.math_facts.specs.Terms.{coefficient, dot, scaled}
use Rattle.math_facts.proofs.Whole.{product_monotone}
use Rattle.math_facts.proofs.TermLaws.{coefficient-append, coefficient-scaled, dot-append, dot-scaled, dot_from_coefficients}
use Rattle.lin_rows.specs.declared.types.RowKind.{RowKind}
use Rattle.lin_rows.specs.declared.types.RowKind.TheVariants.{Le, Eq}
use Rattle.lin_rows.specs.Rows.{LinearRow, Stands, Holds}
use Rattle.lin_rows.specs.Combinations.{row_at, Multiplies, IsPart, combined, Contradicts}

-- the terms of the rows that the parts name, each taken as often as its part says
abbrev pub combined_terms : List LinearRow → List (ℕ × ℤ) → List (ℕ × ℤ)
combined_terms rows [] = []
combined_terms rows (t ∷ ts) = scaled t.1 (row_at rows t.0).terms ++ combined_terms rows ts

-- their coefficients are those of the combination
pub coefficient-combined_terms : (c : ℕ) (rows : List LinearRow) (parts : List (ℕ × ℤ)) →
    coefficient c (combined_terms rows parts) ≡ combined (λ r. coefficient c r.terms) rows parts
coefficient-combined_terms c rows [] = refl
coefficient-combined_terms c rows (t ∷ ts) =
    let own : List (ℕ × ℤ) = (row_at rows t.0).terms in
    let e : coefficient c (combined_terms rows ts) ≡ combined (λ r. coefficient c r.terms) rows ts = coefficient-combined_terms c rows ts in
    let f : coefficient c (scaled t.1 own) ≡ t.1 *ℤ coefficient c own = coefficient-scaled c t.1 own in
    let g : coefficient c (scaled t.1 own ++ combined_terms rows ts) ≡ coefficient c (scaled t.1 own) +ℤ coefficient c (combined_terms rows ts) =
    coefficient-append c (scaled t.1 own) (combined_terms rows ts) in
    omega (arith, ints)

-- their value is the combination of the values
pub dot-combined_terms : (point : ℕ → ℤ) (rows : List LinearRow) (parts : List (ℕ × ℤ)) →
    dot point (combined_terms rows parts) ≡ combined (λ r. dot point r.terms) rows parts
dot-combined_terms point rows [] = refl
dot-combined_terms point rows (t ∷ ts) =
    let own : List (ℕ × ℤ) = (row_at rows t.0).terms in
    let e : dot point (combined_terms rows ts) ≡ combined (λ r. dot point r.terms) rows ts = dot-combined_terms point rows ts in
    let f : dot point (scaled t.1 own) ≡ t.1 *ℤ dot point own = dot-scaled point t.1 own in
    let g : dot point (scaled t.1 own ++ combined_terms rows ts) ≡ dot point (scaled t.1 own) +ℤ dot point (combined_terms rows ts) =
    dot-append point (scaled t.1 own) (combined_terms rows ts) in
    omega (arith, ints)

-- where all rows hold, the one with a number holds
pub row_at_holds : (point : ℕ → ℤ) (rows : List LinearRow) (k : ℕ) → k < length rows → AllByRecursion (Holds point) rows → Holds point (row_at rows k)
row_at_holds point [] k l h = absurd (omega arith)
row_at_holds point (r ∷ rs) zero l h = h.0
row_at_holds point (r ∷ rs) (suc k) l h = row_at_holds point rs k (omega arith) h.1

-- a row that holds, taken m times
pub stands_times : (kind : RowKind) (m sum bound : ℤ) → Multiplies m kind → Stands kind sum bound → (m *ℤ sum) ≤ℤ (m *ℤ bound)
stands_times Le m sum bound p h = product_monotone m sum bound (omega (arith, ints)) h
stands_times Eq m sum bound p h = let e : m *ℤ sum ≡ m *ℤ bound = ap (λ (z : ℤ). m *ℤ z) h in omega (arith, ints)

-- the combination of rows that hold is at most the combination of their bounds
pub combined_at_most : (point : ℕ → ℤ) (rows : List LinearRow) (parts : List (ℕ × ℤ)) →
    AllByRecursion (IsPart rows) parts → AllByRecursion (Holds point) rows →
    combined (λ r. dot point r.terms) rows parts ≤ℤ combined (λ r. r.bound) rows parts
combined_at_most point rows [] p h = omega (arith, ints)
combined_at_most point rows (t ∷ ts) p h =
    let r : LinearRow = row_at rows t.0 in
    let e : combined (λ r. dot point r.terms) rows ts ≤ℤ combined (λ r. r.bound) rows ts = combined_at_most point rows ts p.1 h in
    let k : Holds point r = row_at_holds point rows t.0 p.0.exists h in
    let f : (t.1 *ℤ dot point r.terms) ≤ℤ (t.1 *ℤ r.bound) = stands_times r.kind t.1 (dot point r.terms) r.bound p.0.multiplies k in
    omega (arith, ints)

-- rows with a contradicting combination hold together at no point
pub contradicted : (rows : List LinearRow) (parts : List (ℕ × ℤ)) (point : ℕ → ℤ) → Contradicts rows parts → AllByRecursion (Holds point) rows → ⊥
contradicted rows parts point p h =
    let e : dot point (combined_terms rows parts) ≡ pos 0 =
    dot_from_coefficients point (combined_terms rows parts) [] (λ c. coefficient-combined_terms c rows parts ∙ p.columns_vanish c) in
    let f : dot point (combined_terms rows parts) ≡ combined (λ r. dot point r.terms) rows parts = dot-combined_terms point rows parts in
    let g : combined (λ r. dot point r.terms) rows parts ≤ℤ combined (λ r. r.bound) rows parts = combined_at_most point rows parts p.each h in
    let n : combined (λ r. r.bound) rows parts <ℤ pos 0 = p.bound_negative in
    omega (arith, ints)
