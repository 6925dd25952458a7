use Rattle.std.proofs.Common.{rules, ◌≡◌, ◌∙◌, ◌+ℤ◌, ◌*ℤ◌, ℕ, ℤ, List, Bool, true, false, FitsSigned, nat_eq, ap}
use Rattle.std.specs.Bool.{MatchBool}
use Rattle.std.specs.Int.{w128}
use Rattle.std.specs.Map.{lookup}
use Rattle.std.proofs.lemmas.Int.{to_z-of_z}
use Rattle.math_facts.specs.Fits.{Fits}
use Rattle.math_facts.specs.Optional.{or_zero}
use Rattle.lin_rows.specs.Rows.{LinearRow}
use Rattle.farkas_check.specs.Ties.Leaves.{PartSum, columns_of, TermsFit, AddsTerms, RowFits, AddsRow}
use Rattle.farkas_check.proofs.sums.Sum.add.Goals as goal

-- the terms are added, or do not fit, and the bound is that of the sum
added_row : (old mid : PartSum) (m : ℤ) (row : LinearRow) (kept : List (ℕ × ℤ)) (bound : ℤ) (yes : Bool) →
    MatchBool yes (AddsTerms (columns_of old) m row.terms (columns_of mid)) (TermsFit (columns_of old) m row.terms → ⊥) →
    Fits (m *ℤ row.bound) × Fits (old.bound +ℤ (m *ℤ row.bound)) → bound ≡ old.bound +ℤ (m *ℤ row.bound) → kept ≡ mid.kept →
    MatchBool yes (AddsRow old m row (record { kept = kept; bound = bound })) (RowFits old m row → ⊥)
added_row old mid m row kept bound true h f e k = record {
  fits = record { terms = h.fits; bound_product = f.0; bound_sum = f.1 };
  columns = λ c. ap (λ (ts : List (ℕ × ℤ)). or_zero (lookup (nat_eq c) ts)) k ∙ h.values c;
  bound = e;
}
added_row old mid m row kept bound false h f e k = λ r. h r.terms

pub returns : goal.returns
returns c =
    let f : FitsSigned w128 c.args.m = c.ranges.m in
    let g : FitsSigned w128 c.bound.result = search rules in
    let i : FitsSigned w128 c.self.inside.bound = search rules in
    let s : FitsSigned w128 c.in-Some.bound = search rules in
    let o : c.self.inside.bound ≡ c.args.self.now.bound = ap (λ (s : PartSum). s.bound) c.self.view_is in
    let b = rw (c.bound.ensures, o) at (simp to_z-of_z at c.in-Some.ensures) in
    let t = rw c.terms.ensures.value at (simp to_z-of_z at c.in_ok-added.ensures.columns) in
    simp to_z-of_z
    (added_row c.args.self.now c.add_terms.new.self c.args.m c.args.row.now c.self-2.inside.columns.entries c.in-Some.bound c.in_ok-added.added t b.0 b.1
    (ap (λ (s : PartSum). s.kept) c.self-2.view_is))

pub returns-in_default : goal.returns-in_default
returns-in_default c =
    let f : FitsSigned w128 c.args.m = c.ranges.m in
    let g : FitsSigned w128 c.bound.result = search rules in
    let i : FitsSigned w128 c.self.inside.bound = search rules in
    let o : c.self.inside.bound ≡ c.args.self.now.bound = ap (λ (s : PartSum). s.bound) c.self.view_is in
    let none = rw (c.bound.ensures, o) at (simp to_z-of_z at c.in_default.ensures) in
    λ r. none (r.bound_product, r.bound_sum)
