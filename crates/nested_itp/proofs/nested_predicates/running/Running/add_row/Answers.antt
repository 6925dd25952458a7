use Rattle.std.proofs.Common.{ℕ, ℤ, List, ◌*ℤ◌, refl, subst, rules, FitsSigned}
use Rattle.std.specs.Int.{w128}
use Rattle.std.proofs.lemmas.Int.{to_z-of_z}
use Rattle.math_facts.specs.Fits.{Fits}
use Rattle.nested_itp.specs.NestedPredicates.Runnings.{AddsRow, AddsTerms, AddsBound}
use Rattle.nested_itp.proofs.NestedPredicates.RunningLaws.{row_added, on_ok}
use Rattle.nested_itp.proofs.nested_predicates.running.Running.add_row.Goals as goal

pub add_terms-requires-clause-fit : goal.add_terms-requires-clause-fit
add_terms-requires-clause-fit c =
    let f : FitsSigned w128 c.args.times = search rules in
    simp to_z-of_z (rw c.terms.ensures.value c.requires.fit.terms)

pub returns : goal.returns
returns c =
    let f : FitsSigned w128 c.args.times = search rules in
    let g : FitsSigned w128 c.bound.result = search rules in
    let n : ℤ = c.args.times *ℤ c.bound.result in
    let k : Fits n = rw c.bound.ensures c.requires.fit.bound in
    let h : FitsSigned w128 n = search (rules, k) in
    let a : AddsTerms c.args.row.now.terms c.args.times c.args.self.now c.add_terms.new.self =
    subst (λ (ts : List (ℕ × ℤ)). AddsTerms ts c.args.times c.args.self.now c.add_terms.new.self) c.terms.ensures.value (simp to_z-of_z at c.in_ok-add_terms.ensures) in
    on_ok (AddsBound n c.add_terms.new.self c.add_bound.new.self) (AddsRow c.args.row.now c.args.times c.args.self.now c.add_bound.new.self)
    (λ b. row_added c.args.row.now c.args.times n c.args.self.now c.add_terms.new.self c.add_bound.new.self (rw c.bound.ensures refl) a b) c.add_bound.result
    (simp to_z-of_z at c.add_bound.ensures)
