use Rattle.std.proofs.Common.{◌≡◌, ◌∙◌, FitsSigned, List, Some, map, sym, ap, subst, rules}
use Rattle.std.specs.Prelude.{ℕ, ℤ}
use Rattle.std.specs.List.{AllByRecursion}
use Rattle.std.specs.Option.{option_map}
use Rattle.std.specs.Int.{w128}
use Rattle.std.proofs.lemmas.Int.{to_z-of_z}
use Rattle.std.proofs.lemmas.Result.{IfOk-weaker}
use Rattle.math_facts.specs.Fits.{Fits}
use Rattle.lin_rows.specs.Rows.{IsCoefficient}
use Rattle.proof_names.specs.Options.{all_some}
use Rattle.proof_names.specs.Predicates.{term_named}
use Rattle.proof_names.proofs.AtomLaws.{number_fits, terms_are}
use Rattle.proof_reuse.specs.Found.{in_order, row_of_terms}
use Rattle.proof_reuse.proofs.FindLaws.{atom_found, bound_lost, terms_lost}
use Rattle.proof_reuse.proofs.finding.row_found.Goals as goal

pub returns-in_default : goal.returns-in_default
returns-in_default c = bound_lost c.args.frame.now c.args.bound.now c.args.terms.now (sym c.in_default.is ∙ c.number_in.ensures)

pub returns-in_default-2 : goal.returns-in_default-2
returns-in_default-2 c =
    terms_lost c.args.frame.now c.args.bound.now c.args.terms.now (sym (ap (option_map (λ v. v.items)) c.in_default-2.is) ∙ c.in_ok-terms.ensures)

pub row_of-requires-clause-terms : goal.row_of-requires-clause-terms
row_of-requires-clause-terms c =
    let n : Some c.in-Some-2.terms.items ≡ all_some (map (term_named c.args.frame.now) c.args.terms.now) = sym (ap (option_map (λ v. v.items)) c.in-Some-2.is) ∙ c.in_ok-terms.ensures in
    subst (λ (ts : List (ℕ × ℤ)). AllByRecursion IsCoefficient ts) (sym c.deref.ensures.value)
    (terms_are c.args.frame.now c.args.terms.now c.in-Some-2.terms.items c.requires (sym n))

pub row_of-requires-clause-bound : goal.row_of-requires-clause-bound
row_of-requires-clause-bound c =
    let f : FitsSigned w128 c.in-Some.bound = search rules in
    subst (λ (z : ℤ). Fits z) (sym (to_z-of_z w128 c.in-Some.bound f)) (number_fits c.args.bound.now c.in-Some.bound (sym c.in-Some.ensures))

pub returns : goal.returns
returns c =
    let n : Some c.in-Some-2.terms.items ≡ all_some (map (term_named c.args.frame.now) c.args.terms.now) = sym (ap (option_map (λ v. v.items)) c.in-Some-2.is) ∙ c.in_ok-terms.ensures in
    let f : FitsSigned w128 c.in-Some.bound = search rules in
    IfOk-weaker c.row_of.result _ _ (λ o e.
    atom_found c.args.frame.now c.args.bound.now c.args.terms.now c.in-Some-2.terms.items c.in-Some.bound o n c.in-Some.ensures
    (e ∙ ap (λ (z : ℤ). option_map (λ us. row_of_terms (us, z)) (in_order c.deref.result.now)) (to_z-of_z w128 c.in-Some.bound f) ∙
    ap (λ (ts : List (ℕ × ℤ)). option_map (λ us. row_of_terms (us, c.in-Some.bound)) (in_order ts)) c.deref.ensures.value)) c.row_of.ensures
