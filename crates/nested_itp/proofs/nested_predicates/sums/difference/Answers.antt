use Rattle.std.proofs.Common.{◌≡◌, ◌∙◌, ℤ, ◌-ℤ◌, ap, subst}
use Rattle.std.specs.Prelude.{MatchOption}
use Rattle.math_facts.specs.Fits.{Fits}
use Rattle.nested_itp.specs.NestedPredicates.Wides.{value_of}
use Rattle.nested_itp.specs.NestedPredicates.Runnings.{value_at}
use Rattle.nested_itp.proofs.NestedPredicates.SumLaws.{value_found}
use Rattle.nested_itp.proofs.nested_predicates.sums.difference.Goals as goal

pub returns : goal.returns
returns c =
    let ws = c.args.running.now.columns.items in
    let e : value_of c.index.result.now ≡ value_at ws c.args.version = ap value_of c.index.ensures ∙ value_found ws c.args.version c.index.result.now c.requires.version in
    subst (λ (v : ℤ). MatchOption c.less.result (Fits (v -ℤ value_of c.args.known) → ⊥) (λ z. (z ≡ v -ℤ value_of c.args.known) × Fits z)) e c.less.ensures
