use Rattle.std.proofs.Common.{◌≡◌, ◌↔◌, ◌∙◌, FitsSigned, rules, sym, subst}
use Rattle.std.specs.Int.{w128}
use Rattle.std.proofs.lemmas.Int.{to_z-of_z}
use Rattle.math_facts.specs.Fits.{Fits}
use Rattle.lin_rows.specs.Rows.{LinearRow, Holds, IsRow}
use Rattle.lin_rows.specs.declared.types.RowKind.TheVariants.{Le}
use Rattle.lin_rows.specs.Negating.{negated, below_opposite}
use Rattle.lin_rows.proofs.NegatingLemmas.{negated_is_row, negated_holds}
use Rattle.lin_rows.proofs.negating.negate.Goals as goal
use Rattle.lin_rows.proofs.negating.negate.Goals.{In_ok-terms, After-new}

-- the bound that `below_opposite` gave
bound_of : (c : In_ok-terms) → Fits (below_opposite c.args.row.now.bound) × (c.in-Some.bound ≡ below_opposite c.args.row.now.bound)
bound_of c =
    let f : FitsSigned w128 c.bound.result = search rules in
    rw c.bound.ensures at (simp to_z-of_z at c.in-Some.ensures)

-- the parts of the negation
parts_of : (c : In_ok-terms) → ◌≡◌ {A = LinearRow} (record { terms = c.in_ok-terms.terms.items; kind = Le; bound = c.in-Some.bound }) (negated c.args.row.now)
parts_of c =
    let t = rw c.terms.ensures.value at c.in_ok-terms.ensures in
    λ i. record { terms = t i; kind = Le; bound = (bound_of c).1 i }

pub new-requires : goal.new-requires
new-requires c =
    let f : FitsSigned w128 c.in-Some.bound = search rules in
    simp to_z-of_z (subst IsRow (sym (parts_of c)) (negated_is_row c.args.row.now c.terms.ensures.valid (bound_of c).0))

pub returns-clause-holds : goal.returns-clause-holds
returns-clause-holds c = λ point.
    let f : FitsSigned w128 c.in-Some.bound = search rules in
    let e : c.new.result ≡ negated c.args.row.now = (simp to_z-of_z at c.new.ensures) ∙ parts_of (goal.at.returns-clause-holds c).In_ok-terms in
    subst (λ (r : LinearRow). Holds point r ↔ (Holds point c.args.row.now → ⊥)) (sym e) (negated_holds point c.args.row.now c.requires)
