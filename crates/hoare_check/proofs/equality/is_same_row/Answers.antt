use Rattle.std.proofs.Common.{◌≡◌, ◌∙◌, ap, refl, sym, rules, to_z-of_z}
use Rattle.std.specs.Prelude.{FitsSigned}
use Rattle.std.specs.Int.{w128}
use Rattle.lin_rows.specs.Rows.{LinearRow}
use Rattle.hoare_check.proofs.equality.is_same_row.Goals as goal

same_fields : (a b : LinearRow) → a.kind ≡ b.kind → a.bound ≡ b.bound → a.terms ≡ b.terms → a ≡ b
same_fields a b k d t = λ i. record { terms = t i; kind = k i; bound = d i }

pub returns : goal.returns
returns c =
    let f : FitsSigned w128 c.bound.result = search rules in
    let g : FitsSigned w128 c.bound-else-not-same_kind.result = search rules in
    let kinds = sym c.kind.ensures ∙ c.if-not-same_kind.ensures.0 refl ∙ c.kind-2.ensures in
    let numbers = simp to_z-of_z at (c.if-not-same_number.ensures.0 refl) in
    let bounds = sym c.bound.ensures ∙ numbers ∙ c.bound-else-not-same_kind.ensures in (
      λ t. same_fields c.args.a.now c.args.b.now kinds bounds (sym c.terms.ensures.value ∙ c.same_terms.ensures.0 t ∙ c.terms-2.ensures.value),
      λ e. c.same_terms.ensures.1 (c.terms.ensures.value ∙ ap (λ r. r.terms) e ∙ sym c.terms-2.ensures.value),
    )
