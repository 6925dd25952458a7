use Rattle.std.proofs.Common.{◌≡◌, ◌∙◌, to_z, ℤ, pos, ◌*ℤ◌, FitsSigned, ap, sym, subst}
use Rattle.std.specs.Int.{w128}
use Rattle.std.proofs.lemmas.Int.{to_z-of_z}
use Rattle.math_facts.proofs.Whole.{product_one_left}
use Rattle.math_facts.proofs.checked_product.Goals as goal

pub returns-then-a-eq1 : goal.returns-then-a-eq1
returns-then-a-eq1 c =
    let f : FitsSigned w128 c.args.a = c.ranges.a in
    let g : FitsSigned w128 c.args.b = c.ranges.b in
    let one : c.args.a ≡ pos 1 = sym (to_z-of_z w128 c.args.a f) ∙ ap (to_z w128) c.if-a-eq1.true in
    let e : c.args.b ≡ c.args.a *ℤ c.args.b = sym (ap (λ (z : ℤ). z *ℤ c.args.b) one ∙ product_one_left c.args.b) in
    (subst (FitsSigned w128) e g, simp to_z-of_z e)
