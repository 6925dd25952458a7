use Rattle.std.proofs.Common.{rules, to_z, ◌≡◌, ◌∙◌, ℤ, ◌*ℤ◌, FitsSigned, ap, sym}
use Rattle.std.specs.Int.{w128}
use Rattle.std.proofs.lemmas.Int.{to_z-of_z}
use Rattle.int_decide.proofs.meeting.numerator_over.Goals as goal

pub returns-then-den-denominator : goal.returns-then-den-denominator
returns-then-den-denominator c =
    let f : FitsSigned w128 c.num.result = search rules in
    let g : FitsSigned w128 c.den.result = search rules in
    let h : FitsSigned w128 c.args.denominator = c.ranges.denominator in
    let own : c.args.value.now.den ≡ c.args.denominator =
    sym c.den.ensures.value ∙ sym (to_z-of_z w128 c.den.result g) ∙ ap (to_z w128) c.if-den-denominator.true ∙ to_z-of_z w128 c.args.denominator h in
    simp to_z-of_z (record {
      lowest = c.den.ensures.valid.lowest;
      ratio = ap (λ (z : ℤ). c.args.value.now.num *ℤ z) (sym own) ∙ ap (λ (z : ℤ). z *ℤ c.args.value.now.den) (sym c.num.ensures.value);
    })
