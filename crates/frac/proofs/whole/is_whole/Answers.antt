use Rattle.std.proofs.Common.{rules, ◌≡◌, ◌↔◌, of_z, pos, IsTrue, nat_eq}
use Rattle.std.specs.Int.{w128}
use Rattle.frac.specs.Fractions.{IsWhole}
use Rattle.frac.proofs.WholeLaws.{whole_denominator}
use Rattle.frac.proofs.whole.is_whole.Goals as goal

pub returns-clause-value : goal.returns-clause-value
returns-clause-value c =
    let h : IsTrue (nat_eq (of_z w128 c.parts.result.1) 1) ↔ (c.args.a.now.den ≡ pos 1) = search rules in
    let w : (c.args.a.now.den ≡ pos 1) ↔ IsWhole c.args.a.now = whole_denominator c.args.a.now c.parts.ensures.valid.lowest in
    (λ t. w.0 (h.0 t), λ t. h.1 (w.1 t))
