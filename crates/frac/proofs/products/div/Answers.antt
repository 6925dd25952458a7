use Rattle.std.proofs.Common.{pos, ◌*ℤ◌, ◌<ℤ◌, sym, arith}
use Rattle.std.proofs.lemmas.Int.{ints}
use Rattle.std.proofs.lemmas.Result.{IfOk-weaker, on_err_weaker}
use Rattle.frac.specs.Fractions.{IsRatio, IsTooLarge}
use Rattle.frac.proofs.SignLaws.{equal_factor}
use Rattle.frac.proofs.products.div.Goals as goal

pub returns-clause-value : goal.returns-clause-value
returns-clause-value c =
    let a = c.args.a.now in
    let b = c.args.b.now in
    let r = c.reciprocal.result in
    let p : pos 0 <ℤ r.den = c.reciprocal.ensures.valid.lowest.positive in
    IfOk-weaker c.mul.result (λ f. IsRatio f (a.num *ℤ r.num) (a.den *ℤ r.den)) (λ f. IsRatio f (a.num *ℤ b.den) (a.den *ℤ b.num))
    (λ f h. equal_factor f a.num a.den r.num r.den b.den b.num (λ e. omega (arith, ints)) c.reciprocal.ensures.value h) c.mul.ensures.value

pub returns-clause-past : goal.returns-clause-past
returns-clause-past c =
    let a = c.args.a.now in
    let b = c.args.b.now in
    let r = c.reciprocal.result in
    on_err_weaker {P = IsTooLarge (a.num *ℤ r.num) (a.den *ℤ r.den)} {Q = IsTooLarge (a.num *ℤ b.den) (a.den *ℤ b.num)} c.mul.result
    (λ large f v h. large f v (equal_factor f a.num a.den b.den b.num r.num r.den c.requires (sym c.reciprocal.ensures.value) h)) c.mul.ensures.past
