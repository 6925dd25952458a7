use Rattle.std.proofs.Common.{◌≡◌, ℤ, ◌+ℤ◌, ◌-ℤ◌, ◌*ℤ◌, neg_ℤ, arith}
use Rattle.std.proofs.lemmas.Int.{ints}
use Rattle.math_facts.proofs.Whole.{product_neg_left}
use Rattle.frac.proofs.sums.sub.Goals as goal

pub returns-clause-value : goal.returns-clause-value
returns-clause-value c =
    let l : ℤ = c.args.a.now.num *ℤ c.args.b.now.den in
    let e : neg_ℤ c.args.b.now.num *ℤ c.args.a.now.den ≡ neg_ℤ (c.args.b.now.num *ℤ c.args.a.now.den) = product_neg_left c.args.b.now.num c.args.a.now.den in
    let s : l -ℤ (c.args.b.now.num *ℤ c.args.a.now.den) ≡ l +ℤ (neg_ℤ c.args.b.now.num *ℤ c.args.a.now.den) = omega (arith, ints) in
    rw s (rw c.negated.ensures at c.add.ensures.value)
