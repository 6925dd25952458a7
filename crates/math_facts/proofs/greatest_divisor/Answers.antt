use Rattle.std.proofs.Common.{◌≡◌, ℕ, ◌*◌, subst, arith}
use Rattle.std.specs.Int.{IsGcd, ◌∣◌}
use Rattle.std.proofs.Math.Nat.{dvd-mul_left}
use Rattle.std.proofs.lemmas.Nat.Gcd.{IsGcd-from_mod, IsGcd-from_zero}
use Rattle.math_facts.proofs.greatest_divisor.Goals as goal
use Rattle.math_facts.proofs.greatest_divisor.Goals.{then-a-eq1-via-then-a-eq1, then-a-eq1-via-else-a-eq1+then-b-eq1}

one_divides : (n : ℕ) → 1 ∣ n
one_divides n = subst (λ (m : ℕ). 1 ∣ m) (let e : n * 1 ≡ n = omega arith in e) (dvd-mul_left 1 n)

-- 1 shares no other divisor
first_one : (a b : ℕ) → a ≡ 1 → IsGcd a b 1
first_one a b e = (one_divides a, one_divides b, λ d f g. subst (λ (m : ℕ). d ∣ m) e f)

second_one : (a b : ℕ) → b ≡ 1 → IsGcd a b 1
second_one a b e = (one_divides a, one_divides b, λ d f g. subst (λ (m : ℕ). d ∣ m) e g)

pub loop-y-preserved : goal.loop-y-preserved
loop-y-preserved c = λ g h.
    c.loop-y.invariant g (IsGcd-from_mod c.loop-y.x c.loop-y.y g (subst (λ (m : ℕ). IsGcd c.loop-y.y m g) c.remainder-rest.ensures h))

pub returns : goal.returns
returns c = c.loop-y.invariant c.loop-y.x (IsGcd-from_zero c.loop-y.x c.loop-y.y c.loop-y-test.false)

pub returns-then-a-eq1 : goal.returns-then-a-eq1
returns-then-a-eq1 c =
    elim c.then-a-eq1.branch [
      | then-a-eq1-via-then-a-eq1 w ↦ first_one c.args.a c.args.b w.if-a-eq1.true
      | then-a-eq1-via-else-a-eq1+then-b-eq1 w ↦ second_one c.args.a c.args.b w.if-b-eq1.true
    ]
