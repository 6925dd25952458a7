use Rattle.std.proofs.Common.{◌≡◌, ◌↔◌, ◌+◌, ◌∙◌, ℕ, true, pos, take, get_or, FitsSigned, sym, rules}
use Rattle.std.specs.Int.{w128, ◌∣◌}
use Rattle.std.proofs.lemmas.Int.{to_z-of_z}
use Rattle.std.proofs.lemmas.List.{take_all}
use Rattle.lin_rows.specs.Tightening.{all_divisible}
use Rattle.lin_rows.proofs.TighteningLaw.{divisors_more, content_from_divisors, content_one}
use Rattle.lin_rows.proofs.tightening.content.Goals as goal
use Rattle.lin_rows.proofs.tightening.content.Goals.{After-greatest_divisor-divisor}

-- the divisors of one coefficient more
divisors_of : (c : After-greatest_divisor-divisor) (d : ℕ) →
    (d ∣ c.greatest_divisor-divisor.result) ↔ (all_divisible d (take (c.loop-term.term-index + 1) c.args.terms.now) ≡ true)
divisors_of c =
    let f : FitsSigned w128 (get_or c.args.terms.now c.loop-term.term-index (0, pos 0)).1 = search rules in
    let k = simp to_z-of_z at c.unsigned_abs.ensures.value in
    divisors_more c.args.terms.now c.loop-term.term-index c.loop-term.divisor c.greatest_divisor-divisor.result (0, pos 0) c.loop-term-test.true
    (rw k at c.greatest_divisor-divisor.ensures) c.loop-term.invariant

pub loop-term-preserved : goal.loop-term-preserved
loop-term-preserved c = divisors_of (goal.at.loop-term-preserved c).After-greatest_divisor-divisor

pub returns-after-loop-term : goal.returns-after-loop-term
returns-after-loop-term c =
    let e : take c.loop-term.term-index c.args.terms.now ≡ c.args.terms.now = take_all c.loop-term.term-index c.args.terms.now c.loop-term-test.false in
    sym (content_from_divisors c.args.terms.now c.loop-term.divisor c.requires (rw e at c.loop-term.invariant))

pub returns-then-divisor-eq1 : goal.returns-then-divisor-eq1
returns-then-divisor-eq1 c =
    c.if-divisor-eq1.true ∙ sym (content_one c.args.terms.now (c.loop-term.term-index + 1) c.requires (rw c.if-divisor-eq1.true at (divisors_of (goal.at.returns-then-divisor-eq1 c).After-greatest_divisor-divisor)))
