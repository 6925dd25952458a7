use Rattle.std.proofs.Common.{ℕ, arith}
use Rattle.nwa_base.specs.declared.letters.Letter.{Letter}
use Rattle.nwa_reduce.specs.Ties.Rows.{row_of}
use Rattle.nwa_reduce.proofs.StepLemmas.{steps_none, steps_more, steps_all}
use Rattle.nwa_reduce.proofs.stepping.add_return_ends.Goals as goal

pub loop-before-init : goal.loop-before-init
loop-before-init c = steps_none (λ (x : ℕ × ℕ × Letter × ℕ). x.1) (λ x. x.3) (λ q. row_of c.args.steps.now.rows.items q)

pub loop-before-preserved : goal.loop-before-preserved
loop-before-preserved c =
    steps_more (λ (x : ℕ × ℕ × Letter × ℕ). x.1) (λ x. x.3) _ _ _
    (λ q. row_of c.args.steps.now.rows.items q) (λ q. row_of c.loop-before.steps.rows.items q) _
    c.loop-before-test.true c.loop-before.invariant c.in_ok-add.ensures

pub returns : goal.returns
returns c =
    steps_all (λ (x : ℕ × ℕ × Letter × ℕ). x.1) (λ x. x.3) _ c.loop-before.before-index
    (λ q. row_of c.args.steps.now.rows.items q) (λ q. row_of c.loop-before.steps.rows.items q) (omega arith) c.loop-before.invariant
