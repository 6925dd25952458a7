use Rattle.std.proofs.Common.{ℕ, arith}
use Rattle.nwa_base.specs.declared.letters.Letter.{Letter}
use Rattle.nwa_reduce.specs.Ties.Rows.{row_of}
use Rattle.nwa_reduce.proofs.StepLemmas.{steps_none, steps_more, steps_all}
use Rattle.nwa_reduce.proofs.stepping.add_back_ends.Goals as goal

pub loop-state-init : goal.loop-state-init
loop-state-init c = steps_none (λ (x : ℕ × ℕ × Letter × ℕ). x.0) (λ x. x.3) (λ q. row_of c.args.steps.now.rows.items q)

pub loop-state-preserved : goal.loop-state-preserved
loop-state-preserved c =
    steps_more (λ (x : ℕ × ℕ × Letter × ℕ). x.0) (λ x. x.3) _ _ _
    (λ q. row_of c.args.steps.now.rows.items q) (λ q. row_of c.loop-state.steps.rows.items q) _
    c.loop-state-test.true c.loop-state.invariant c.in_ok-add.ensures

pub returns : goal.returns
returns c =
    steps_all (λ (x : ℕ × ℕ × Letter × ℕ). x.0) (λ x. x.3) _ c.loop-state.state-index
    (λ q. row_of c.args.steps.now.rows.items q) (λ q. row_of c.loop-state.steps.rows.items q) (omega arith) c.loop-state.invariant
