use Rattle.std.proofs.Common.{ℕ, List}
use Rattle.nwa_base.specs.declared.letters.Letter.{Letter}
use Rattle.nwa_reduce.specs.Ties.Rows.{row_of}
use Rattle.nwa_reduce.proofs.StepLemmas.{steps_led, steps_of}
use Rattle.nwa_reduce.proofs.stepping.predecessors.Goals as goal

pub returns : goal.returns
returns c =
    let none : ℕ → List ℕ = λ q. row_of c.new-steps.result.rows.items q in
    let insides : ℕ → List ℕ = λ q. row_of c.add_starts.new.steps.rows.items q in
    let calls : ℕ → List ℕ = λ q. row_of c.add_starts-2.new.steps.rows.items q in
    let backs : ℕ → List ℕ = λ q. row_of c.add_back_starts.new.steps.rows.items q in
    steps_led c.args.nwa.now none insides calls backs c.new-steps.ensures
    (steps_of (λ (x : ℕ × Letter × ℕ). x.2) (λ x. x.0) _ _ none insides c.insides.ensures c.in_ok-add_starts.ensures)
    (steps_of (λ (x : ℕ × Letter × ℕ). x.2) (λ x. x.0) _ _ insides calls c.calls.ensures c.in_ok-add_starts-2.ensures)
    (steps_of (λ (x : ℕ × ℕ × Letter × ℕ). x.3) (λ x. x.0) _ _ calls backs c.backs.ensures c.in_ok-add_back_starts.ensures)
