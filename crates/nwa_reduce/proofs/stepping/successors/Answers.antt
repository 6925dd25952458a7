use Rattle.std.proofs.Common.{ℕ, List}
use Rattle.nwa_base.specs.declared.letters.Letter.{Letter}
use Rattle.nwa_reduce.specs.Ties.Rows.{row_of}
use Rattle.nwa_reduce.proofs.StepLemmas.{steps_lead, steps_of}
use Rattle.nwa_reduce.proofs.stepping.successors.Goals as goal

pub returns : goal.returns
returns c =
    let none : ℕ → List ℕ = λ q. row_of c.new-steps.result.rows.items q in
    let insides : ℕ → List ℕ = λ q. row_of c.add_ends.new.steps.rows.items q in
    let calls : ℕ → List ℕ = λ q. row_of c.add_ends-2.new.steps.rows.items q in
    let backs : ℕ → List ℕ = λ q. row_of c.add_back_ends.new.steps.rows.items q in
    steps_lead c.args.nwa.now none insides calls backs c.new-steps.ensures
    (steps_of (λ (x : ℕ × Letter × ℕ). x.0) (λ x. x.2) _ _ none insides c.insides.ensures c.in_ok-add_ends.ensures)
    (steps_of (λ (x : ℕ × Letter × ℕ). x.0) (λ x. x.2) _ _ insides calls c.calls.ensures c.in_ok-add_ends-2.ensures)
    (steps_of (λ (x : ℕ × ℕ × Letter × ℕ). x.0) (λ x. x.3) _ _ calls backs c.backs.ensures c.in_ok-add_back_ends.ensures)
