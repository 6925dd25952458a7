use Rattle.std.proofs.Common.{ℕ, take}
use Rattle.nwa_base.specs.declared.letters.Letter.{Letter}
use Rattle.nwa_reduce.specs.Ties.Rows.{row_of}
use Rattle.nwa_reduce.specs.Ties.Searching.{AddsSteps}
use Rattle.nwa_reduce.proofs.stepping.add_ends.Given as goal

abbrev pub invariant-loop-state : goal.invariant-loop-state
invariant-loop-state l =
    AddsSteps (λ (x : ℕ × Letter × ℕ). x.0) (λ x. x.2) (take l.state-index l.edges)
    (λ q. row_of l.initial.steps.rows.items q) (λ q. row_of l.steps.rows.items q)
