use Rattle.std.proofs.Common.{ℕ, take}
use Rattle.nwa_base.specs.declared.letters.Letter.{Letter}
use Rattle.nwa_reduce.specs.Ties.Rows.{row_of}
use Rattle.nwa_reduce.specs.Ties.Searching.{AddsSteps}
use Rattle.nwa_reduce.proofs.stepping.add_return_ends.Given as goal

abbrev pub invariant-loop-before : goal.invariant-loop-before
invariant-loop-before l =
    AddsSteps (λ (x : ℕ × ℕ × Letter × ℕ). x.1) (λ x. x.3) (take l.before-index l.edges)
    (λ q. row_of l.initial.steps.rows.items q) (λ q. row_of l.steps.rows.items q)
