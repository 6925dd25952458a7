-- The sum over terms at its begin and at its end.
use Rattle.std.proofs.Common.{◌≡◌, ℕ, ◌≤◌, ℤ, pos, ◌+ℤ◌, List, length, drop, sym, ◌∙◌, ap, arith}
use Rattle.std.proofs.lemmas.Int.{ints}
use Rattle.std.proofs.lemmas.List.{drop_all}
use Rattle.math_facts.specs.Terms.{coefficient}
use Rattle.cond_jumps.specs.declared.totals.Term.{Term}
use Rattle.cond_jumps.specs.Ties.Totals.{terms_of}

pub total_begun : (sum all : ℤ) → sum ≡ pos 0 → sum +ℤ all ≡ all
total_begun sum all e = omega (arith, ints)

nothing_more : (sum : ℤ) → sum ≡ sum +ℤ pos 0
nothing_more sum = omega (arith, ints)

pub total_ended : (c : ℕ) (ts : List Term) (i : ℕ) (sum all : ℤ) → length ts ≤ i → sum +ℤ coefficient c (terms_of (drop i ts)) ≡ all → sum ≡ all
total_ended c ts i sum all l h =
    nothing_more sum ∙ sym (ap (λ (us : List Term). sum +ℤ coefficient c (terms_of us)) (drop_all i ts l)) ∙ h
