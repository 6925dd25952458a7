use Rattle.std.proofs.Common.{◌≡◌, ℕ, zero, suc, Bool, true, false, ℤ, pos, negsuc, ◌+ℤ◌, [], ◌∷◌, take, nat_eq, sym, subst, arith}
use Rattle.std.specs.Prelude.{if◌then◌else◌}
use Rattle.std.proofs.lemmas.Int.{ints}
use Rattle.math_facts.specs.Fits.{Fits}
use Rattle.math_facts.specs.Terms.{coefficient}
use Rattle.lin_rows.specs.Sums.{SumsFit}
use Rattle.letter_acts.proofs.frame_rows.rows.add_bounds.Goals as goal

to_zero : (z : ℤ) → z +ℤ pos 0 ≡ z
to_zero z = omega (arith, ints)

nothing_fits : Fits (pos 0)
nothing_fits = omega arith

at_column : (c d k : ℕ) (a : ℤ) → Fits a → Fits (coefficient d (take k ((c, a) ∷ [])))
at_column c d zero a f = nothing_fits
at_column c d (suc k) a f = none k (by_test (nat_eq c d))
  where
    by_test : (b : Bool) → Fits ((if b then a else pos 0) +ℤ pos 0)
    by_test true = subst Fits (sym (to_zero a)) f
    by_test false = nothing_fits

    none : (k : ℕ) → Fits ((if nat_eq c d then a else pos 0) +ℤ pos 0) → Fits (coefficient d (take (suc k) ((c, a) ∷ [])))
    none zero g = g
    none (suc k) g = g

one_fits : (c : ℕ) (a b : ℤ) → Fits a → Fits b → SumsFit ((c, a) ∷ []) b
one_fits c a b f g = record { each = (f, tt); sums = λ d k. at_column c d k a f; bound_fits = g }

pub add_bound-requires-clause-fits : goal.add_bound-requires-clause-fits
add_bound-requires-clause-fits c = one_fits c.args.column (negsuc 0) (pos 0) (omega arith) nothing_fits

pub add_bound-requires-in-Some-Bool-clause-fits : goal.add_bound-requires-in-Some-Bool-clause-fits
add_bound-requires-in-Some-Bool-clause-fits c = one_fits c.args.column (pos 1) (pos 1) (omega arith) (omega arith)
