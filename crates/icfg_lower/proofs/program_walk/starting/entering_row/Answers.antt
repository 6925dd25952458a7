use Rattle.std.proofs.Common.{◌∙◌, ap, Err, ℕ, zero, suc, Bool, true, false, pos, negsuc, ◌+ℤ◌, [], ◌∷◌, take, nat_eq, arith}
use Rattle.std.specs.Prelude.{if◌then◌else◌}
use Rattle.math_facts.specs.Fits.{Fits}
use Rattle.math_facts.specs.Terms.{coefficient}
use Rattle.lin_rows.specs.Sums.{SumsFit}
use Rattle.icfg_lower.proofs.program_walk.starting.entering_row.Goals as goal

nothing_fits : Fits (pos 0)
nothing_fits = omega arith

-- the sum of a column, of the first term and of both
one_fits : (b : Bool) → Fits ((if b then negsuc 0 else pos 0) +ℤ pos 0)
one_fits true = omega arith
one_fits false = omega arith

both_fit : (b e : Bool) → Fits ((if b then negsuc 0 else pos 0) +ℤ ((if e then pos 1 else pos 0) +ℤ pos 0))
both_fit true true = omega arith
both_fit true false = omega arith
both_fit false true = omega arith
both_fit false false = omega arith

at_column : (global written c k : ℕ) → Fits (coefficient c (take k ((global, negsuc 0) ∷ (written, pos 1) ∷ [])))
at_column global written c zero = nothing_fits
at_column global written c (suc zero) = one_fits (nat_eq global c)
at_column global written c (suc (suc zero)) = both_fit (nat_eq global c) (nat_eq written c)
at_column global written c (suc (suc (suc k))) = both_fit (nat_eq global c) (nat_eq written c)

entering_fits : (global written : ℕ) → SumsFit ((global, negsuc 0) ∷ (written, pos 1) ∷ []) (pos 0)
entering_fits global written = record {
  each = (let f : Fits (negsuc 0) = omega arith in f, (let f : Fits (pos 1) = omega arith in f, tt));
  sums = λ c k. at_column global written c k;
  bound_fits = nothing_fits;
}

pub unreachable-requires : goal.unreachable-requires
unreachable-requires c = c.row.ensures.past (c.in-Err-Past.is ∙ ap (λ e. Err e) c.in-Err-Past.field-0-is) (entering_fits c.args.global c.args.written)
