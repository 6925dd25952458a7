use Rattle.std.proofs.Common.{◌≡◌, ◌-◌, suc, rules, pos, get_or, FitsSigned, arith}
use Rattle.std.specs.Int.{w128}
use Rattle.std.proofs.lemmas.Int.{to_z-of_z}
use Rattle.fm_elim.proofs.Coefficients.{found, found_fits, past, fewer}
use Rattle.fm_elim.proofs.numbers.coefficient.Goals as goal

pub returns-then-term-column-clause-value : goal.returns-then-term-column-clause-value
returns-then-term-column-clause-value c =
    let f : FitsSigned w128 (get_or c.terms-terms.result.now (c.loop-left.left - 1) (0, pos 0)).1 = search rules in
    simp to_z-of_z
    (found c.args.row.now c.terms-terms.result.now c.args.column (c.loop-left.left - 1) (0, pos 0) c.terms-terms.ensures.valid
    c.terms-terms.ensures.value (omega arith) c.if-term-column.true)

pub returns-then-term-column-clause-fits : goal.returns-then-term-column-clause-fits
returns-then-term-column-clause-fits c =
    let f : FitsSigned w128 (get_or c.terms-terms.result.now (c.loop-left.left - 1) (0, pos 0)).1 = search rules in
    simp to_z-of_z
    (found_fits c.args.row.now c.terms-terms.result.now (c.loop-left.left - 1) (0, pos 0) c.terms-terms.ensures.valid
    c.terms-terms.ensures.value (omega arith))

pub returns-then-term-column-2-clause-value : goal.returns-then-term-column-2-clause-value
returns-then-term-column-2-clause-value c =
    let s : c.loop-left.left ≡ suc (c.loop-left.left - 1) = omega arith in
    past c.args.row.now c.terms-terms.result.now c.args.column c.loop-left.left (c.loop-left.left - 1) (0, pos 0) c.terms-terms.ensures.valid
    c.terms-terms.ensures.value s (omega arith) c.loop-left.invariant.value c.if-term-column-2.true

pub loop-left-preserved : goal.loop-left-preserved
loop-left-preserved c =
    let s : c.loop-left.left ≡ suc (c.loop-left.left - 1) = omega arith in
    record {
      bound = omega arith;
      value = fewer c.args.row.now c.terms-terms.result.now c.args.column c.loop-left.left (c.loop-left.left - 1) (0, pos 0) c.terms-terms.ensures.valid
          c.terms-terms.ensures.value s (omega arith) c.loop-left.invariant.value c.if-term-column.false;
    }
