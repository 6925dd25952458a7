use Rattle.std.proofs.Common.{rules, FitsSigned, ℕ, ℤ, List, ◌∙◌, sym, ap, subst}
use Rattle.std.specs.Int.{w128}
use Rattle.std.proofs.lemmas.Int.{to_z-of_z}
use Rattle.fm_elim.proofs.ValueLemmas.{end_exact}
use Rattle.lin_rows.specs.Rows.{LinearRow}
use Rattle.frac.specs.Fractions.{Fraction}
use Rattle.fm_elim.specs.Answers.{Gives}
use Rattle.fm_elim.specs.Quotients.{whole, MinusFits}
use Rattle.fm_elim.specs.Values.{end_of, EndFits, SumOfFits}
use Rattle.fm_elim.proofs.Exits.{exit_part}
use Rattle.fm_elim.proofs.values.end_of.Goals as goal

pub returns : goal.returns
returns c =
    let f : FitsSigned w128 c.bound.result = search rules in
    let g : FitsSigned w128 c.coefficient.result = search rules in
    let s = rw (c.terms-terms.ensures.value, c.row.ensures) at c.in_ok-sum.ensures in
    let b = rw (c.bound.ensures, c.row-2.ensures) at (simp to_z-of_z at c.in_ok-bound.ensures.1.1) in
    let u = rw (c.coefficient.ensures.value, c.row-3.ensures) at (simp to_z-of_z at c.in_ok-factor.ensures.1.1) in
    end_exact c.args.column c.args.values.now c.args.row.now c.in_ok-sum.sum c.in_ok-bound.bound c.in_ok-rest.rest c.in_ok-factor.factor c.over.result
    s b c.in_ok-rest.ensures u c.over.ensures

pub returns-in_err-sum : goal.returns-in_err-sum
returns-in_err-sum c =
    let k = c.args.column in
    let values = c.args.values.now in
    exit_part c.from_residual.result (Gives (end_of k values c.args.row.now)) (EndFits k values c.args.row.now) (SumOfFits k values c.terms-terms.result.now) c.in_err-sum.field-0.0
    (λ h. subst (λ (ts : List (ℕ × ℤ)). SumOfFits k values ts) (sym (c.terms-terms.ensures.value ∙ ap (λ (r : LinearRow). r.terms) c.row.ensures)) h.sum)
    c.in_err-sum.ensures c.from_residual.ensures.1

pub returns-in_err-bound : goal.returns-in_err-bound
returns-in_err-bound c =
    exit_part c.from_residual-in_err-bound.result (Gives (end_of c.args.column c.args.values.now c.args.row.now)) (EndFits c.args.column c.args.values.now c.args.row.now) (Unit {0}) c.in_err-bound.field-0.0
    (λ h. tt) c.in_err-bound.ensures c.from_residual-in_err-bound.ensures.1

pub returns-in_err-rest : goal.returns-in_err-rest
returns-in_err-rest c =
    let f : FitsSigned w128 c.bound.result = search rules in
    let s = rw (c.terms-terms.ensures.value, c.row.ensures) at c.in_ok-sum.ensures in
    let b = rw (c.bound.ensures, c.row-2.ensures) at (simp to_z-of_z at c.in_ok-bound.ensures.1.1) in
    exit_part c.from_residual-in_err-rest.result (Gives (end_of c.args.column c.args.values.now c.args.row.now)) (EndFits c.args.column c.args.values.now c.args.row.now)
    (MinusFits c.in_ok-bound.bound c.in_ok-sum.sum) c.in_err-rest.field-0.0
    (λ h. subst (λ (y : Fraction). MinusFits y c.in_ok-sum.sum) (sym b) (subst (λ (y : Fraction). MinusFits (whole c.args.row.now.row.bound) y) (sym s.1.1) h.rest))
    c.in_err-rest.ensures c.from_residual-in_err-rest.ensures.1

pub returns-in_err-factor : goal.returns-in_err-factor
returns-in_err-factor c =
    exit_part c.from_residual-in_err-factor.result (Gives (end_of c.args.column c.args.values.now c.args.row.now)) (EndFits c.args.column c.args.values.now c.args.row.now) (Unit {0}) c.in_err-factor.field-0.0
    (λ h. tt) c.in_err-factor.ensures c.from_residual-in_err-factor.ensures.1
