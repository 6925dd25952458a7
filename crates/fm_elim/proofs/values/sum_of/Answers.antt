use Rattle.std.proofs.Common.{pos, ℤ, ℕ, get_or, sym, subst, refl}
use Rattle.frac.specs.Fractions.{Fraction}
use Rattle.fm_elim.specs.Answers.{Gives}
use Rattle.fm_elim.specs.Quotients.{whole}
use Rattle.fm_elim.specs.Values.{with_term, WithTermFits, sum_of, SumOfFits}
use Rattle.fm_elim.proofs.Exits.{exit_part}
use Rattle.fm_elim.proofs.FoldLaws.{fits_step}
use Rattle.fm_elim.proofs.LoopSteps.{fold_next, fold_end}
use Rattle.fm_elim.proofs.values.sum_of.Goals as goal

pub returns-in_err-sum-2 : goal.returns-in_err-sum-2
returns-in_err-sum-2 c =
    let k = c.args.column in
    let values = c.args.values.now in
    let terms = c.args.terms.now in
    let t : ℕ × ℤ = get_or terms c.loop-term.term-index (0, pos 0) in
    exit_part c.from_residual-in_err-sum-2.result (Gives (sum_of k values terms)) (SumOfFits k values terms) (WithTermFits k values c.loop-term.sum t) c.in_err-sum-2.field-0.0
    (λ h. subst (λ (s : Fraction). WithTermFits k values s t) (sym c.loop-term.invariant.value.1)
    (fits_step (with_term k values) (WithTermFits k values) (whole (pos 0)) terms c.loop-term.term-index (0, pos 0) c.loop-term-test.true h))
    c.in_err-sum-2.ensures c.from_residual-in_err-sum-2.ensures.1

pub loop-term-init : goal.loop-term-init
loop-term-init c = record { value = c.in_ok-sum.ensures.1; fits = tt }

pub loop-term-preserved : goal.loop-term-preserved
loop-term-preserved c =
    let k = c.args.column in
    let values = c.args.values.now in
    let terms = c.args.terms.now in
    let t : ℕ × ℤ = get_or terms c.loop-term.term-index (0, pos 0) in
    let more = fold_next (with_term k values) (WithTermFits k values) (whole (pos 0)) terms c.loop-term.term-index (0, pos 0) t c.loop-term.sum c.in_ok-sum-2.sum c.loop-term-test.true refl
    c.loop-term.invariant.value.1 c.loop-term.invariant.fits c.in_ok-sum-2.ensures.0 c.in_ok-sum-2.ensures.1.1 in
    record { value = (c.in_ok-sum-2.ensures.1.0, more.0); fits = more.1 }

pub returns : goal.returns
returns c =
    let k = c.args.column in
    let values = c.args.values.now in
    let done = fold_end (with_term k values) (WithTermFits k values) (whole (pos 0)) c.args.terms.now c.loop-term.term-index c.loop-term.sum c.loop-term-test.false
    c.loop-term.invariant.value.1 c.loop-term.invariant.fits in
    (done.0, (c.loop-term.invariant.value.0, done.1))
