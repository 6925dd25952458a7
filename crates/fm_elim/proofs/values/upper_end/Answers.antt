use Rattle.std.proofs.Common.{◌≡◌, Option, None, take, get_or, sym, subst}
use Rattle.std.specs.List.{fold}
use Rattle.frac.specs.Fractions.{Fraction}
use Rattle.fm_elim.specs.Answers.{GivesEnd}
use Rattle.fm_elim.specs.Folds.{FoldFits}
use Rattle.fm_elim.specs.Derivations.{DerivedRow}
use Rattle.fm_elim.specs.Values.{upper_end, lowered_end, LoweredFits}
use Rattle.fm_elim.proofs.Exits.{exit_part}
use Rattle.fm_elim.proofs.FoldLaws.{fits_step}
use Rattle.fm_elim.proofs.LoopSteps.{fold_next, fold_end}
use Rattle.fm_elim.proofs.values.upper_end.Goals as goal

pub returns-in_err-best : goal.returns-in_err-best
returns-in_err-best c =
    let k = c.args.column in
    let values = c.args.values.now in
    let rows = c.args.rows.now in
    let i = c.loop-row.row-index in
    let r = c.row-item.result in
    let e : get_or rows i r ≡ r = cc in
    exit_part c.from_residual.result (GivesEnd (upper_end k values rows)) (FoldFits (lowered_end k values) (LoweredFits k values) None rows) (LoweredFits k values c.loop-row.best r) c.in_err-best.field-0.0
    (λ h. subst (λ (o : Option Fraction). LoweredFits k values o r) (sym c.loop-row.invariant.value.1)
    (subst (λ (q : DerivedRow). LoweredFits k values (fold (lowered_end k values) None (take i rows)) q) e (fits_step (lowered_end k values) (LoweredFits k values) None rows i r c.loop-row-test.true h)))
    c.in_err-best.ensures c.from_residual.ensures.1

pub loop-row-preserved : goal.loop-row-preserved
loop-row-preserved c =
    let k = c.args.column in
    let values = c.args.values.now in
    let r = c.row-item.result in
    let more = fold_next (lowered_end k values) (LoweredFits k values) None c.args.rows.now c.loop-row.row-index r r c.loop-row.best c.in_ok-best.best c.loop-row-test.true c.row-item.is
    c.loop-row.invariant.value.1 c.loop-row.invariant.fits c.in_ok-best.ensures.0 c.in_ok-best.ensures.1.1 in
    record { value = (c.in_ok-best.ensures.1.0, more.0); fits = more.1 }

pub returns : goal.returns
returns c =
    let k = c.args.column in
    let values = c.args.values.now in
    let done = fold_end (lowered_end k values) (LoweredFits k values) None c.args.rows.now c.loop-row.row-index c.loop-row.best c.loop-row-test.false
    c.loop-row.invariant.value.1 c.loop-row.invariant.fits in
    (done.0, (c.loop-row.invariant.value.0, done.1))
