use Rattle.std.proofs.Common.{sym}
use Rattle.std.proofs.lemmas.List.{append-nil}
use Rattle.std.specs.List.{AllByRecursion}
use Rattle.fm_elim.specs.Columns.{pair, PairFits}
use Rattle.fm_elim.proofs.LoopSteps.{all_item, mapped_next, mapped_end}
use Rattle.fm_elim.proofs.Exits.{exit_memory, exit_part}
use Rattle.fm_elim.proofs.columns.push_pairs.Goals as goal

pub loop-lower-init : goal.loop-lower-init
loop-lower-init c = record { value = sym (append-nil c.args.rows.now.items); fits = tt }

pub returns-in_err-pair : goal.returns-in_err-pair
returns-in_err-pair c =
    let P = PairFits c.args.column c.args.upper.now in
    exit_part c.from_residual.result _ (AllByRecursion P c.args.lowers.now) (P c.lower-item.result) c.in_err-pair.field-0.0
    (all_item P c.args.lowers.now c.loop-lower.lower-index c.lower-item.result c.lower-item.result c.loop-lower-test.true c.lower-item.is)
    c.in_err-pair.ensures c.from_residual.ensures.1

pub returns-in_err-push : goal.returns-in_err-push
returns-in_err-push c =
    exit_memory c.from_residual-in_err-push.result _ (AllByRecursion (PairFits c.args.column c.args.upper.now) c.args.lowers.now) c.from_residual-in_err-push.ensures.1

pub loop-lower-preserved : goal.loop-lower-preserved
loop-lower-preserved c =
    let more = mapped_next (pair c.args.column c.args.upper.now) (PairFits c.args.column c.args.upper.now) c.args.rows.now.items c.loop-lower.rows.items c.push.new.self.items
    c.args.lowers.now c.loop-lower.lower-index c.lower-item.result c.in_ok-pair.field-0 c.loop-lower-test.true c.lower-item.is c.loop-lower.invariant.value c.loop-lower.invariant.fits
    c.in_ok-pair.ensures c.in_ok-push.ensures.items in
    record { value = more.0; fits = more.1 }

pub returns : goal.returns
returns c =
    mapped_end (pair c.args.column c.args.upper.now) (PairFits c.args.column c.args.upper.now) c.args.rows.now.items c.loop-lower.rows.items c.args.lowers.now c.loop-lower.lower-index
    c.loop-lower-test.false c.loop-lower.invariant.value c.loop-lower.invariant.fits
