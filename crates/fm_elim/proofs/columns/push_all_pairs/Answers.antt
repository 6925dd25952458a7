use Rattle.std.proofs.Common.{sym}
use Rattle.std.proofs.lemmas.List.{append-nil}
use Rattle.std.specs.List.{AllByRecursion}
use Rattle.fm_elim.specs.Derivations.{is_upper}
use Rattle.std.specs.Prelude.{IsTrue, map}
use Rattle.fm_elim.specs.Columns.{pair, PairFits, PairsFit}
use Rattle.fm_elim.proofs.LoopSteps.{all_item, flat_next, flat_end}
use Rattle.fm_elim.proofs.Exits.{exit_part}
use Rattle.fm_elim.proofs.columns.push_all_pairs.Goals as goal

pub loop-upper-init : goal.loop-upper-init
loop-upper-init c = record { value = sym (append-nil c.args.rows.now.items); fits = tt }

pub push_pairs-requires : goal.push_pairs-requires
push_pairs-requires c =
    all_item (λ u. IsTrue (is_upper c.args.column u)) c.args.uppers.now c.loop-upper.upper-index c.upper-item.result c.upper-item.result c.loop-upper-test.true c.upper-item.is c.requires

pub returns-in_err-push_pairs : goal.returns-in_err-push_pairs
returns-in_err-push_pairs c =
    let k = c.args.column in
    let lowers = c.args.lowers.now in
    exit_part c.from_residual.result _ (PairsFit k c.args.uppers.now lowers) (AllByRecursion (PairFits k c.upper-item.result) lowers) c.in_err-push_pairs.field-0.0
    (all_item (λ u. AllByRecursion (PairFits k u) lowers) c.args.uppers.now c.loop-upper.upper-index c.upper-item.result c.upper-item.result c.loop-upper-test.true c.upper-item.is)
    c.in_err-push_pairs.ensures c.from_residual.ensures.1

pub loop-upper-preserved : goal.loop-upper-preserved
loop-upper-preserved c =
    let k = c.args.column in
    let lowers = c.args.lowers.now in
    let more = flat_next (λ u. map (pair k u) lowers) (λ u. AllByRecursion (PairFits k u) lowers) c.args.rows.now.items c.loop-upper.rows.items c.push_pairs.new.rows.items
    c.args.uppers.now c.loop-upper.upper-index c.upper-item.result c.loop-upper-test.true c.upper-item.is c.loop-upper.invariant.value c.loop-upper.invariant.fits
    c.in_ok-push_pairs.ensures in
    record { value = more.0; fits = more.1 }

pub returns : goal.returns
returns c =
    let k = c.args.column in
    let lowers = c.args.lowers.now in
    flat_end (λ u. map (pair k u) lowers) (λ u. AllByRecursion (PairFits k u) lowers) c.args.rows.now.items c.loop-upper.rows.items c.args.uppers.now c.loop-upper.upper-index
    c.loop-upper-test.false c.loop-upper.invariant.value c.loop-upper.invariant.fits
