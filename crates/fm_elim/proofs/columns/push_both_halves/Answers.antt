use Rattle.std.proofs.Common.{inl, inr, arith}
use Rattle.std.proofs.lemmas.Int.{ints}
use Rattle.fm_elim.specs.Columns.{BothHalvesFit}
use Rattle.fm_elim.proofs.Exits.{exit_memory, exit_part}
use Rattle.fm_elim.proofs.columns.push_both_halves.Goals as goal

pub returns-in_err-none : goal.returns-in_err-none
returns-in_err-none c =
    exit_part c.from_residual.result _ (BothHalvesFit c.args.row.now) (Unit {0}) c.in_err-none.field-0.0 (λ h. tt) c.in_err-none.ensures c.from_residual.ensures.1

pub plus_times-requires : goal.plus_times-requires
plus_times-requires c = inl (omega (arith, ints))

pub plus_times-requires-2 : goal.plus_times-requires-2
plus_times-requires-2 c = inr c.requires

pub returns-in_err-push : goal.returns-in_err-push
returns-in_err-push c = exit_memory c.from_residual-in_err-push.result _ (BothHalvesFit c.args.row.now) c.from_residual-in_err-push.ensures.1

pub returns-in_err-push-2 : goal.returns-in_err-push-2
returns-in_err-push-2 c = exit_memory c.from_residual-in_err-push-2.result _ (BothHalvesFit c.args.row.now) c.from_residual-in_err-push-2.ensures.1
