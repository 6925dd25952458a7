use Rattle.nwa_reduce.proofs.MadeLemmas.{on_ok}
use Rattle.nwa_reduce.proofs.JoinLemmas.{exit_none, exit_one, absent}
use Rattle.nwa_reduce.proofs.joining.join_exit.Goals as goal

pub returns-then-not-returns : goal.returns-then-not-returns
returns-then-not-returns c =
    exit_none c.args.nwa.now c.args.callers.now c.args.exit c.args.joins.now.items (λ r. absent _ c.if-not-returns.true (c.returns.ensures.1 r))

pub returns : goal.returns
returns c =
    on_ok c.join_callers.result (exit_one c.args.nwa.now c.args.callers.now c.args.exit c.args.joins.now.items c.join_callers.new.joins.items)
    c.join_callers.ensures
