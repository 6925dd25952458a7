use Rattle.std.proofs.Common.{◌≡◌, Ok, length, arith, rules}
use Rattle.std.specs.Prelude.{IsSome}
use Rattle.typed_tree.specs.TypingRules.TypedParts.{typed_program}
use Rattle.race_workers.proofs.Parts.{with_shares, still_ended}
use Rattle.race_workers.proofs.Closings.{ok_then}
use Rattle.race_workers.proofs.Givens.{has_run}
use Rattle.race_workers.proofs.racing.run.Goals as goal

pub returns-clause-done : goal.returns-clause-done
returns-clause-done g c =
    let q = c.in_ok-passes.ensures.parts in
    let n = q.0 in
    let t = typed_program c.args.job.now.program.now in
    let at = with_shares c.args.job.now.cell.now t c.args.job.now.limits (length c.in_ok-passes.passes.items) c.args.job.now.limits.workers
    c.run_all-done.result.1 c.run_all-done.ensures.pass (omega (arith, n)) in
    has_run c.args.job.now.cell.now t c.args.job.now.limits c.args.job.now.limits.workers c.args.pass c.split_all.new.pass c.run_all-done.result.1 c.join.new.pass
    c.in_ok-passes.ensures.pass at c.join.ensures.both c.join.ensures.first c.join.ensures.second c.join.ensures.of_cell

pub returns-clause-ended : goal.returns-clause-ended
returns-clause-ended g c =
    let done : c.run_all-done.result.0 ≡ Ok c.in_ok-done.field-0 = search rules in
    still_ended c.run_all-done.result.1 c.join.new.pass c.join.ensures.second
    (ok_then c.run_all-done.result.0 c.in_ok-done.field-0 (IsSome c.run_all-done.result.1.ended) done c.run_all-done.ensures.ended)
