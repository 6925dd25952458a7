use mathlib.Core.Bool.{false}
use denote.Param.{param}
use denote.Param.Send.{IsSend, IsSync, sendable, param_send, arg_send, shr_send}
use denote.Struct.Field.{u32-field}
use Rattle.std.proofs.Common.{◌≡◌, ◌+◌, rules, length, arith}
use Rattle.std.proofs.Crossing as std
use Rattle.std.specs.Prelude.{IsSome}
use Rattle.std.specs.contracts.alloc.Global as global
use Rattle.typed_tree.specs.TypingRules.TypedParts.{typed_program}
use Rattle.letter_acts.proofs.graphs.Icfg.TheSendSync as graph
use Rattle.itp_automaton.proofs.automata.Certified.TheSendSync as certified
use Rattle.version_cell.proofs.cells.VersionCell.TheSendSync as cell
use Rattle.version_cell.proofs.passes.Pass.TheSendSync as pass
use Rattle.race_workers.specs.Ties.Parts.{IsPassAt}
use Rattle.race_rounds.proofs.limits.Limits.TheSendSync as limits
use Rattle.race_workers.proofs.Crossing.{typed_sync, closure_send}
use Rattle.race_workers.proofs.Lists.{popped, popped_length}
use Rattle.race_workers.proofs.Parts.{joins, still_ended, with_shares}
use Rattle.race_workers.proofs.Closings.{ok_then, ok_map}
use Rattle.race_workers.proofs.working.+fn-run_all-join+arg3+run_all.Lts-run_all as ties
use Rattle.race_workers.proofs.working.+fn-run_all-join+arg3+run_all.Goals as goal

pub work-requires-clause-pass : goal.work-requires-clause-pass
work-requires-clause-pass g t c κs within =
    (popped (IsPassAt c.args.job.now.cell.now (typed_program c.args.job.now.program.now) c.args.job.now.limits 1) c.args.passes.items
    c.pop.new.self.items c.in-Some.pass c.in-Some.ensures.items c.requires.passes).1

pub returns-then-is_empty-clause-pass : goal.returns-then-is_empty-clause-pass
returns-then-is_empty-clause-pass g t c =
    let n = popped_length c.args.passes.items c.pop.new.self.items c.in-Some.pass c.in-Some.ensures.items in
    let z : length c.pop.new.self.items ≡ 0 = search rules in
    with_shares c.args.job.now.cell.now (typed_program c.args.job.now.program.now) c.args.job.now.limits 1 (length c.args.passes.items) c.work.result.1
    c.work.ensures.pass (omega (arith, n, z))

pub join-requires-clause-cell : goal.join-requires-clause-cell
join-requires-clause-cell g t c κs = (c.join-one.ensures.first.0.of_cell, c.join-one.ensures.second.0.of_cell)

pub returns-in-Ok-clause-pass : goal.returns-in-Ok-clause-pass
returns-in-Ok-clause-pass g t c =
    let n = popped_length c.args.passes.items c.pop.new.self.items c.in-Some.pass c.in-Some.ensures.items in
    with_shares c.args.job.now.cell.now (typed_program c.args.job.now.program.now) c.args.job.now.limits (1 + length c.pop.new.self.items) (length c.args.passes.items) c.join.new.pass
    (joins c.args.job.now.cell.now (typed_program c.args.job.now.program.now) c.args.job.now.limits 1 (length c.pop.new.self.items) c.join-one.result.0.1 c.join-one.result.1.1
    c.join.new.pass c.join-one.ensures.first.0 c.join-one.ensures.second.0 c.join.ensures.both c.join.ensures.first c.join.ensures.second c.join.ensures.of_cell) (omega (arith, n))

pub returns-in-Err-clause-pass : goal.returns-in-Err-clause-pass
returns-in-Err-clause-pass g t c =
    let n = popped_length c.args.passes.items c.pop.new.self.items c.in-Some.pass c.in-Some.ensures.items in
    with_shares c.args.job.now.cell.now (typed_program c.args.job.now.program.now) c.args.job.now.limits (1 + length c.pop.new.self.items) (length c.args.passes.items) c.join.new.pass
    (joins c.args.job.now.cell.now (typed_program c.args.job.now.program.now) c.args.job.now.limits 1 (length c.pop.new.self.items) c.join-one.result.0.1 c.join-one.result.1.1
    c.join.new.pass c.join-one.ensures.first.0 c.join-one.ensures.second.0 c.join.ensures.both c.join.ensures.first c.join.ensures.second c.join.ensures.of_cell) (omega (arith, n))

pub returns-in-Ok-clause-ended : goal.returns-in-Ok-clause-ended
returns-in-Ok-clause-ended g t c =
    still_ended c.join-one.result.0.1 c.join.new.pass c.join.ensures.first
    (ok_then c.join-one.result.0.0 c.in-Ok.field-0 (IsSome c.join-one.result.0.1.ended) c.in-Ok.is c.join-one.ensures.first.1)

pub returns-in-Err-clause-ended : goal.returns-in-Err-clause-ended
returns-in-Err-clause-ended g t c =
    ok_map c.join-one.result.1.0 (IsSome c.join-one.result.1.1.ended) (IsSome c.join.new.pass.ended)
    (still_ended c.join-one.result.1.1 c.join.new.pass c.join.ensures.second) c.join-one.ensures.second.1

heap_send : IsSend global.the_row
heap_send = search (sendable, std.crosses) depth 20

number_send : IsSend (u32-field).row
number_send = search sendable

-- the search that is tried by itself ends at its limits: one term for each value that the closure takes with it
pub join-one-requires-send-F : goal.join-one-requires-send-F
join-one-requires-send-F g t c κs within =
    let r : IsSync (param 1 g.row.R) = search sendable in
    let s : IsSync (param 0 g.row.G) = search sendable in
    param_send 1 (ties.arg-5-1 g.row.G g.row.R g.G.laws g.R.laws g.G.Gate-dict g.R.Threads-dict g.R.Wait-dict κs)
    (arg_send _ (λ l. false) _ (closure_send _ _ _ _ _ _ _ _ _ _ (shr_send _ _ _ typed_sync) (shr_send _ _ _ graph.the_sync) limits.the_send
    (shr_send _ _ _ (cell.the_sync _ _ certified.the_send)) (shr_send _ _ _ s) (shr_send _ _ _ r) heap_send number_send
    (pass.the_send _ _ certified.the_send)))
