use Rattle.std.proofs.Common.{rules, subst}
use Rattle.typed_tree.specs.TypingRules.TypedParts.{typed_program}
use Rattle.race_workers.specs.declared.rounds.Turn.{Turn}
use Rattle.race_workers.specs.Ties.Parts.{Pursues}
use Rattle.race_workers.proofs.Parts.{own_shares, with_shares}
use Rattle.race_workers.proofs.Turns.{carried_on, ended}
use Rattle.race_workers.proofs.working.take_rounds.Goals as goal

pub round-requires-clause-job : goal.round-requires-clause-job
round-requires-clause-job g c κs within = c.requires.job

pub round-requires-clause-pass : goal.round-requires-clause-pass
round-requires-clause-pass g c κs within =
    own_shares c.args.job.now.cell.now (typed_program c.args.job.now.program.now) c.args.job.now.limits c.args.pass.now.shares c.loop.pass c.loop.invariant.2

pub round-requires-clause-carried : goal.round-requires-clause-carried
round-requires-clause-carried g c κs within = c.loop.invariant.3

pub returns-in_err-entry-clause-pass : goal.returns-in_err-entry-clause-pass
returns-in_err-entry-clause-pass g c =
    with_shares c.args.job.now.cell.now (typed_program c.args.job.now.program.now) c.args.job.now.limits c.loop.pass.shares c.args.pass.now.shares c.round.new.pass
    c.round.ensures.pass c.loop.invariant.2.shares

pub returns-in-Over-clause-pass : goal.returns-in-Over-clause-pass
returns-in-Over-clause-pass g c =
    with_shares c.args.job.now.cell.now (typed_program c.args.job.now.program.now) c.args.job.now.limits c.loop.pass.shares c.args.pass.now.shares c.round.new.pass
    c.round.ensures.pass c.loop.invariant.2.shares

pub returns-in-Over-clause-ended : goal.returns-in-Over-clause-ended
returns-in-Over-clause-ended g c =
    let t = typed_program c.args.job.now.program.now in
    ended t c.loop.pass c.round.new.pass c.loop.carried
    (subst (λ (x : Turn). Pursues t c.loop.pass c.round.new.pass c.loop.carried x) c.in-Over.is c.in_ok-entry.ensures.turn)

pub loop-preserved : goal.loop-preserved
loop-preserved g c = (
  search rules,
  search rules,
  with_shares c.args.job.now.cell.now (typed_program c.args.job.now.program.now) c.args.job.now.limits c.loop.pass.shares c.args.pass.now.shares c.round.new.pass
      c.round.ensures.pass c.loop.invariant.2.shares,
  let t = typed_program c.args.job.now.program.now in
      carried_on t c.loop.pass c.round.new.pass c.loop.carried c.in-Again.entry c.loop.invariant.3
      (subst (λ (x : Turn). Pursues t c.loop.pass c.round.new.pass c.loop.carried x) c.in-Again.is c.in_ok-entry.ensures.turn),
)

pub loop-init : goal.loop-init
loop-init g c = (tt, tt, c.requires.pass, tt)
