use Rattle.typed_tree.specs.TypingRules.TypedParts.{typed_program}
use Rattle.race_workers.proofs.Parts.{own_shares, with_shares}
use Rattle.race_workers.proofs.working.work.Goals as goal

pub take_rounds-done-requires-clause-job : goal.take_rounds-done-requires-clause-job
take_rounds-done-requires-clause-job g c κs within = c.requires.job

pub take_rounds-done-requires-clause-pass : goal.take_rounds-done-requires-clause-pass
take_rounds-done-requires-clause-pass g c κs within =
    own_shares c.args.job.now.cell.now (typed_program c.args.job.now.program.now) c.args.job.now.limits 1 c.args.pass c.requires.pass

pub returns-clause-pass : goal.returns-clause-pass
returns-clause-pass g c =
    with_shares c.args.job.now.cell.now (typed_program c.args.job.now.program.now) c.args.job.now.limits c.args.pass.shares 1 c.take_rounds-done.new.pass
    c.take_rounds-done.ensures.pass c.requires.pass.shares

pub returns-clause-ended : goal.returns-clause-ended
returns-clause-ended g c = c.take_rounds-done.ensures.ended
