use Rattle.std.proofs.Common.{ap}
use Rattle.typed_tree.specs.TypingRules.TypedParts.{typed_program}
use Rattle.itp_automaton.specs.Certified.{Certificate}
use Rattle.version_cell.specs.Passes.{Known}
use Rattle.race_workers.proofs.Parts.{ends, shows, ended_by_ending, ended_by_name}
use Rattle.race_workers.proofs.Turns.{begins_shown, finish_grows, not_ended}
use Rattle.race_workers.proofs.finishing.finish.Goals as goal

pub finish-requires-clause-cell : goal.finish-requires-clause-cell
finish-requires-clause-cell g c κs within = c.requires.pass.of_cell

pub returns-in-Ok-clause-pass : goal.returns-in-Ok-clause-pass
returns-in-Ok-clause-pass g c =
    let m = c.in-Ok.ensures.moment in
    ends c.args.job.now.cell.now (typed_program c.args.job.now.program.now) c.args.job.now.limits c.args.pass.now.shares c.args.pass.now
    c.finish.new.pass m.0 m.1 c.args.version c.args.end c.requires.pass m.2 m.3.1 c.requires.version m.3.2 c.requires.end c.finish.ensures.of_cell

pub returns-in-Ok-clause-turn : goal.returns-in-Ok-clause-turn
returns-in-Ok-clause-turn g c =
    let m = c.in-Ok.ensures.moment in ended_by_ending c.args.pass.now c.finish.new.pass m.0 c.args.end m.3.2

pub returns-in-Ok-clause-grows : goal.returns-in-Ok-clause-grows
returns-in-Ok-clause-grows g c =
    let m = c.in-Ok.ensures.moment in
    begins_shown c.args.pass.now c.finish.new.pass m.0 m.2.0 (ap (λ (k : Known Certificate). k.seen) m.3.2)

pub returns-in-Ended-clause-grows : goal.returns-in-Ended-clause-grows
returns-in-Ended-clause-grows g c =
    let m = c.in-Err.ensures.moment in
    begins_shown c.args.pass.now c.finish.new.pass m.0 m.2.0 (ap (λ (k : Known Certificate). k.seen) m.3.2)

pub returns-in-Ended-clause-pass : goal.returns-in-Ended-clause-pass
returns-in-Ended-clause-pass g c =
    let m = c.in-Err.ensures.moment in
    shows c.args.job.now.cell.now (typed_program c.args.job.now.program.now) c.args.job.now.limits c.args.pass.now.shares c.args.pass.now
    c.finish.new.pass m.0 m.1 c.requires.pass m.2 m.3.2 c.finish.ensures.of_cell

pub returns-in-Ended-clause-turn : goal.returns-in-Ended-clause-turn
returns-in-Ended-clause-turn g c = ended_by_name c.finish.new.pass c.in-Err.refused.why c.in-Ended.field-0 c.in-Err.ensures.names c.in-Ended.is

pub returns : goal.returns
returns g c =
    let m = c.in-Err.ensures.moment in
    record {
      pass = shows c.args.job.now.cell.now (typed_program c.args.job.now.program.now) c.args.job.now.limits c.args.pass.now.shares
          c.args.pass.now c.finish.new.pass m.0 m.1 c.requires.pass m.2 m.3.2 c.finish.ensures.of_cell;
      grows = begins_shown c.args.pass.now c.finish.new.pass m.0 m.2.0 (ap (λ (k : Known Certificate). k.seen) m.3.2);
      turn = finish_grows c.args.pass.now c.finish.new.pass m.0 m.1 c.args.version c.in-Err.refused.why m.2 c.requires.version m.3.0 m.3.2
          (not_ended c.in-Err.refused.why c.in-Full.is);
    }
