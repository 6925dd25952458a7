use Rattle.std.proofs.Common.{arith}
use Rattle.typed_tree.specs.TypingRules.TypedParts.{typed_program}
use Rattle.race_workers.proofs.Parts.{owns, shows}
use Rattle.race_workers.proofs.Turns.{added, refused}
use Rattle.race_workers.proofs.offering.publish.Goals as goal

pub publish-requires-clause-cell : goal.publish-requires-clause-cell
publish-requires-clause-cell g c κs within = c.requires.pass.of_cell

pub publish-requires-clause-base : goal.publish-requires-clause-base
publish-requires-clause-base g c κs within = let b = c.requires.base in omega (arith, b)

pub publish-requires-clause-fair : goal.publish-requires-clause-fair
publish-requires-clause-fair g c κs within = c.requires.fair

pub returns-in-Ok-clause-pass : goal.returns-in-Ok-clause-pass
returns-in-Ok-clause-pass g c =
    let m = c.in-Ok.ensures.moment in
    owns c.args.job.now.cell.now (typed_program c.args.job.now.program.now) c.args.job.now.limits c.args.pass.now.shares c.args.pass.now
    c.publish.new.pass m.0 m.1 c.args.pass.now.limit c.args.base c.args.entry c.requires.pass m.2 m.3.0 m.3.2 m.3.3 c.requires.own
    c.publish.ensures.of_cell

pub returns-in-Err-clause-pass : goal.returns-in-Err-clause-pass
returns-in-Err-clause-pass g c =
    let m = c.in-Err.ensures.moment in
    shows c.args.job.now.cell.now (typed_program c.args.job.now.program.now) c.args.job.now.limits c.args.pass.now.shares c.args.pass.now
    c.publish.new.pass m.0 m.1 c.requires.pass m.2 m.3.3 c.publish.ensures.of_cell

pub returns-in-Ok-clause-turn : goal.returns-in-Ok-clause-turn
returns-in-Ok-clause-turn g c =
    let m = c.in-Ok.ensures.moment in added c.args.pass.now c.publish.new.pass c.args.entry m.0 c.args.base m.3.2 m.3.3

pub returns-in-Err-clause-turn : goal.returns-in-Err-clause-turn
returns-in-Err-clause-turn g c =
    let m = c.in-Err.ensures.moment in
    refused c.args.pass.now c.publish.new.pass c.args.entry c.in-Err.refused.entry m.0 m.1 c.args.pass.now.limit c.args.base c.in-Err.refused.why
    c.after_refusal.result m.2 c.requires.base m.3.0 m.3.1 m.3.3 c.in-Err.ensures.names c.after_refusal.ensures
