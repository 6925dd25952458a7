use Rattle.std.proofs.Common.{rules, subst, Option}
use Rattle.std.specs.Prelude.{IsSome}
use Rattle.race_core.specs.declared.ends.EndKind.{EndKind}
use Rattle.typed_tree.specs.TypingRules.TypedParts.{typed_program}
use Rattle.race_workers.proofs.Parts.{reads, own_shares, with_shares}
use Rattle.race_workers.proofs.Turns.{over, pursues_before}
use Rattle.race_workers.proofs.rounds.round.Goals as goal

pub read-requires-clause-cell : goal.read-requires-clause-cell
read-requires-clause-cell g c κs within = c.requires.pass.of_cell

pub returns-in_default-clause-pass : goal.returns-in_default-clause-pass
returns-in_default-clause-pass g c =
    reads c.args.job.now.cell.now (typed_program c.args.job.now.program.now) c.args.job.now.limits c.args.pass.now.shares c.args.pass.now c.read.new.pass
    c.requires.pass c.read.ensures.of_cell c.read.ensures.moment

pub returns-then-is_some-clause-pass : goal.returns-then-is_some-clause-pass
returns-then-is_some-clause-pass g c =
    reads c.args.job.now.cell.now (typed_program c.args.job.now.program.now) c.args.job.now.limits c.args.pass.now.shares c.args.pass.now c.read.new.pass
    c.requires.pass c.read.ensures.of_cell c.read.ensures.moment

pub returns-then-is_some-clause-turn : goal.returns-then-is_some-clause-turn
returns-then-is_some-clause-turn g c =
    let s : IsSome c.read.new.pass.ended = subst (λ (x : Option EndKind). IsSome x) c.in-Ok.ensures.snapshot.1 (search rules) in
    over (typed_program c.args.job.now.program.now) c.args.pass.now c.read.new.pass c.args.carried s

pub pursue-requires-clause-job : goal.pursue-requires-clause-job
pursue-requires-clause-job g c κs within = c.requires.job

pub pursue-requires-clause-pass : goal.pursue-requires-clause-pass
pursue-requires-clause-pass g c κs within =
    own_shares c.args.job.now.cell.now (typed_program c.args.job.now.program.now) c.args.job.now.limits c.args.pass.now.shares c.read.new.pass
    (reads c.args.job.now.cell.now (typed_program c.args.job.now.program.now) c.args.job.now.limits c.args.pass.now.shares c.args.pass.now c.read.new.pass
    c.requires.pass c.read.ensures.of_cell c.read.ensures.moment)

pub pursue-requires-clause-seen : goal.pursue-requires-clause-seen
pursue-requires-clause-seen g c κs within = let s = c.in-Ok.ensures.snapshot in (s.0, s.2)

pub pursue-requires-clause-carried : goal.pursue-requires-clause-carried
pursue-requires-clause-carried g c κs within = c.requires.carried

pub returns-clause-pass : goal.returns-clause-pass
returns-clause-pass g c =
    with_shares c.args.job.now.cell.now (typed_program c.args.job.now.program.now) c.args.job.now.limits c.read.new.pass.shares c.args.pass.now.shares c.pursue.new.pass
    c.pursue.ensures.pass
    (reads c.args.job.now.cell.now (typed_program c.args.job.now.program.now) c.args.job.now.limits c.args.pass.now.shares c.args.pass.now c.read.new.pass
    c.requires.pass c.read.ensures.of_cell c.read.ensures.moment).shares

pub returns-clause-turn : goal.returns-clause-turn
returns-clause-turn g c =
    pursues_before (typed_program c.args.job.now.program.now) c.args.pass.now c.read.new.pass c.pursue.new.pass c.args.carried c.pursue.result
    c.read.ensures.moment c.pursue.ensures.turn
