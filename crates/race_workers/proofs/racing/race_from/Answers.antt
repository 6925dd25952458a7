use Rattle.std.proofs.Common.{◌≡◌, ◌∙◌, ◌+◌, ap, arith, rules}
use Rattle.letter_acts.specs.Invariant.{Graph}
use Rattle.typed_tree.specs.TypingRules.TypedParts.{typed_program}
use Rattle.race_workers.proofs.Givens.{opened_shares, only_words, only_given, closes}
use Rattle.race_workers.proofs.racing.race_from.Goals as goal

pub begin-requires-clause-cell : goal.begin-requires-clause-cell
begin-requires-clause-cell g c =
    let limit : c.in-Ok.cell.limit ≡ c.args.limits.rounds = search rules in
    let some = c.requires.limits.rounds.0 in
    (search rules, omega (arith, limit, some))

pub begin-requires-clause-given : goal.begin-requires-clause-given
begin-requires-clause-given g c = only_words (typed_program c.args.program.now) c.args.icfg.now.automaton c.args.first c.requires.given

pub run-requires-clause-pass : goal.run-requires-clause-pass
run-requires-clause-pass g c κs within =
    let shares : c.in-Ok.cell.shares ≡ c.args.limits.workers + 1 = search rules in (
      c.in-Ok-begin.ensures.of_cell,
      opened_shares c.args.first c.in-Ok.cell c.in-Ok.pass c.begin.new.pass (c.args.limits.workers + 1) c.in-Ok.ensures.pass
          c.in-Ok-begin.ensures.pass shares,
    )

pub returns-clause-race : goal.returns-clause-race
returns-clause-race g c =
    let t = typed_program c.args.program.now in
    let program : c.in-Ok.cell.program ≡ c.args.icfg.now.automaton = search rules in
    let limit : c.in-Ok.cell.limit ≡ c.args.limits.rounds = search rules in
    let room = c.sized-room.ensures in
    closes c.in-Ok.cell t c.args.limits c.args.limits.workers c.args.first c.in-Ok.pass c.begin.new.pass c.in-Ok-run.pass c.close-closed.result
    c.in-Ok.ensures.pass c.in-Ok-begin.ensures.pass c.in-Ok-run.ensures.done c.close-closed.ensures
    (only_given t c.args.icfg.now.automaton c.args.first c.requires.given) (program ∙ ap (λ (x : Graph). x.automaton) c.requires.lowered) limit
    (omega (arith, room))
