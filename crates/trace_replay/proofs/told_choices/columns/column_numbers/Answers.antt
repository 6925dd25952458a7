use Rattle.std.proofs.Common.{◌+◌, [], ◌∷◌, drop, refl, sym}
use Rattle.lowered_graph.specs.LoweredSteps.Edges.{numbers_in}
use Rattle.trace_replay.proofs.ToldChoices.Turns.{turn}
use Rattle.trace_replay.proofs.LastTurns.{last_turn}
use Rattle.trace_replay.proofs.told_choices.columns.column_numbers.Goals as goal

pub loop-column-preserved : goal.loop-column-preserved
loop-column-preserved c =
    turn (numbers_in c.args.frame.now) c.args.columns.now c.loop-column.column-index _ c.loop-column.numbers.items c.push.new.self.items (numbers_in c.args.frame.now c.args.columns.now)
    (c.column_number.result ∷ []) c.loop-column-test.true (λ j. sym c.column_number.ensures j ∷ numbers_in c.args.frame.now (drop (c.loop-column.column-index + 1) c.args.columns.now))
    c.in_ok-push.ensures.items c.loop-column.invariant

pub loop-column-init : goal.loop-column-init
loop-column-init c = rw c.in_ok-numbers.ensures.items refl

pub returns : goal.returns
returns c =
    last_turn (numbers_in c.args.frame.now) c.args.columns.now c.loop-column.column-index c.loop-column.numbers.items (numbers_in c.args.frame.now c.args.columns.now) refl
    c.loop-column-test.false c.loop-column.invariant
