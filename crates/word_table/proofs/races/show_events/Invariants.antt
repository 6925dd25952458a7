use Rattle.std.proofs.Common.{◌≡◌}
use Rattle.race_core.specs.Samples.{empty_word}
use Rattle.word_table.proofs.races.show_events.Given as goal

abbrev pub invariant-loop-event : goal.invariant-loop-event
invariant-loop-event l =
    (goal.iterator-loop-event).can_next l.event-iterator ×
    (goal.iterator-loop-event).is_finite l.event-iterator ×
    (l.state.program ≡ empty_word)
