use Rattle.std.proofs.Common.{◌≡◌, ◌+◌, ◌≤◌, length, drop}
use Rattle.std.specs.Prelude.{filter}
use Rattle.letter_acts.specs.Frames.{is_local}
use Rattle.letter_acts.specs.FrameRows.Frames.{is_old}
use Rattle.trace_replay.proofs.told_choices.positions.entry_columns.Given as goal

abbrev pub invariant-loop-column : goal.invariant-loop-column
invariant-loop-column l = record {
  fits : l.locals + l.olds ≤ l.column-index;
  locals : l.locals + length (filter is_local (drop l.column-index l.frame)) ≡ length (filter is_local l.frame);
  olds : l.olds + length (filter is_old (drop l.column-index l.frame)) ≡ length (filter is_old l.frame);
}
