use Rattle.std.proofs.Common.{◌≡◌, ◌+◌, ◌≤◌, length, drop}
use Rattle.letter_acts.specs.Frames.{old_columns}
use Rattle.trace_replay.proofs.told_choices.columns.before_locals.Given as goal

abbrev pub invariant-loop-global : goal.invariant-loop-global
invariant-loop-global l = record {
  fits : l.olds ≤ l.global-index;
  counted : l.olds + length (old_columns l.global-index (drop l.global-index l.globals)) ≡ length (old_columns 0 l.globals);
}
