use Rattle.std.proofs.Common.{◌≡◌, ◌+◌, ◌≤◌, length, drop}
use Rattle.letter_acts.specs.Frames.{old_columns}
use Rattle.icfg_lower.proofs.program_layout.frames.variables.Given as goal

abbrev pub invariant-loop-global : goal.invariant-loop-global
invariant-loop-global l = record {
  fits : l.count ≤ l.global-index;
  counted : l.count + length (old_columns l.global-index (drop l.global-index l.globals)) ≡ length (old_columns 0 l.globals);
}
