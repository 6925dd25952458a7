use Rattle.std.proofs.Common.{◌≡◌, length}
use Rattle.trace_replay.proofs.ValueReading.{AreRead}
use Rattle.trace_replay.proofs.reading.choices_of.Given as goal

abbrev pub invariant-loop-i : goal.invariant-loop-i
invariant-loop-i l = record { read : AreRead l.text l.choices.items l.rest; many : length l.choices.items ≡ l.i }
