use Rattle.std.proofs.Common.{◌≡◌}
use Rattle.std.specs.String.{string_bytes}
use Rattle.trace_replay.proofs.WrittenTexts.{written_to}
use Rattle.trace_replay.proofs.writing.write_failure.Given as goal

abbrev pub invariant-loop-choice : goal.invariant-loop-choice
invariant-loop-choice l = string_bytes l.text ≡ written_to l.fn.failure l.choice-index
