use Rattle.std.proofs.Common.{◌≡◌}
use Rattle.icfg_lower.specs.CallJumps.Ties.Numbered.{numbered_columns}
use Rattle.icfg_lower.proofs.call_jumps.columns.numbered_frame.Given as goal

abbrev pub invariant-loop-number : goal.invariant-loop-number
invariant-loop-number l = l.columns.items ≡ numbered_columns l.number
