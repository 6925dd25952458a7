use Rattle.std.proofs.Common.{◌≡◌, ◌+◌, ◌-◌, length, drop}
use Rattle.letter_acts.specs.FrameRows.Rows.{columns_from}
use Rattle.path_rows.specs.Versions.{written_over}
use Rattle.rank_lasso.proofs.lasso_turns.made.write_from.Given as goal

abbrev pub invariant-loop-i : goal.invariant-loop-i
invariant-loop-i l =
    written_over l.here (drop l.i l.written) (columns_from (l.from + l.i) (length l.written - l.i)) ≡ written_over l.fn.here l.written (columns_from l.from (length l.written))
