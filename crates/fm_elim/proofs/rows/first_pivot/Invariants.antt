use Rattle.std.proofs.Common.{◌≡◌, ◌++◌, take, drop}
use Rattle.fm_elim.specs.Folds.{first, others}
use Rattle.fm_elim.specs.Columns.{is_pivot}
use Rattle.fm_elim.proofs.rows.first_pivot.Given as goal

abbrev pub invariant-loop-i : goal.invariant-loop-i
invariant-loop-i l =
    (first (is_pivot l.column) l.rows ≡ first (is_pivot l.column) (drop l.i l.rows)) ×
    (others (is_pivot l.column) l.rows ≡ take l.i l.rows ++ others (is_pivot l.column) (drop l.i l.rows))
