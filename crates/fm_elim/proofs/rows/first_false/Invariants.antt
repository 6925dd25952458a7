use Rattle.std.proofs.Common.{◌≡◌, drop}
use Rattle.fm_elim.specs.Folds.{first}
use Rattle.fm_elim.specs.Derivations.{is_false}
use Rattle.fm_elim.proofs.rows.first_false.Given as goal

abbrev pub invariant-loop-row : goal.invariant-loop-row
invariant-loop-row l = first is_false l.rows ≡ first is_false (drop l.row-index l.rows)
