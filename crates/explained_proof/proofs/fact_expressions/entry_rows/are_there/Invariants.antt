use Rattle.std.proofs.Common.{◌≡◌, true, is_some, take}
use Rattle.std.specs.List.{list_all}
use Rattle.explained_proof.proofs.fact_expressions.entry_rows.are_there.Given as goal

abbrev pub invariant-loop-row : goal.invariant-loop-row
invariant-loop-row l = list_all is_some (take l.row-index l.rows) ≡ true
