use Rattle.std.proofs.Common.{◌≡◌, take}
use Rattle.std.specs.List.{AllByRecursion}
use Rattle.lin_rows.specs.Rows.{IsRow}
use Rattle.lin_rows.specs.Tightening.{tightened}
use Rattle.fm_elim.specs.Derivations.{inputs}
use Rattle.fm_elim.proofs.derivations.inputs.Given as goal

abbrev pub invariant-loop-given : goal.invariant-loop-given
invariant-loop-given l = record {
  number : l.number ≡ l.given-index;
  value : l.list.items ≡ inputs 0 (take l.given-index l.rows);
  valid : AllByRecursion (λ r. IsRow (tightened r)) (take l.given-index l.rows);
}
