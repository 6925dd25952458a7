-- What contracts see of classes.
use Rattle.nwa_reduce.specs.Ties.Rows.{row_of}
use Rattle.nwa_reduce.specs.declared.classing.Classes.{Classes}
use Rattle.nwa_reduce.specs.Ties.Classes.{Classed, lists_of}

-- the classes and the states that have one
unfoldable pub seen : Classes → Classed
seen s = record {
  nwa = s.nwa.now;
  returns = λ p. row_of s.returns.rows.items p;
  table = s.table.keys;
  signatures = lists_of s.signatures.keys;
  heads = s.heads.items;
  leaders = s.leaders.items;
  names = s.names.items;
}
