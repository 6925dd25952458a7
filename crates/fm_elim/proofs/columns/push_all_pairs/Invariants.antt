use Rattle.std.proofs.Common.{◌≡◌, ◌++◌, take}
use Rattle.fm_elim.specs.Columns.{pairs, PairsFit}
use Rattle.fm_elim.proofs.columns.push_all_pairs.Given as goal

abbrev pub invariant-loop-upper : goal.invariant-loop-upper
invariant-loop-upper l = record {
  value : l.rows.items ≡ l.initial.rows.items ++ pairs l.column (take l.upper-index l.uppers) l.lowers;
  fits : PairsFit l.column (take l.upper-index l.uppers) l.lowers;
}
