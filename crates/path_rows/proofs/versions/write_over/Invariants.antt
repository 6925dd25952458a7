use Rattle.std.proofs.Common.{◌≡◌, drop}
use Rattle.path_rows.specs.Versions.{written_over}
use Rattle.path_rows.proofs.versions.write_over.Given as goal

abbrev pub invariant-loop-i : goal.invariant-loop-i
invariant-loop-i l = written_over l.here (drop l.i l.columns) (drop l.i l.news) ≡ written_over l.initial.here l.columns l.news
