use Rattle.std.proofs.Common.{◌≡◌, ◌++◌, drop}
use Rattle.lowered_graph.specs.Arcs.{entering_rows}
use Rattle.icfg_lower.proofs.program_walk.starting.rows_of.Given as goal

abbrev pub invariant-loop-old : goal.invariant-loop-old
invariant-loop-old l = l.rows.items ++ entering_rows l.written (drop l.old-index l.olds) ≡ entering_rows l.first l.olds
