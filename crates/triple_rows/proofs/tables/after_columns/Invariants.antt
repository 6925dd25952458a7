use Rattle.std.proofs.Common.{take}
use Rattle.triple_rows.specs.Systems.{after_column}
use Rattle.triple_rows.proofs.TableLaws.{HasColumns}
use Rattle.triple_rows.proofs.tables.after_columns.Given as goal

abbrev pub invariant-loop-i : goal.invariant-loop-i
invariant-loop-i l = HasColumns l.count (after_column l.base l.first (take l.i l.written)) l.columns.items
