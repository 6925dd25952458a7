-- The code's values as contracts see them.
use Rattle.explained_proof.specs.declared.row_expressions.scopes.Scope.{Scope}
use Rattle.explained_proof.specs.declared.row_expressions.rows.Split.{Split}
use Rattle.explained_proof.specs.RowExpressions.Scopes.{ClauseScope}
use Rattle.explained_proof.specs.RowExpressions.Rows.{ByTruths}

-- the scope of a clause
abbrev pub scope : Scope → ClauseScope
scope s = record { frame = s.frame.now; params = s.params; results = s.results; position = s.position; premise = s.premise }

-- the terms of a row
abbrev pub split : Split → ByTruths
split t = record { numbers = t.numbers.items; truths = t.truths.items }
