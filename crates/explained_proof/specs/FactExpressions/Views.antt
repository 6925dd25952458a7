-- The code's values as contracts see them.
use Rattle.std.specs.Prelude.{List, map}
use Rattle.std.specs.Borrow.{Bor}
use Rattle.lin_rows.specs.Rows.{LinearRow}
use Rattle.triple_rows.specs.Predicates.{Formula, formula_of}
use Rattle.explained_proof.specs.declared.fact_expressions.trees.Tree.{Tree}
use Rattle.explained_proof.specs.declared.fact_expressions.conjunctions.Conjunction.{Conjunction}
use Rattle.explained_proof.specs.declared.fact_expressions.disjunctions.Disjunction.{Disjunction}
use Rattle.explained_proof.specs.FactExpressions.Facts.{Facts}
use Rattle.explained_proof.specs.FactExpressions.Disjunctions.{Alternatives}

abbrev pub tree : Tree → Formula
tree t = formula_of t.nodes.now

abbrev pub rows : List (Bor LinearRow) → List LinearRow
rows rs = map (λ r. r.now) rs

-- a conjunction of the code
abbrev pub facts : Conjunction → Facts
facts c = record { rows = rows c.rows.items; cases = map tree c.cases.items; never = c.never }

abbrev pub alternatives : Disjunction → Alternatives
alternatives d = record { shared = facts d.shared; rests = map facts d.rests.items }
