use Rattle.std.proofs.Common.{◌≡◌, map, drop}
use Rattle.explained_proof.specs.FactExpressions.Facts.{facts_from}
use Rattle.explained_proof.specs.FactExpressions.Views as facts
use Rattle.explained_proof.specs.Known.{known_at}
use Rattle.explained_proof.specs.Ties.Views as view
use Rattle.explained_proof.proofs.clauses.facts_at.Given as goal

abbrev pub invariant-loop-number : goal.invariant-loop-number
invariant-loop-number l =
    facts_from (map (view.known l.knowledge).predicate (drop l.number-index l.number-items)) (facts.facts l.facts) ≡ known_at (view.known l.knowledge) l.node
