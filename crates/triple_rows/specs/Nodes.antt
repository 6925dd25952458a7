-- The nodes of a predicate.
use Rattle.std.specs.Prelude.{List}
use Rattle.std.specs.Arc.{arc_value}
use Rattle.triple_rows.specs.declared.predicates.PredNode.{PredNode}
use Rattle.triple_rows.specs.declared.predicates.Nodes.{Nodes}
use Rattle.triple_rows.specs.declared.predicates.Nodes.TheVariants.{Own, Shared}

-- the nodes, whether copies share them or not
abbrev pub nodes_in : Nodes → List PredNode
nodes_in (Own nodes) = nodes.items
nodes_in (Shared nodes) = (arc_value nodes).items
