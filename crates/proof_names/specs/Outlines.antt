-- What an annotation names: triples with their refutations, nodes and steps, by numbers.
use Rattle.std.specs.Prelude.{ℕ, List, map, Option, slice_get}
use Rattle.std.specs.Option.{option_map}
use Rattle.proof_names.specs.declared.outlines.NamedTriple.{NamedTriple}
use Rattle.proof_names.specs.declared.outlines.NamedNode.{NamedNode}
use Rattle.proof_names.specs.declared.outlines.NamedStep.{NamedStep}
use Rattle.proof_names.specs.declared.outlines.Outline.{Outline}

-- a node: its place, its entry node, and its predicates
pub record OutlineNode : Type 0 where
  pub place : ℕ
  pub entry : ℕ
  pub preds : List ℕ

abbrev pub node : NamedNode → OutlineNode
node n = record { place = n.place; entry = n.entry; preds = n.preds.items }

-- the place of the node with this number
abbrev pub named_place : List NamedNode → ℕ → Option ℕ
named_place nodes n = option_map (λ x. x.place) (slice_get nodes n)

-- what all lines name
pub record Sketch : Type 0 where
  pub triples : List NamedTriple
  pub nodes : List OutlineNode
  pub steps : List NamedStep

abbrev pub sketch : Outline → Sketch
sketch o = record { triples = o.triples.items; nodes = map node o.nodes.items; steps = o.steps.items }
