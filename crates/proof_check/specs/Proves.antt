-- When an annotation proves that no accepted word of a graph is feasible.
use Rattle.std.specs.Prelude.{◌≡◌, ℕ, List, [], Option, None, Some, slice_get}
use Rattle.nwa_base.specs.Members.{Member}
use Rattle.nwa_base.specs.Automata.{Automaton}
use Rattle.letter_acts.specs.Acts.{Alphabet}
use Rattle.letter_acts.specs.Invariant.{Graph, alphabet_of}
use Rattle.farkas_check.specs.Nodes.{PlainNode}
use Rattle.triple_rows.specs.declared.triples.Triple.{Triple}
use Rattle.triple_rows.specs.Triples.{IsRefuted}
use Rattle.proof_form.specs.Annotations.{Content}
use Rattle.proof_names.specs.declared.outlines.NamedTriple.{NamedTriple}
use Rattle.proof_names.specs.declared.outlines.NamedStep.{NamedStep}
use Rattle.proof_names.specs.Outlines.{OutlineNode, Sketch}
use Rattle.proof_names.specs.Items.{Names}
use Rattle.proof_check.specs.Steps.{IsNode, IsOpen, IsSound, HasSteps, HasBacks}

-- there is a refutation, it refutes the triple's system, and all numbers of the system fit
abbrev pub IsRefutedBy : Alphabet → Triple → Option (List PlainNode) → Type 0
IsRefutedBy al triple None = ⊥
IsRefutedBy al triple (Some nodes) = IsRefuted al triple nodes

-- the triple's refutation refutes its system, all of whose numbers fit
abbrev pub IsShown : Graph → NamedTriple → Type 0
IsShown g t = IsRefutedBy (alphabet_of g) t.triple t.proof

-- node n is an entry node at place 0 without predicates
pub record IsStart (n : ℕ) (x : OutlineNode) : Type 0 where
  pub itself : x.entry ≡ n
  pub at : x.place ≡ 0
  pub bare : x.preds ≡ []

-- some entry node at place 0 has no predicate
abbrev pub HasStartIn : List OutlineNode → Type 0
HasStartIn nodes = (n : ℕ) × (x : OutlineNode) × (slice_get nodes n ≡ Some x) × IsStart n x

abbrev pub HasStart : Sketch → Type 0
HasStart s = HasStartIn s.nodes

-- at an error place, which is a final state, the node has false
abbrev pub ErrorIsFalse : Automaton → OutlineNode → Type 0
ErrorIsFalse m x = Member m.finals x.place → Member x.preds 1

-- The annotation proves the graph.
pub record Proves (g : Graph) (a : Content) : Type 0 where
  -- what its lines name
  pub sketch : Sketch
  pub named : Names g a sketch
  -- each triple's refutation refutes its system, all of whose numbers fit
  pub refuted : (t : NamedTriple) → Member sketch.triples t → IsShown g t
  -- some entry node at place 0 has no predicate
  pub start : HasStart sketch
  -- each node at an error place has false
  pub errors : (n : ℕ) (x : OutlineNode) → IsNode sketch n x → ErrorIsFalse g.automaton x
  -- each step and each back is sound
  pub sound : (t : NamedStep) → Member sketch.steps t → IsSound g sketch t
  -- each node without false has a step for each inside or call edge from its place
  pub steps : (n : ℕ) (x : OutlineNode) → IsNode sketch n x → IsOpen x → HasSteps g sketch n x
  -- each exit node without false has a back for each return edge and each call node without false that is joined to its entry node
  pub backs : (n : ℕ) (x : OutlineNode) → IsNode sketch n x → IsOpen x → HasBacks g sketch n x
