-- Entry nodes, and the nodes of frames that were entered at them.
use Rattle.std.specs.Prelude.{◌≡◌, ◌⊎◌, ℕ, IsTrue, Option, Some, slice_get}
use Rattle.typed_tree.specs.TypedTree.{TypedProgram}
use Rattle.letter_acts.specs.Meaning.{Situation}
use Rattle.letter_acts.specs.Invariant.{Graph, IsGraph}
use Rattle.triple_rows.specs.declared.triples.Scoped.{Scoped}
use Rattle.proof_form.specs.Annotations.{Content, is_annotation}
use Rattle.proof_names.specs.Items.{Names}
use Rattle.proof_names.specs.Outlines.{OutlineNode, Sketch}
use Rattle.proof_check.specs.Steps.{IsNode}
use Rattle.proof_check.specs.Described.{Describes}
use Rattle.proof_check.specs.Proves.{Proves, IsStart}
use Rattle.lowered_graph.specs.Lowered.{lowered}

-- The annotation proves the graph of the program, and this is what its lines name.
pub record IsProofOf (t : TypedProgram) (a : Content) (s : Sketch) : Type 0 where
  pub graph : IsGraph (lowered t)
  pub form : IsTrue (is_annotation a)
  pub names : Names (lowered t) a s
  pub proves : Proves (lowered t) a

-- node n is its own entry node, at the place where the body of procedure p begins
pub record IsEntryOf (g : Graph) (p n : ℕ) (x : OutlineNode) : Type 0 where
  pub itself : x.entry ≡ n
  pub at : slice_get g.entries p ≡ Some (Some x.place)

-- it is one; or, of the entry procedure, one that begins a run
abbrev pub Begins : TypedProgram → ℕ → ℕ → OutlineNode → Type 0
Begins t p n x = ((p ≡ t.entry) × IsStart n x) ⊎ IsEntryOf (lowered t) p n x

-- some node whose entry node is n describes what is seen
pub record IsDescribed (preds : ℕ → Option Scoped) (s : Sketch) (n : ℕ) (c : ℕ × Situation) : Type 0 where
  pub number : ℕ
  pub node : OutlineNode
  pub stands : IsNode s number node
  pub entry : node.entry ≡ n
  pub describes : Describes preds node c
