-- What an annotation that is built lists: nodes that are reached, in the order of their places, and triples that steps use, each once.
use Rattle.std.specs.Prelude.{◌≡◌, ◌⊎◌, ℕ, ◌<◌, List, [], ◌∷◌, map, length}
use Rattle.std.specs.List.{AllByRecursion}
use Rattle.nwa_base.specs.Members.{Member}
use Rattle.letter_acts.specs.Invariant.{Graph, AreDistinct}
use Rattle.proof_form.specs.Annotations.{Content}
use Rattle.proof_names.specs.declared.outlines.Listed.{Listed}
use Rattle.proof_names.specs.declared.outlines.Listed.TheVariants.{Inside, Call, Back}
use Rattle.proof_names.specs.declared.outlines.NamedTriple.{NamedTriple}
use Rattle.proof_names.specs.declared.outlines.NamedStep.{NamedStep}
use Rattle.proof_names.specs.declared.outlines.NamedStep.TheVariants as steps
use Rattle.proof_names.specs.Outlines.{OutlineNode, Sketch}
use Rattle.proof_names.specs.Items.{Names}
use Rattle.proof_check.specs.Steps.{IsOf}
use Rattle.proof_build.specs.ProofUnwind.Unwindings.{node_at}
use Rattle.proof_build.specs.ProofUnwind.Renumbering.{PlacesAscend}

-- what the lines of the annotation name is so
abbrev pub Says : Graph → (Sketch → Type 0) → Content → Type 0
Says g P a = (s : Sketch) × Names g a s × P s

-- ---- nodes that are reached

-- the nodes from which a step or a back leads: of a back the exit and the node before the call
abbrev pub sources : NamedStep → List ℕ
sources (steps.Step n l k) = n ∷ []
sources (steps.Back x c l k) = x ∷ c ∷ []

-- the node to which it leads
abbrev pub target : NamedStep → ℕ
target (steps.Step n l k) = k
target (steps.Back x c l k) = k

-- one of the steps leads to the node from nodes of the list
pub record IsLedTo (all : List NamedStep) (found : List ℕ) (n : ℕ) : Type 0 where
  pub step : NamedStep
  pub among : Member all step
  pub leads : target step ≡ n
  pub begins : AllByRecursion (Member found) (sources step)

-- each node of the list is the first node, or a step leads to it from nodes that stand after it in the list
abbrev pub AreFoundInTurn : List NamedStep → List ℕ → Type 0
AreFoundInTurn all [] = Unit {0}
AreFoundInTurn all (n ∷ found) = ((n ≡ 0) ⊎ IsLedTo all found n) × AreFoundInTurn all found

-- steps lead to the node from the first node
abbrev pub IsReachable : List NamedStep → ℕ → Type 0
IsReachable all n = (found : List ℕ) × Member found n × AreFoundInTurn all found

-- to each node
abbrev pub AreReachable : Sketch → Type 0
AreReachable s = (n : ℕ) → n < length s.nodes → IsReachable s.steps n

-- ---- the order of the nodes

abbrev pub AreInOrder : Sketch → Type 0
AreInOrder s = PlacesAscend s.nodes

-- ---- triples that are used

-- the step goes by the triple's letter from a node that has its source to one that has its target; a back from an exit and a node before
-- the call that have its sources
abbrev pub IsUsedBy : List OutlineNode → Listed → NamedStep → Type 0
IsUsedBy nodes (Inside q l r) (steps.Step n a k) = (a ≡ l) × IsOf q (node_at nodes n) × Member (node_at nodes k).preds r
IsUsedBy nodes (Call q l r) (steps.Step n a k) = (a ≡ l) × IsOf q (node_at nodes n) × Member (node_at nodes k).preds r
IsUsedBy nodes (Back q p l r) (steps.Back x c a k) = (a ≡ l) × IsOf q (node_at nodes x) × IsOf p (node_at nodes c) × Member (node_at nodes k).preds r
IsUsedBy nodes t s = ⊥

-- one of the steps uses it
abbrev pub IsUsed : List NamedStep → List OutlineNode → Listed → Type 0
IsUsed all nodes t = (s : NamedStep) × Member all s × IsUsedBy nodes t s

-- each triple is used
abbrev pub AreUsed : Sketch → Type 0
AreUsed s = (t : NamedTriple) → Member s.triples t → IsUsed s.steps s.nodes t.listed

-- no two triples have the same letter, sources and target
abbrev pub AreOnce : Sketch → Type 0
AreOnce s = AreDistinct (map (λ t. t.listed) s.triples)
