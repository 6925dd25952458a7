-- The nodes that are searched, as plain nodes.
use Rattle.std.specs.Prelude.{◌≡◌, ℕ, ◌<◌, List, map, length}
use Rattle.nwa_base.specs.Members.{Member}
use Rattle.proof_names.specs.Outlines.{OutlineNode}
use Rattle.proof_build.specs.declared.proof_unwind.spots.Spot.{Spot}
use Rattle.proof_build.specs.ProofUnwind.Unwindings.{node_at, node_place_in, entry_of}

abbrev pub plain : Spot → OutlineNode
plain s = record { place = s.place; entry = s.entry; preds = s.preds.items }

abbrev pub nodes_of : List Spot → List OutlineNode
nodes_of spots = map plain spots

-- the node is at the place, under the entry node, and its predicates are among these
pub record IsWeaker (nodes : List OutlineNode) (place entry : ℕ) (preds : List ℕ) (k : ℕ) : Type 0 where
  pub there : k < length nodes
  pub at : node_place_in nodes k ≡ place
  pub under : entry_of nodes k ≡ entry
  pub among : (r : ℕ) → Member (node_at nodes k).preds r → Member preds r

-- the node is an entry node at the place with these predicates
pub record IsEntryWith (nodes : List OutlineNode) (place : ℕ) (preds : List ℕ) (k : ℕ) : Type 0 where
  pub there : k < length nodes
  pub at : node_place_in nodes k ≡ place
  pub itself : entry_of nodes k ≡ k
  pub same : (node_at nodes k).preds ≡ preds
