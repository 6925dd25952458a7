-- Nodes under new numbers.
use Rattle.std.specs.Prelude.{◌≡◌, ◌≢◌, ℕ, ◌+◌, ◌<◌, ◌≤◌, List, map, length, slice_index, slice_index_or}
use Rattle.nwa_base.specs.declared.letters.Letter.{Letter}
use Rattle.nwa_base.specs.Automata.{Automaton}
use Rattle.proof_names.specs.Outlines.{OutlineNode}
use Rattle.proof_build.specs.ProofUnwind.Unwindings.{node_at, node_place_in}

-- the node with the new number of its entry node
abbrev pub renamed : (ℕ → ℕ) → OutlineNode → OutlineNode
renamed h x = record { place = x.place; entry = h x.entry; preds = x.preds }

-- the step or back between the new numbers
abbrev pub moved : (ℕ → ℕ) → (ℕ × Letter × ℕ) → ℕ × Letter × ℕ
moved h e = (h e.0, e.1, h e.2)

abbrev pub moved_back : (ℕ → ℕ) → (ℕ × ℕ × Letter × ℕ) → ℕ × ℕ × Letter × ℕ
moved_back h e = (h e.0, h e.1, e.2, h e.3)

-- the same states, with the steps and backs between the new numbers
pub record IsMoved (h : ℕ → ℕ) (s t : Automaton) : Type 0 where
  pub states : t.states ≡ s.states
  pub insides : t.insides ≡ map (moved h) s.insides
  pub calls : t.calls ≡ map (moved h) s.calls
  pub backs : t.backs ≡ map (moved_back h) s.backs

-- These are the nodes in another order: each has a number of its own, and the first stays.
pub record IsRenumbering (nodes new : List OutlineNode) (h : ℕ → ℕ) : Type 0 where
  pub first : h 0 ≡ 0
  pub long : length new ≡ length nodes
  pub below : (n : ℕ) → n < length nodes → h n < length nodes
  pub apart : (n k : ℕ) → n < length nodes → k < length nodes → h n ≡ h k → n ≡ k
  pub onto : (j : ℕ) → j < length nodes → (n : ℕ) × (n < length nodes) × (h n ≡ j)
  pub at : (n : ℕ) → n < length nodes → node_at new (h n) ≡ renamed h (node_at nodes n)

-- the places of the nodes ascend
abbrev pub PlacesAscend : List OutlineNode → Type 0
PlacesAscend nodes = (n k : ℕ) → n < k → k < length nodes → node_place_in nodes n ≤ node_place_in nodes k

-- ---- the order

-- the pair at a place of the list
abbrev pub pair_at : List (ℕ × ℕ) → ℕ → ℕ × ℕ
pair_at pairs j = slice_index_or pairs j (0, 0)

-- the place and the number of each node but the first
pub record AreOthers (nodes : List OutlineNode) (pairs : List (ℕ × ℕ)) : Type 0 where
  pub long : length pairs + 1 ≡ length nodes
  pub at : (k : ℕ) → k < length pairs → pair_at pairs k ≡ (node_place_in nodes (k + 1), k + 1)

-- the numbers of the pairs are below the length of the list, and differ
pub record IsOrder (order : List (ℕ × ℕ)) : Type 0 where
  pub below : (j : ℕ) → j < length order → (pair_at order j).1 < length order
  pub apart : (i j : ℕ) → i < j → j < length order → (pair_at order i).1 ≢ (pair_at order j).1

-- The place and the number of each node, each node once, in the order of their places; the first node stays the first.
pub record ArePlaced (nodes : List OutlineNode) (order : List (ℕ × ℕ)) : Type 0 where
  pub is_order : IsOrder order
  pub long : length order ≡ length nodes
  pub first : (pair_at order 0).1 ≡ 0
  pub all : (n : ℕ) → n < length nodes → (j : ℕ) × (j < length order) × ((pair_at order j).1 ≡ n)
  pub places : (j : ℕ) → j < length order → (pair_at order j).0 ≡ node_place_in nodes (pair_at order j).1
  pub ascend : (i j : ℕ) → i < j → j < length order → (pair_at order i).0 ≤ (pair_at order j).0

-- at each node's number its place in the order
abbrev pub AreRanks : List (ℕ × ℕ) → List ℕ → Type 0
AreRanks order ranks = (j : ℕ) → j < length order → slice_index ranks (pair_at order j).1 ≡ j
