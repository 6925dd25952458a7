-- Unwindings of an automaton: nodes, each for a state with predicates, and the steps and backs between them.
use Rattle.std.specs.Prelude.{◌≡◌, ◌⊎◌, ℕ, zero, suc, ◌<◌, List, [], ◌∷◌, length}
use Rattle.nwa_base.specs.declared.letters.Letter.{Letter}
use Rattle.nwa_base.specs.Members.{Member}
use Rattle.nwa_base.specs.Automata.{Automaton}
use Rattle.nwa_base.specs.Acceptance.{Moves}
use Rattle.proof_names.specs.Outlines.{OutlineNode}
use Rattle.proof_check.specs.Steps.{IsOf, IsOpen}

-- the node with this number; without predicates at place 0 where there is none
abbrev pub node_at : List OutlineNode → ℕ → OutlineNode
node_at [] n = record { place = 0; entry = 0; preds = [] }
node_at (x ∷ xs) zero = x
node_at (x ∷ xs) (suc n) = node_at xs n

abbrev pub node_place_in : List OutlineNode → ℕ → ℕ
node_place_in nodes n = (node_at nodes n).place

abbrev pub entry_of : List OutlineNode → ℕ → ℕ
entry_of nodes n = (node_at nodes n).entry

-- the first node is an entry node at place 0 without predicates
abbrev pub bare : OutlineNode
bare = record { place = 0; entry = 0; preds = [] }

-- ---- steps follow edges of the graph

-- the nodes exist, there is such an edge between their places, and the entry node stays
pub record IsInsideStep (m : Automaton) (nodes : List OutlineNode) (n : ℕ) (a : Letter) (k : ℕ) : Type 0 where
  pub «from» : n < length nodes
  pub to : k < length nodes
  pub edge : Member m.insides (node_place_in nodes n, a, node_place_in nodes k)
  pub entry : entry_of nodes k ≡ entry_of nodes n

-- likewise, to an entry node
pub record IsCallStep (m : Automaton) (nodes : List OutlineNode) (n : ℕ) (a : Letter) (k : ℕ) : Type 0 where
  pub «from» : n < length nodes
  pub to : k < length nodes
  pub edge : Member m.calls (node_place_in nodes n, a, node_place_in nodes k)
  pub entry : entry_of nodes k ≡ k

-- likewise from the exit x with node c before the call: a step leads from c by the call letter to the entry node of x, and the end has
-- the entry node of c
pub record IsBackStep (m : Automaton) (nodes : List OutlineNode) (s : Automaton) (x c : ℕ) (r : Letter) (k : ℕ) : Type 0 where
  pub exit : x < length nodes
  pub before : c < length nodes
  pub to : k < length nodes
  pub edge : Member m.backs (node_place_in nodes x, node_place_in nodes c, r, node_place_in nodes k)
  pub entry : entry_of nodes k ≡ entry_of nodes c
  pub letter : Letter
  pub joined : Member s.calls (c, letter, entry_of nodes x)
  pub names : r.call ≡ letter.id

pub record IsAlong (m : Automaton) (nodes : List OutlineNode) (s : Automaton) : Type 0 where
  pub insides : (n : ℕ) (a : Letter) (k : ℕ) → Member s.insides (n, a, k) → IsInsideStep m nodes n a k
  pub calls : (n : ℕ) (a : Letter) (k : ℕ) → Member s.calls (n, a, k) → IsCallStep m nodes n a k
  pub backs : (x c : ℕ) (r : Letter) (k : ℕ) → Member s.backs (x, c, r, k) → IsBackStep m nodes s x c r k

-- ---- open nodes have their steps

-- a step leads from node n by the letter to a node at the place
pub record HasStep (edges : List (ℕ × Letter × ℕ)) (nodes : List OutlineNode) (n : ℕ) (a : Letter) (place : ℕ) : Type 0 where
  pub number : ℕ
  pub step : Member edges (n, a, number)
  pub at : node_place_in nodes number ≡ place

-- a back leads from the exit x, with node c before the call, by the letter to a node at the place
pub record HasBack (edges : List (ℕ × ℕ × Letter × ℕ)) (nodes : List OutlineNode) (x c : ℕ) (r : Letter) (place : ℕ) : Type 0 where
  pub number : ℕ
  pub back : Member edges (x, c, r, number)
  pub at : node_place_in nodes number ≡ place

-- each node without false has a step for each edge from its place, and with each node without false from which a step leads to its entry
-- node a back for each return edge
pub record ClosesUnwinding (m : Automaton) (nodes : List OutlineNode) (s : Automaton) : Type 0 where
  pub insides : (n : ℕ) → n < length nodes → IsOpen (node_at nodes n) → (a : Letter) (e : ℕ) → Member m.insides (node_place_in nodes n, a, e) → HasStep s.insides nodes n a e
  pub calls : (n : ℕ) → n < length nodes → IsOpen (node_at nodes n) → (a : Letter) (e : ℕ) → Member m.calls (node_place_in nodes n, a, e) → HasStep s.calls nodes n a e
  pub backs : (x c : ℕ) → x < length nodes → c < length nodes → IsOpen (node_at nodes x) → IsOpen (node_at nodes c) → (a : Letter) → Member s.calls (c, a, entry_of nodes x) →
      (r : Letter) (e : ℕ) → Member m.backs (node_place_in nodes x, node_place_in nodes c, r, e) → r.call ≡ a.id → HasBack s.backs nodes x c r e

-- ---- nodes are reached

-- A word leads to the entry node, whatever calls are then open, and a word within the procedure from there to the node.
pub record IsReached (t : Automaton) (entry n : ℕ) : Type 0 where
  pub prefix : List Letter
  pub callers : List ℕ
  pub enters : Moves t [] 0 prefix callers entry
  pub matched : List Letter
  pub within : Moves t [] entry matched [] n

-- the edges of the first are edges of the second
pub record IsPart (t s : Automaton) : Type 0 where
  pub insides : (n : ℕ) (a : Letter) (k : ℕ) → Member t.insides (n, a, k) → Member s.insides (n, a, k)
  pub calls : (n : ℕ) (a : Letter) (k : ℕ) → Member t.calls (n, a, k) → Member s.calls (n, a, k)
  pub backs : (x c : ℕ) (r : Letter) (k : ℕ) → Member t.backs (x, c, r, k) → Member s.backs (x, c, r, k)

-- ---- nodes claim all that follows

-- the node has false, or the predicate is true or one of the node's
abbrev pub Claims : OutlineNode → ℕ → Type 0
Claims x k = Member x.preds 1 ⊎ IsOf k x

-- Where the states of an automaton have these numbers as predicates: its start is true, its final states are false, and over each step of
-- the tree, from a node without false, the end claims the end of each edge whose source the node has.
pub record Spreads (b t : Automaton) (nodes : List OutlineNode) (number : ℕ → ℕ) : Type 0 where
  pub start : number b.start ≡ 0
  pub finals : (q : ℕ) → Member b.finals q → number q ≡ 1
  pub insides : (n : ℕ) (a : Letter) (k : ℕ) → Member t.insides (n, a, k) → IsOpen (node_at nodes n) ×
      ((q e : ℕ) → Member b.insides (q, a, e) → IsOf (number q) (node_at nodes n) → Claims (node_at nodes k) (number e))
  pub calls : (n : ℕ) (a : Letter) (k : ℕ) → Member t.calls (n, a, k) → IsOpen (node_at nodes n) ×
      ((q e : ℕ) → Member b.calls (q, a, e) → IsOf (number q) (node_at nodes n) → Claims (node_at nodes k) (number e))
  pub backs : (x c : ℕ) (r : Letter) (k : ℕ) → Member t.backs (x, c, r, k) → IsOpen (node_at nodes x) × IsOpen (node_at nodes c) ×
      ((q p e : ℕ) → Member b.backs (q, p, r, e) → IsOf (number q) (node_at nodes x) → IsOf (number p) (node_at nodes c) → Claims (node_at nodes k) (number e))
