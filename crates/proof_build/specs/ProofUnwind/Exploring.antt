-- Nodes and steps while they are searched: what they keep, and what is there once a node is opened.
use Rattle.std.specs.Prelude.{◌≡◌, ◌⊎◌, ℕ, ◌+◌, ◌<◌, List, [], ◌∷◌, ◌++◌, length, Some, slice_get}
use Rattle.nwa_base.specs.declared.letters.Letter.{Letter}
use Rattle.nwa_base.specs.Members.{Member}
use Rattle.nwa_base.specs.Automata.{Automaton}
use Rattle.proof_names.specs.Outlines.{OutlineNode}
use Rattle.proof_names.specs.ProofSpell.Drafts.{AscendFrom}
use Rattle.proof_check.specs.Steps.{IsOf, IsOpen}
use Rattle.proof_build.specs.ProofUnwind.Unwindings.{node_at, node_place_in, entry_of, IsAlong, HasStep, HasBack, IsReached, IsPart, Spreads, bare}

-- ---- automata of predicates

-- Its states are predicates by number: the start is true, and the final states are false.
pub record IsOverPreds (b : Automaton) : Type 0 where
  pub start : b.start ≡ 0
  pub finals : (q : ℕ) → Member b.finals q → q ≡ 1

-- the predicate follows over the letter from a node, that is, an edge from true or from one of the node's leads to it
abbrev pub InsideFollows : Automaton → Letter → OutlineNode → ℕ → Type 0
InsideFollows b a x r = (q : ℕ) × Member b.insides (q, a, r) × IsOf q x

abbrev pub CallFollows : Automaton → Letter → OutlineNode → ℕ → Type 0
CallFollows b a x r = (q : ℕ) × Member b.calls (q, a, r) × IsOf q x

-- from an exit and the node before the call
abbrev pub BackFollows : Automaton → Letter → OutlineNode → OutlineNode → ℕ → Type 0
BackFollows b a x c r = (q : ℕ) × (p : ℕ) × Member b.backs (q, p, a, r) × IsOf q x × IsOf p c

-- the predicates are some that follow, in order, and either false or all that follow but true
pub record AreFollowing (Follows : ℕ → Type 0) (preds : List ℕ) : Type 0 where
  pub ascend : AscendFrom 1 preds
  pub sound : (r : ℕ) → Member preds r → Follows r
  pub complete : (r : ℕ) → Follows r → Member preds 1 ⊎ (r ≡ 0) ⊎ Member preds r

-- of some numbers those but 0, in order, or 1 alone
pub record IsChosen (numbers preds : List ℕ) : Type 0 where
  pub ascend : AscendFrom 1 preds
  pub sound : (r : ℕ) → Member preds r → Member numbers r
  pub complete : (r : ℕ) → Member numbers r → Member preds 1 ⊎ (r ≡ 0) ⊎ Member preds r

-- ---- what is kept

-- the predicates of the end of each step follow
pub record AreShown (b : Automaton) (nodes : List OutlineNode) (s : Automaton) : Type 0 where
  pub insides : (n : ℕ) (a : Letter) (k : ℕ) → Member s.insides (n, a, k) → (r : ℕ) → Member (node_at nodes k).preds r → InsideFollows b a (node_at nodes n) r
  pub calls : (n : ℕ) (a : Letter) (k : ℕ) → Member s.calls (n, a, k) → (r : ℕ) → Member (node_at nodes k).preds r → CallFollows b a (node_at nodes n) r
  pub backs : (x c : ℕ) (a : Letter) (k : ℕ) → Member s.backs (x, c, a, k) → (r : ℕ) → Member (node_at nodes k).preds r → BackFollows b a (node_at nodes x) (node_at nodes c) r

-- The nodes begin with that of place 0, the steps are between them and follow edges, the predicates of their ends follow, and each node is
-- reached by some of them, all calls among them, over which predicates spread.
pub record IsExploring (m b : Automaton) (nodes : List OutlineNode) (s : Automaton) : Type 0 where
  pub first : slice_get nodes 0 ≡ Some bare
  pub states : s.states ≡ length nodes
  pub along : IsAlong m nodes s
  pub shown : AreShown b nodes s
  pub ascend : (n : ℕ) → n < length nodes → AscendFrom 1 (node_at nodes n).preds
  pub tree : Automaton
  pub part : IsPart tree s
  pub all_calls : (n : ℕ) (a : Letter) (k : ℕ) → Member s.calls (n, a, k) → Member tree.calls (n, a, k)
  pub reached : (n : ℕ) → n < length nodes → IsReached tree (entry_of nodes n) n
  pub spread : Spreads b tree nodes (λ q. q)

-- one node, no steps, and predicates with true as the start and false at the ends
pub record IsStarting (b s : Automaton) : Type 0 where
  pub over : IsOverPreds b
  pub states : s.states ≡ 1
  pub insides : s.insides ≡ []
  pub calls : s.calls ≡ []
  pub backs : s.backs ≡ []

-- ---- one more node, one more step

abbrev pub with_inside : Automaton → (ℕ × Letter × ℕ) → Automaton
with_inside s e = record s { insides = s.insides ++ e ∷ [] }

abbrev pub with_call : Automaton → (ℕ × Letter × ℕ) → Automaton
with_call s e = record s { calls = s.calls ++ e ∷ [] }

abbrev pub with_back : Automaton → (ℕ × ℕ × Letter × ℕ) → Automaton
with_back s e = record s { backs = s.backs ++ e ∷ [] }

abbrev pub with_state : Automaton → Automaton
with_state s = record s { states = s.states + 1 }

-- nodes and steps are added
pub record Grows (nodes : List OutlineNode) (s : Automaton) (new : List OutlineNode) (t : Automaton) : Type 0 where
  pub rest : List OutlineNode
  pub nodes_are : new ≡ nodes ++ rest
  pub part : IsPart s t

-- ---- opened nodes have their steps

-- those below r, and the backs that join them
pub record AreOpened (m : Automaton) (nodes : List OutlineNode) (s : Automaton) (r : ℕ) : Type 0 where
  pub insides : (n : ℕ) → n < r → IsOpen (node_at nodes n) → (a : Letter) (e : ℕ) → Member m.insides (node_place_in nodes n, a, e) → HasStep s.insides nodes n a e
  pub calls : (n : ℕ) → n < r → IsOpen (node_at nodes n) → (a : Letter) (e : ℕ) → Member m.calls (node_place_in nodes n, a, e) → HasStep s.calls nodes n a e
  pub backs : (x c : ℕ) → x < r → c < r → IsOpen (node_at nodes x) → IsOpen (node_at nodes c) → (a : Letter) → Member s.calls (c, a, entry_of nodes x) →
      (t : Letter) (e : ℕ) → Member m.backs (node_place_in nodes x, node_place_in nodes c, t, e) → t.call ≡ a.id → HasBack s.backs nodes x c t e
  -- and calls lead from them alone
  pub callers : (c : ℕ) (a : Letter) (k : ℕ) → Member s.calls (c, a, k) → c < r

-- ---- the search goes on

-- nodes and the steps between them
pub record Stage : Type 0 where
  pub nodes : List OutlineNode
  pub steps : Automaton

-- one more node, which the steps have as a state
abbrev pub with_node : Stage → OutlineNode → Stage
with_node s x = record { nodes = s.nodes ++ x ∷ []; steps = with_state s.steps }

-- one more step or back
abbrev pub linked_inside : Stage → (ℕ × Letter × ℕ) → Stage
linked_inside s e = record { nodes = s.nodes; steps = with_inside s.steps e }

abbrev pub linked_call : Stage → (ℕ × Letter × ℕ) → Stage
linked_call s e = record { nodes = s.nodes; steps = with_call s.steps e }

abbrev pub linked_back : Stage → (ℕ × ℕ × Letter × ℕ) → Stage
linked_back s e = record { nodes = s.nodes; steps = with_back s.steps e }

abbrev pub Explores : Automaton → Automaton → Stage → Type 0
Explores m b s = IsExploring m b s.nodes s.steps

-- what is kept is kept still, and nodes and steps were added, but no calls
pub record GoesOn (m b : Automaton) (s t : Stage) : Type 0 where
  pub exploring : Explores m b t
  pub grows : Grows s.nodes s.steps t.nodes t.steps
  pub calls : t.steps.calls ≡ s.steps.calls

-- likewise, with calls from node n
pub record GoesOnFrom (m b : Automaton) (n : ℕ) (s t : Stage) : Type 0 where
  pub exploring : Explores m b t
  pub grows : Grows s.nodes s.steps t.nodes t.steps
  pub calls : (c : ℕ) (a : Letter) (k : ℕ) → Member t.steps.calls (c, a, k) → Member s.steps.calls (c, a, k) ⊎ (c ≡ n)

-- and the step by the letter to the place is there
pub record Stepped (m b : Automaton) (n : ℕ) (a : Letter) (e : ℕ) (s t : Stage) : Type 0 where
  pub goes : GoesOn m b s t
  pub step : HasStep t.steps.insides t.nodes n a e

pub record Called (m b : Automaton) (n : ℕ) (a : Letter) (e : ℕ) (s t : Stage) : Type 0 where
  pub goes : GoesOnFrom m b n s t
  pub step : HasStep t.steps.calls t.nodes n a e

pub record Returned (m b : Automaton) (x c : ℕ) (r : Letter) (e : ℕ) (s t : Stage) : Type 0 where
  pub goes : GoesOn m b s t
  pub back : HasBack t.steps.backs t.nodes x c r e

-- ---- all that is due from a node

abbrev pub HasInsides : Automaton → Stage → ℕ → Type 0
HasInsides m s n = (a : Letter) (e : ℕ) → Member m.insides (node_place_in s.nodes n, a, e) → HasStep s.steps.insides s.nodes n a e

abbrev pub HasCalls : Automaton → Stage → ℕ → Type 0
HasCalls m s n = (a : Letter) (e : ℕ) → Member m.calls (node_place_in s.nodes n, a, e) → HasStep s.steps.calls s.nodes n a e

-- the exit x and the node c before the call by the letter have a back for each return edge
abbrev pub HasBacks : Automaton → Stage → ℕ → ℕ → Letter → Type 0
HasBacks m s x c a = (t : Letter) (e : ℕ) → Member m.backs (node_place_in s.nodes x, node_place_in s.nodes c, t, e) → t.call ≡ a.id → HasBack s.steps.backs s.nodes x c t e

-- the exit has its backs with each node from which a call leads to its entry node
abbrev pub IsReturned : Automaton → Stage → Stage → ℕ → Type 0
IsReturned m s t x = (c : ℕ) (a : Letter) → Member s.steps.calls (c, a, entry_of s.nodes x) → HasBacks m t x c a

-- the node before calls has its backs with each of these exits of the entry nodes to which the calls lead
abbrev pub AreReturned : Automaton → (ℕ → List ℕ) → Stage → Stage → ℕ → Type 0
AreReturned m exits s t c = (a : Letter) (k : ℕ) → Member s.steps.calls (c, a, k) → (x : ℕ) → Member (exits k) x → HasBacks m t x c a

-- ---- exits of entry nodes

-- the node is there, under the entry node, and without false
pub record IsExit (nodes : List OutlineNode) (entry x : ℕ) : Type 0 where
  pub there : x < length nodes
  pub under : entry_of nodes x ≡ entry
  pub opens : IsOpen (node_at nodes x)

-- of each entry node these are exits, and all below r from which return edges lead are among them
pub record AreExits (m : Automaton) (nodes : List OutlineNode) (r : ℕ) (exits : ℕ → List ℕ) : Type 0 where
  pub sound : (k x : ℕ) → Member (exits k) x → IsExit nodes k x
  pub complete : (x : ℕ) → x < r → IsOpen (node_at nodes x) → (c : ℕ) (t : Letter) (e : ℕ) → Member m.backs (node_place_in nodes x, c, t, e) → Member (exits (entry_of nodes x)) x
