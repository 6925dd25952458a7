-- Which steps between the nodes of an annotation are sound, and which a node has to have.
use Rattle.std.specs.Prelude.{◌≡◌, ◌⊎◌, ℕ, List, Option, None, Some, slice_get}
use Rattle.nwa_base.specs.declared.letters.Letter.{Letter}
use Rattle.nwa_base.specs.Members.{Member}
use Rattle.letter_acts.specs.Acts.{PlainAct, inside_act, call_act, back_act, letter_of}
use Rattle.letter_acts.specs.Invariant.{Graph}
use Rattle.proof_names.specs.declared.outlines.Listed.{Listed}
use Rattle.proof_names.specs.declared.outlines.Listed.TheVariants.{Inside, Call, Back}
use Rattle.proof_names.specs.declared.outlines.NamedTriple.{NamedTriple}
use Rattle.proof_names.specs.declared.outlines.NamedStep.{NamedStep}
use Rattle.proof_names.specs.declared.outlines.NamedStep.TheVariants as steps
use Rattle.proof_names.specs.Outlines.{OutlineNode, Sketch}

-- the node with this number
abbrev pub IsNode : Sketch → ℕ → OutlineNode → Type 0
IsNode s n x = slice_get s.nodes n ≡ Some x

-- the predicate is true, or one of the node's
abbrev pub IsOf : ℕ → OutlineNode → Type 0
IsOf k x = (k ≡ 0) ⊎ Member x.preds k

-- the node lacks the predicate false
abbrev pub IsOpen : OutlineNode → Type 0
IsOpen x = Member x.preds 1 → ⊥

-- a triple with these numbers is listed
pub record Lists (triples : List NamedTriple) (numbers : Listed) : Type 0 where
  pub triple : NamedTriple
  pub stands : Member triples triple
  pub has : triple.listed ≡ numbers

-- ---- sound steps

-- A step by an inside letter is sound: the edge exists, the entry node stays, and each predicate of the end is the target of a
-- listed triple with that letter whose source is true or in the node before.
pub record InsideIsSound (g : Graph) (s : Sketch) (a : Letter) (before to : OutlineNode) : Type 0 where
  pub edge : Member g.automaton.insides (before.place, a, to.place)
  pub entry : to.entry ≡ before.entry
  pub shown : (r : ℕ) → Member to.preds r → (q : ℕ) × Lists s.triples (Inside q a.id r) × IsOf q before

-- A step by a call letter to node m is sound: the edge exists, the end is an entry node, and each of its predicates is the
-- target of a listed triple likewise.
pub record CallIsSound (g : Graph) (s : Sketch) (a : Letter) (before : OutlineNode) (m : ℕ) (to : OutlineNode) : Type 0 where
  pub edge : Member g.automaton.calls (before.place, a, to.place)
  pub entry : to.entry ≡ m
  pub shown : (r : ℕ) → Member to.preds r → (q : ℕ) × Lists s.triples (Call q a.id r) × IsOf q before

-- A back from an exit, with node c before the call, by a return letter is sound: the edge exists, a step leads from c by the
-- call letter of the return to the exit's entry node, the end has the entry node of the node before the call, and each of its
-- predicates is the target of a listed triple whose sources are true or in the exit and in the node before the call.
pub record BackIsSound (g : Graph) (s : Sketch) (a : Letter) (exit : OutlineNode) (c : ℕ) (before to : OutlineNode) : Type 0 where
  pub edge : Member g.automaton.backs (exit.place, before.place, a, to.place)
  pub joined : Member s.steps (steps.Step c a.call exit.entry)
  pub entry : to.entry ≡ before.entry
  pub shown : (r : ℕ) → Member to.preds r → (x : ℕ) × (b : ℕ) × Lists s.triples (Back x b a.id r) × IsOf x exit × IsOf b before

-- a step to node m is sound, by its letter's act
abbrev pub StepIsSound : Graph → Sketch → ℕ → OutlineNode → ℕ → OutlineNode → Option PlainAct → Type 0
StepIsSound g s l before m to None = ⊥
StepIsSound g s l before m to (Some (inside_act p written helpers rows)) = InsideIsSound g s (letter_of l (inside_act p written helpers rows)) before to
StepIsSound g s l before m to (Some (call_act caller callee helpers rows)) = CallIsSound g s (letter_of l (call_act caller callee helpers rows)) before m to
StepIsSound g s l before m to (Some (back_act c targets)) = ⊥

-- a back is sound, by its letter's act
abbrev pub ReturnIsSound : Graph → Sketch → ℕ → OutlineNode → ℕ → OutlineNode → OutlineNode → Option PlainAct → Type 0
ReturnIsSound g s l exit c before to None = ⊥
ReturnIsSound g s l exit c before to (Some (inside_act p written helpers rows)) = ⊥
ReturnIsSound g s l exit c before to (Some (call_act caller callee helpers rows)) = ⊥
ReturnIsSound g s l exit c before to (Some (back_act call targets)) = BackIsSound g s (letter_of l (back_act call targets)) exit c before to

-- the step or back is sound
abbrev pub IsSound : Graph → Sketch → NamedStep → Type 0
IsSound g s (steps.Step n l m) = (before to : OutlineNode) → IsNode s n before → IsNode s m to → StepIsSound g s l before m to (slice_get g.acts l)
IsSound g s (steps.Back x c l m) =
    (exit before to : OutlineNode) → IsNode s x exit → IsNode s c before → IsNode s m to → ReturnIsSound g s l exit c before to (slice_get g.acts l)

-- ---- steps that there have to be

-- a step leads from node n by the letter to a node at the place
pub record HasStepTo (s : Sketch) (n l place : ℕ) : Type 0 where
  pub number : ℕ
  pub end : OutlineNode
  pub stands : IsNode s number end
  pub at : end.place ≡ place
  pub step : Member s.steps (steps.Step n l number)

-- a back leads from the exit x, with the node c before the call, by the letter to a node at the place
pub record BacksTo (s : Sketch) (x c l place : ℕ) : Type 0 where
  pub number : ℕ
  pub end : OutlineNode
  pub stands : IsNode s number end
  pub at : end.place ≡ place
  pub back : Member s.steps (steps.Back x c l number)

-- for each edge by an inside or call letter from the place of node n, a step leads to a node at the end of the edge
pub record HasSteps (g : Graph) (s : Sketch) (n : ℕ) (x : OutlineNode) : Type 0 where
  pub insides : (a : Letter) (e : ℕ) → Member g.automaton.insides (x.place, a, e) → HasStepTo s n a.id e
  pub calls : (a : Letter) (e : ℕ) → Member g.automaton.calls (x.place, a, e) → HasStepTo s n a.id e

-- for each return edge from the place of node n, and each node without false at the place before the call from which a step
-- leads by the call letter to the entry node of n, a back leads to a node at the end of the edge
abbrev pub HasBacks : Graph → Sketch → ℕ → OutlineNode → Type 0
HasBacks g s n x =
    (c : ℕ) (before : OutlineNode) → IsNode s c before → IsOpen before → (r : Letter) (e : ℕ) → Member g.automaton.backs (x.place, before.place, r, e) →
    Member s.steps (steps.Step c r.call x.entry) → BacksTo s n c r.id e
