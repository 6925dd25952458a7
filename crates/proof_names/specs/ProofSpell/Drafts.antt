-- What an annotation is to say, by numbers, and when lines can say it: each number is that of something, in the scope where it may stand.
use Rattle.std.specs.Prelude.{◌≡◌, ℕ, ◌+◌, ◌<◌, ◌≤◌, IsTrue, List, [], ◌∷◌, map, length, Option, Some, slice_get}
use Rattle.std.specs.List.{AllByRecursion}
use Rattle.std.specs.Option.{option_map}
use Rattle.math_facts.specs.Fits.{Fits}
use Rattle.letter_acts.specs.Acts.{frame_of}
use Rattle.letter_acts.specs.Invariant.{Graph, alphabet_of, IsPlaceOf}
use Rattle.farkas_check.specs.Nodes.{PlainNode, leaf, cut, cases}
use Rattle.triple_rows.specs.Predicates.{IsTruth, IsOver, formula_of}
use Rattle.triple_rows.specs.declared.triples.Scoped.{Scoped}
use Rattle.triple_rows.specs.declared.triples.Triple.{Triple}
use Rattle.triple_rows.specs.Triples.{Agrees, IsRefuted}
use Rattle.proof_names.specs.declared.outlines.Listed.{Listed}
use Rattle.proof_names.specs.declared.outlines.NamedStep.{NamedStep}
use Rattle.proof_names.specs.Columns.{is_some_entry}
use Rattle.proof_names.specs.Naming.{IsPredOf, MayBegin, IsInScope, triple_at, letter_in, width}
use Rattle.proof_names.specs.declared.outlines.NamedNode.{NamedNode}
use Rattle.proof_names.specs.Outlines.{OutlineNode, node}
use Rattle.proof_names.specs.declared.proof_spell.drafts.Shown.{Shown}

-- a triple by its numbers, and what refutes its system
pub record PlainShown : Type 0 where
  pub listed : Listed
  pub proof : List PlainNode

-- what an annotation is to say: predicates, which have the numbers from 2 on, triples, nodes, and steps with backs
pub record Draft : Type 0 where
  pub preds : List Scoped
  pub triples : List PlainShown
  pub nodes : List OutlineNode
  pub steps : List NamedStep

abbrev pub plain : Shown → PlainShown
plain t = record { listed = t.listed; proof = t.proof.now }

-- the draft of these lists
abbrev pub draft : List Scoped → List Shown → List NamedNode → List NamedStep → Draft
draft preds triples nodes steps = record { preds = preds; triples = map plain triples; nodes = map node nodes; steps = steps }

-- ---- predicates

-- A line can name the predicate: it is no truth value, and is over the columns of a procedure that has a body.
pub record MayBeNamed (g : Graph) (s : Scoped) : Type 0 where
  pub body : IsTrue (is_some_entry (slice_get g.entries s.proc))
  pub over : IsOver (length (frame_of (alphabet_of g) s.proc)) (formula_of s.pred)
  pub no_truth : IsTruth (formula_of s.pred) → ⊥

-- ---- triples

-- the multipliers of a leaf fit, and a cut is at one of so many columns
abbrev pub IsWithin : ℕ → PlainNode → Type 0
IsWithin columns (leaf parts) = AllByRecursion (λ p. Fits p.1) parts
IsWithin columns (cut c k) = c < columns
IsWithin columns (cases n) = Unit {0}

-- A line can show the triple: its numbers are those of a triple whose scopes agree, the nodes refute its system, all of whose numbers
-- fit, its multipliers fit too, and each cut is at a column of that system.
pub record MayBeShown (g : Graph) (preds : List Scoped) (t : PlainShown) : Type 0 where
  pub triple : Triple
  pub is : triple_at g.acts (slice_get preds) t.listed ≡ Some triple
  pub agrees : Agrees (alphabet_of g) triple
  pub refuted : IsRefuted (alphabet_of g) triple t.proof
  pub within : AllByRecursion (IsWithin (width (alphabet_of g) (slice_get g.acts (letter_in t.listed)))) t.proof

-- ---- nodes

-- the numbers ascend strictly, from this one on
abbrev pub AscendFrom : ℕ → List ℕ → Type 0
AscendFrom n [] = Unit {0}
AscendFrom n (k ∷ ks) = (n ≤ k) × AscendFrom (k + 1) ks

-- the number is that of an entry node, at a place of the procedure
pub record IsEntryOf (g : Graph) (p : ℕ) (nodes : List OutlineNode) (n : ℕ) : Type 0 where
  pub node : OutlineNode
  pub stands : slice_get nodes n ≡ Some node
  pub itself : node.entry ≡ n
  pub belongs : IsPlaceOf g.place_procs p node.place

-- Node n may stand among the nodes: its place exists, its predicates ascend, true is none of them, and they are of the procedure of the
-- place, its entry node is one, of the same procedure, and if it is an entry node itself, its place is 0 or an entry place.
pub record MayStand (g : Graph) (preds : List Scoped) (nodes : List OutlineNode) (n : ℕ) (x : OutlineNode) : Type 0 where
  pub proc : ℕ
  pub exists : IsPlaceOf g.place_procs proc x.place
  pub ascend : AscendFrom 1 x.preds
  pub scoped : AllByRecursion (IsPredOf (slice_get preds) proc) x.preds
  pub entry : IsEntryOf g proc nodes x.entry
  pub begins : x.entry ≡ n → MayBegin g proc x.place

-- ---- all

-- the place of the node with this number
abbrev pub node_place : List OutlineNode → ℕ → Option ℕ
node_place nodes n = option_map (λ x. x.place) (slice_get nodes n)

-- lines can say all of it
pub record MayBeSpelled (g : Graph) (d : Draft) : Type 0 where
  pub preds : AllByRecursion (MayBeNamed g) d.preds
  pub triples : AllByRecursion (MayBeShown g d.preds) d.triples
  pub nodes : (n : ℕ) (x : OutlineNode) → slice_get d.nodes n ≡ Some x → MayStand g d.preds d.nodes n x
  pub steps : AllByRecursion (IsInScope g (node_place d.nodes)) d.steps
