-- Unwindings of a graph, with what is named and shown, and what an annotation says of them.
use Rattle.std.specs.Prelude.{◌≡◌, ℕ, List, ◌++◌, map}
use Rattle.nwa_base.specs.declared.letters.Letter.{Letter}
use Rattle.nwa_base.specs.Members.{Member}
use Rattle.nwa_base.specs.Automata.{Automaton}
use Rattle.triple_rows.specs.declared.triples.Scoped.{Scoped}
use Rattle.proof_names.specs.declared.outlines.Listed.{Listed}
use Rattle.proof_names.specs.declared.outlines.Listed.TheVariants.{Inside, Call, Back}
use Rattle.proof_names.specs.declared.outlines.NamedStep.{NamedStep}
use Rattle.proof_names.specs.declared.outlines.NamedStep.TheVariants as steps
use Rattle.proof_names.specs.Outlines.{OutlineNode}
use Rattle.proof_names.specs.ProofSpell.Drafts.{PlainShown, Draft}
use Rattle.proof_check.specs.Steps.{IsOf}
use Rattle.proof_build.specs.ProofUnwind.Unwindings.{node_at}

-- Predicates, triples over them, nodes, and an automaton whose states are the numbers of the nodes: its edges inside and its calls are
-- the steps, its returns the backs.
pub record Unwinding : Type 0 where
  pub preds : List Scoped
  pub triples : List PlainShown
  pub nodes : List OutlineNode
  pub steps : Automaton

-- ---- what an annotation says of it

abbrev pub step_of : (ℕ × Letter × ℕ) → NamedStep
step_of e = steps.Step e.0 e.1.id e.2

abbrev pub back_of : (ℕ × ℕ × Letter × ℕ) → NamedStep
back_of e = steps.Back e.0 e.1 e.2.id e.3

abbrev pub steps_of : Automaton → List NamedStep
steps_of s = map step_of s.insides ++ (map step_of s.calls ++ map back_of s.backs)

abbrev pub draft_of : Unwinding → Draft
draft_of u = record { preds = u.preds; triples = u.triples; nodes = u.nodes; steps = steps_of u.steps }

-- ---- predicates of the ends are shown

-- a triple with these numbers is listed
abbrev pub HasTriple : List PlainShown → Listed → Type 0
HasTriple triples numbers = (t : PlainShown) × Member triples t × (t.listed ≡ numbers)

-- each predicate of the end of a step is the target of a listed triple of its letter whose sources are true or in the nodes before
pub record IsShown (triples : List PlainShown) (nodes : List OutlineNode) (s : Automaton) : Type 0 where
  pub insides : (n : ℕ) (a : Letter) (k : ℕ) → Member s.insides (n, a, k) → (r : ℕ) → Member (node_at nodes k).preds r →
      (q : ℕ) × HasTriple triples (Inside q a.id r) × IsOf q (node_at nodes n)
  pub calls : (n : ℕ) (a : Letter) (k : ℕ) → Member s.calls (n, a, k) → (r : ℕ) → Member (node_at nodes k).preds r →
      (q : ℕ) × HasTriple triples (Call q a.id r) × IsOf q (node_at nodes n)
  pub backs : (x c : ℕ) (a : Letter) (k : ℕ) → Member s.backs (x, c, a, k) → (r : ℕ) → Member (node_at nodes k).preds r →
      (q : ℕ) × (b : ℕ) × HasTriple triples (Back q b a.id r) × IsOf q (node_at nodes x) × IsOf b (node_at nodes c)
