-- The items of an annotation: predicates, triples, nodes and steps, numbered from 0 through all of them.
use Rattle.std.specs.Prelude.{◌≡◌, ℕ, ◌+◌, ◌<◌, length, Option, Some, IsSome, slice_get}
use Rattle.std.specs.Option.{option_and_then}
use Rattle.letter_acts.specs.Invariant.{Graph}
use Rattle.triple_rows.specs.declared.triples.Scoped.{Scoped}
use Rattle.proof_form.specs.declared.lines.StepLine.{StepLine}
use Rattle.proof_form.specs.Lines as form
use Rattle.proof_form.specs.Annotations.{Content}
use Rattle.proof_names.specs.declared.outlines.NamedTriple.{NamedTriple}
use Rattle.proof_names.specs.declared.outlines.NamedStep.{NamedStep}
use Rattle.proof_names.specs.Numbers.{short_in}
use Rattle.proof_names.specs.Pairs.{ArePaired}
use Rattle.proof_names.specs.Predicates.{pred_named}
use Rattle.proof_names.specs.Naming.{NamesTriple, NamesNode, NamesStep}
use Rattle.proof_names.specs.Outlines.{OutlineNode, Sketch}

-- the predicate that line k of the predicates names
abbrev pub pred_at : Graph → Content → ℕ → Option Scoped
pred_at g a k = option_and_then (pred_named g) (slice_get a.preds k)

-- the number of the place of node n
abbrev pub place_at : Content → ℕ → Option ℕ
place_at a n = option_and_then (λ line. short_in line.place) (slice_get a.nodes n)

-- ---- where items begin

abbrev pub first_triple : Content → ℕ
first_triple a = length a.preds

abbrev pub first_node : Content → ℕ
first_node a = first_triple a + length a.triples

abbrev pub first_step : Content → ℕ
first_step a = first_node a + length a.nodes

-- the number of all items, which is that of the end
abbrev pub item_count : Content → ℕ
item_count a = first_step a + length a.steps

-- ---- names

-- the item with this number names what exists, in the scopes where it may
pub record IsNamed (g : Graph) (a : Content) (i : ℕ) : Type 0 where
  pub preds : (line : form.Pred) → slice_get a.preds i ≡ Some line → IsSome (pred_named g line)
  pub triples : (k : ℕ) (line : form.Triple) → i ≡ first_triple a + k → slice_get a.triples k ≡ Some line →
      (t : NamedTriple) × NamesTriple g (pred_at g a) line t
  pub nodes : (n : ℕ) (line : form.Node) → i ≡ first_node a + n → slice_get a.nodes n ≡ Some line →
      (x : OutlineNode) × NamesNode g (pred_at g a) a.nodes n line x
  pub steps : (k : ℕ) (line : StepLine) → i ≡ first_step a + k → slice_get a.steps k ≡ Some line →
      (s : NamedStep) × NamesStep g (place_at a) line s

-- the first item that names something that does not exist, or that is of another scope
pub record IsFirstUnnamed (g : Graph) (a : Content) (i : ℕ) : Type 0 where
  pub before : (k : ℕ) → k < i → IsNamed g a k
  pub fails : IsNamed g a i → ⊥

-- What all lines name: each predicate exists, and each other line names what stands in its place.
pub record Names (g : Graph) (a : Content) (s : Sketch) : Type 0 where
  pub preds : (k : ℕ) (line : form.Pred) → slice_get a.preds k ≡ Some line → IsSome (pred_named g line)
  pub triples : ArePaired (λ k line t. NamesTriple g (pred_at g a) line t) a.triples s.triples
  pub nodes : ArePaired (NamesNode g (pred_at g a) a.nodes) a.nodes s.nodes
  pub steps : ArePaired (λ k line t. NamesStep g (place_at a) line t) a.steps s.steps
