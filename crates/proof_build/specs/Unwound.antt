-- When an unwinding of a graph, by automata that accept all its error words, is one that an annotation may say.
use Rattle.std.specs.Prelude.{◌≡◌, ℕ, ◌<◌, List, length, Some, slice_get}
use Rattle.std.specs.List.{AllByRecursion}
use Rattle.nwa_base.specs.declared.letters.Letter.{Letter}
use Rattle.nwa_base.specs.Members.{Member}
use Rattle.nwa_base.specs.Automata.{Automaton}
use Rattle.nwa_base.specs.Acceptance.{Accepts}
use Rattle.letter_acts.specs.Invariant.{Graph}
use Rattle.proof_names.specs.ProofSpell.Drafts.{MayBeNamed, MayBeShown, AscendFrom}
use Rattle.proof_build.specs.ProofUnwind.Unwindings.{node_at, entry_of, bare, IsAlong, ClosesUnwinding, IsReached, IsPart, Spreads}
use Rattle.proof_build.specs.Unwindings.{Unwinding, IsShown}

-- each word that the automaton accepts is accepted by one of these
abbrev pub AreCovering : Automaton → List Automaton → Type 0
AreCovering m bs = (w : List Letter) → Accepts m w → (b : Automaton) × Member bs b × Accepts b w

-- Its nodes begin with that of place 0, its steps follow edges and show the predicates of their ends, all steps that are due are there, and
-- each node is reached by steps over which the predicates of each automaton spread.
pub record IsUnwound (g : Graph) (bs : List Automaton) (u : Unwinding) : Type 0 where
  pub start : slice_get u.nodes 0 ≡ Some bare
  pub along : IsAlong g.automaton u.nodes u.steps
  pub closed : ClosesUnwinding g.automaton u.nodes u.steps
  pub shown : IsShown u.triples u.nodes u.steps
  pub tree : Automaton
  pub part : IsPart tree u.steps
  pub reached : (n : ℕ) → n < length u.nodes → IsReached tree (entry_of u.nodes n) n
  pub spread : (b : Automaton) → Member bs b → (number : ℕ → ℕ) × Spreads b tree u.nodes number
  pub preds : AllByRecursion (MayBeNamed g) u.preds
  pub triples : AllByRecursion (MayBeShown g u.preds) u.triples
  pub ascend : (n : ℕ) → n < length u.nodes → AscendFrom 1 (node_at u.nodes n).preds
