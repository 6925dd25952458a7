-- What holds of the graph of every typed program.
use Rattle.std.specs.Prelude.{◌≡◌, ℕ, false, IsTrue, List, ◌∷◌, length, Some, slice_get}
use Rattle.std.specs.List.{AllByRecursion}
use Rattle.typed_tree.specs.TypedTree.{TypedProgram}
use Rattle.typed_tree.specs.TypingRules.ValidProgram.{is_valid}
use Rattle.nwa_base.specs.declared.letters.Letter.{Letter}
use Rattle.nwa_base.specs.Automata.{IsAutomaton}
use Rattle.nwa_base.specs.Members.{Member}
use Rattle.letter_acts.specs.declared.sites.Site.{Site}
use Rattle.letter_acts.specs.Feasible.{IsFeasible, edges}
use Rattle.letter_acts.specs.Ways.{GoesAlong}
use Rattle.letter_acts.specs.Invariant.{Graph, IsGraph, alphabet_of, mark_at}
use Rattle.boogie_run.specs.RunRules.Runs.{Fails}
use Rattle.lowered_graph.specs.LoweredSteps.Stacks.{MachineFails, MachineFailsExactly}
use Rattle.lowered_graph.specs.Lowered.{lowered}
use Rattle.lowered_graph.specs.PlainPoints.{PointsArePlain}
use Rattle.letter_acts.specs.Widths.{ActsFit}

-- Some feasible word has a run of the automaton that ends where assertion i fails.
pub record ErrorWord (g : Graph) (i : ℕ) : Type 0 where
  pub word : List Letter
  pub run : List ℕ
  pub site : Site
  pub is_site : Member g.sites site
  pub number : site.id.number ≡ i
  pub goes : GoesAlong (edges g.automaton) word (g.automaton.start ∷ run)
  pub ends : slice_get (g.automaton.start ∷ run) (length word) ≡ Some site.place
  pub feasible : IsFeasible (alphabet_of g) word

-- no letter of the word is coarse
abbrev pub IsExactWord : Graph → List Letter → Type 0
IsExactWord g word = AllByRecursion (λ a. mark_at g a.id ≡ false) word

-- Faithful: where the program has a run that fails assertion i, some feasible word ends where assertion i fails; and where some such word has no
-- coarse letter, the program has such a run.
pub record IsFaithful (t : TypedProgram) (g : Graph) : Type 0 where
  pub follows : (i : ℕ) → Fails t i → ErrorWord g i
  pub leads : (i : ℕ) → (e : ErrorWord g i) → IsExactWord g e.word → Fails t i

abbrev pub LoweringIsFaithful : Type 0
LoweringIsFaithful = (t : TypedProgram) → IsTrue (is_valid t) → IsFaithful t (lowered t)

-- Where the stack machine over points fails an assertion, some feasible word leads to where it fails; and where such a word has no coarse letter, the
-- machine fails it by exact steps.
pub record MachineJoins (t : TypedProgram) (i : ℕ) : Type 0 where
  pub follows : MachineFails t i → ErrorWord (lowered t) i
  pub leads : (e : ErrorWord (lowered t) i) → IsExactWord (lowered t) e.word → MachineFailsExactly t i

abbrev pub MachineIsJoined : Type 0
MachineIsJoined = (t : TypedProgram) → IsTrue (is_valid t) → (i : ℕ) → MachineJoins t i

-- The graph of a typed program is as the invariant of graphs asks, wherever the numbers of the columns of its acts fit.
abbrev pub LoweredIsGraph : Type 0
LoweredIsGraph = (t : TypedProgram) → IsTrue (is_valid t) → ActsFit (alphabet_of (lowered t)) → IsGraph (lowered t)

-- The edges of the graph of a typed program lead between its states, by letters of their kind, whatever the numbers of its columns.
abbrev pub LoweredIsAutomaton : Type 0
LoweredIsAutomaton = (t : TypedProgram) → IsTrue (is_valid t) → IsAutomaton (lowered t).automaton

-- Where no point reads a free product, no letter is coarse, and so no word has a coarse letter.
abbrev pub LettersAreExact : Type 0
LettersAreExact = (t : TypedProgram) → IsTrue (is_valid t) → PointsArePlain t → (n : ℕ) → mark_at (lowered t) n ≡ false

abbrev pub WordsAreExact : Type 0
WordsAreExact = (t : TypedProgram) (w : List Letter) → IsTrue (is_valid t) → PointsArePlain t → IsExactWord (lowered t) w
