-- Words without coarse letters among those that an automaton accepts.
use Rattle.std.specs.Prelude.{ℕ, Bool, not, List, filter}
use Rattle.nwa_base.specs.declared.letters.Letter.{Letter}
use Rattle.nwa_base.specs.Automata.{Automaton}
use Rattle.nwa_base.specs.Acceptance.{Accepts}
use Rattle.letter_acts.specs.Invariant.{Graph, mark_at}
use Rattle.lowered_graph.specs.Laws.{IsExactWord}
use Rattle.nwa_emptiness.specs.declared.finding.Found.{Found}
use Rattle.nwa_emptiness.specs.declared.finding.Found.TheVariants as founds

-- the edges by letters that are not coarse
abbrev pub exact_edges : Graph → List (ℕ × Letter × ℕ) → List (ℕ × Letter × ℕ)
exact_edges g edges = filter (λ e. not (mark_at g e.1.id)) edges

abbrev pub exact_backs : Graph → List (ℕ × ℕ × Letter × ℕ) → List (ℕ × ℕ × Letter × ℕ)
exact_backs g edges = filter (λ e. not (mark_at g e.2.id)) edges

-- the automaton without the edges by coarse letters
abbrev pub exact_part : Graph → Automaton → Automaton
exact_part g m = record m { insides = exact_edges g m.insides; calls = exact_edges g m.calls; backs = exact_backs g m.backs }

-- an accepted word without coarse letters, and where there is none, each accepted word has one
abbrev pub IsExactFound : Graph → Automaton → Found → Type 0
IsExactFound g m (founds.Word w) = Accepts m w × IsExactWord g w
IsExactFound g m founds.Empty = (w : List Letter) → Accepts m w → IsExactWord g w → ⊥
