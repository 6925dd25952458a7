-- What holds of the traces that whole points tell.
use Rattle.std.specs.Prelude.{◌≡◌, ℕ, ℤ, List, ◌∷◌, map}
use Rattle.std.specs.List.{AllByRecursion}
use Rattle.lin_rows.specs.Rows.{Holds}
use Rattle.nwa_base.specs.declared.letters.Letter.{Letter}
use Rattle.nwa_base.specs.Members.{Member}
use Rattle.nwa_base.specs.Automata.{IsAutomaton}
use Rattle.nwa_base.specs.Runs.{IsAcceptingRun}
use Rattle.letter_acts.specs.declared.sites.Site.{Site}
use Rattle.letter_acts.specs.Invariant.{Graph, IsGraph}
use Rattle.path_rows.specs.Paths.{path_of}
use Rattle.path_rows.specs.Solutions.{read}
use Rattle.lowered_graph.specs.LoweredChoices.Traces.{IsTrace}
use Rattle.trace_replay.specs.PathTraces.Solved.{first_position, next_positions, EndsIn}

-- A whole point that meets the rows of a word tells, along each accepting run, a trace that ends where the run ends: at the failing of an assertion.
abbrev pub SolutionsAreTraces : Type 0
SolutionsAreTraces = (g : Graph) (w : List Letter) (point : ℕ → ℤ) (states : List ℕ) (s : Site) → IsGraph g → IsAutomaton g.automaton → IsAcceptingRun g.automaton w states →
    AllByRecursion (Holds point) (path_of g w).rows → Member g.sites s → EndsIn s.place states → IsTrace g s.id.number w (first_position point g) (next_positions point g w states)

-- The values of its positions are those that the point has at the versions of the frame there.
abbrev pub PositionsAreRead : Type 0
PositionsAreRead = (g : Graph) (w : List Letter) (point : ℕ → ℤ) (states : List ℕ) → IsAcceptingRun g.automaton w states →
    map (λ x. x.values) (first_position point g ∷ next_positions point g w states) ≡ map (read point) (path_of g w).states
