-- What an end of a race has to meet, over the program, the limits and the history.
use Rattle.std.specs.Prelude.{◌≡◌, ◌≤◌, ℕ, ℤ, List, length}
use Rattle.std.specs.List.{AllByRecursion}
use Rattle.math_facts.specs.Fits.{Fits}
use Rattle.lin_rows.specs.Rows.{Holds}
use Rattle.lin_rows.specs.Points.{point_of}
use Rattle.farkas_check.specs.Nodes.{PlainNode}
use Rattle.farkas_check.specs.Trees.{Tree, prefix_of}
use Rattle.int_decide.specs.Decisions.{refuted, whole}
use Rattle.nwa_base.specs.declared.letters.Letter.{Letter}
use Rattle.nwa_base.specs.Automata.{Automaton}
use Rattle.nwa_base.specs.Acceptance.{Accepts}
use Rattle.letter_acts.specs.Feasible.{IsFeasible}
use Rattle.letter_acts.specs.Invariant.{Graph, alphabet_of}
use Rattle.typed_tree.specs.TypedTree.{TypedProgram}
use Rattle.lowered_graph.specs.Lowered.{lowered}
use Rattle.lowered_graph.specs.Laws.{IsExactWord}
use Rattle.nested_itp.specs.NestedPredicates.Stamps.{stamps_of}
use Rattle.nested_itp.specs.NestedPredicates.Positions.{positions_of}
use Rattle.nested_itp.specs.NestedPredicates.Sums.{root_of}
use Rattle.nested_itp.specs.NestedPredicates.Fitting.{SumsFit}
use Rattle.nested_itp.specs.NestedRefutations.Numbers.{steps_of, StepNumbersFit}
use Rattle.path_decide.specs.Decided.{RefutesPath, path_decision, PathFits, IsGap}
use Rattle.path_rows.specs.Paths.{path_of}
use Rattle.trace_replay.specs.Guesses.{FailsWith}
use Rattle.trace_replay.specs.ToldRuns.{ToldFails, ToldPasses, ToldStops}
use Rattle.race_core.specs.declared.ends.Cause.{Cause}
use Rattle.race_core.specs.declared.ends.Cause.TheVariants.{Rounds, Whole, Number, Product}
use Rattle.race_core.specs.declared.ends.End.{End}
use Rattle.race_core.specs.declared.ends.End.TheVariants.{Safe, Unsafe, Unknown}
use Rattle.race_core.specs.declared.events.Entry.{Entry}
use Rattle.race_core.specs.Histories.{Removed}
use Rattle.race_rounds.specs.declared.limits.Limits.{Limits}

-- ---- what is known of a word

-- The rows of the word have a whole point, and a run that takes these choices fails an assertion, after exactly so many steps and when all choices are used, which
-- fit. Where the word has no coarse letter, such a point and an accepting run over the word tell this run, and it fails the assertion at whose failing the accepting
-- run ends.
pub record FailsAfter (t : TypedProgram) (w : List Letter) (steps : ℕ) (choices : List ℤ) : Type 0 where
  pub point : List ℤ
  pub meets : AllByRecursion (Holds (point_of point)) (path_of (lowered t) w).rows
  pub assertion : ℕ
  pub fails : FailsWith t steps choices assertion
  pub exact : IsExactWord (lowered t) w → ToldFails t (point_of point) w steps choices
  pub fit : AllByRecursion Fits choices

-- Under each tree with these nodes, all numbers of the prefix predicates of the word, of the systems of their triples and of the refutations of
-- these fit.
pub record PredicatesFit (g : Graph) (w : List Letter) (nodes : List PlainNode) : Type 0 where
  pub sums : (t : Tree) → prefix_of t ≡ nodes → SumsFit (stamps_of g w).columns (positions_of g w) (root_of g w) t
  pub steps : (t : Tree) → prefix_of t ≡ nodes → AllByRecursion (StepNumbersFit g w t) (steps_of g w t)

-- A number that does not fit: one of Decide on the rows of the word; one of the prefix predicates, of the systems of their triples or of the
-- refutations of these, under Decide's own refutation; or a value of the run that Decide's point and an accepting run tell.
pub data NumberPasses (t : TypedProgram) (depth : ℕ) (w : List Letter) : Type 0 where
  of_decide : (PathFits (lowered t) depth w → ⊥) → NumberPasses t depth w
  of_predicates : (nodes : List PlainNode) → path_decision (lowered t) depth w ≡ refuted nodes → (PredicatesFit (lowered t) w nodes → ⊥) → NumberPasses t depth w
  of_run : (values : List ℤ) (step : ℕ) → path_decision (lowered t) depth w ≡ whole values → ToldPasses t (point_of values) w step →
      NumberPasses t depth w

-- The run that Decide's point and an accepting run tell neither fails an assertion nor has a value that does not fit.
pub record PointStops (t : TypedProgram) (depth : ℕ) (w : List Letter) : Type 0 where
  pub values : List ℤ
  pub step : ℕ
  pub decided : path_decision (lowered t) depth w ≡ whole values
  pub stops : ToldStops t (point_of values) w step

-- why nothing is known of a word, where the history has n entries
abbrev pub CauseMeets : TypedProgram → Limits → ℕ → Cause → List Letter → Type 0
CauseMeets t l n Rounds w = (l.rounds ≤ n) × ((nodes : List PlainNode) × RefutesPath (lowered t) w nodes)
CauseMeets t l n Whole w = IsGap (lowered t) l.depth w
CauseMeets t l n Number w = NumberPasses t l.depth w
CauseMeets t l n Product w = (IsExactWord (lowered t) w → ⊥) × PointStops t l.depth w

-- what an end says of its word: it is feasible, and a run fails; or why nothing is known of it
abbrev pub SaysOfWord : TypedProgram → Limits → ℕ → List Letter → End → Type 0
SaysOfWord t l n w Safe = ⊥
SaysOfWord t l n w (Unsafe v steps choices) = (v ≡ w) × IsFeasible (alphabet_of (lowered t)) w × FailsAfter t w steps choices.items
SaysOfWord t l n w (Unknown cause v) = (v ≡ w) × CauseMeets t l n cause w

-- ---- over a history

module _ {E : Type 0} (automaton : E → Automaton) where
  -- the word is one of the program, and no automaton of the history accepts it
  pub record WordIsKept (program : Automaton) (h : List (Entry E)) (w : List Letter) : Type 0 where
    pub error : Accepts program w
    pub left : Removed automaton h w → ⊥

  -- What an end has to meet: where it is Safe no word is kept; otherwise its word is, and the end says so much of it.
  pub data EndMeets (t : TypedProgram) (l : Limits) (h : List (Entry E)) (e : End) : Type 0 where
    no_word : e ≡ Safe → ((w : List Letter) → WordIsKept (lowered t).automaton h w → ⊥) → EndMeets t l h e
    one_word : (w : List Letter) → WordIsKept (lowered t).automaton h w → SaysOfWord t l (length h) w e → EndMeets t l h e
