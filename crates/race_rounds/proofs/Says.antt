-- What is found of a word by way of its graph, said of the program.
use Rattle.std.proofs.Common.{◌≡◌, ◌≤◌, ℕ, ℤ, true, List, length, refl, sym, subst}
use Rattle.std.specs.List.{AllByRecursion}
use Rattle.math_facts.specs.Fits.{Fits}
use Rattle.lin_rows.specs.Rows.{Holds}
use Rattle.lin_rows.specs.Points.{point_of}
use Rattle.farkas_check.specs.Nodes.{PlainNode}
use Rattle.int_decide.specs.Decisions.{refuted, whole}
use Rattle.nwa_base.specs.declared.letters.Letter.{Letter}
use Rattle.letter_acts.specs.Invariant.{Graph}
use Rattle.typed_tree.specs.TypedTree.{TypedProgram}
use Rattle.lowered_graph.specs.Lowered.{lowered}
use Rattle.lowered_graph.specs.Laws.{IsExactWord}
use Rattle.path_rows.specs.Paths.{path_of}
use Rattle.path_decide.specs.Decided.{RefutesPath, path_decision}
use Rattle.trace_replay.specs.Replays.{choices_among}
use Rattle.trace_replay.specs.Tried.{TriedFails}
use Rattle.trace_replay.specs.Guesses.{FailsWith, IsGuessed}
use Rattle.trace_replay.specs.ToldRuns.{told_run, ToldFails, IsToldFault}
use Rattle.trace_replay.specs.declared.causes.ReplayCause.{ReplayCause}
use Rattle.trace_replay.specs.declared.causes.ReplayCause.TheVariants as causes
use Rattle.trace_replay.specs.declared.causes.ReplayFault.TheVariants.{At}
use Rattle.race_core.specs.declared.ends.Cause.{Cause}
use Rattle.race_core.specs.declared.ends.Cause.TheVariants.{Rounds, Whole, Number, Product}
use Rattle.race_core.specs.declared.ends.End.TheVariants.{Unknown}
use Rattle.nested_itp.specs.NestedRefutations.Numbers.{NumbersFit}
use Rattle.race_rounds.specs.declared.limits.Limits.{Limits}
use Rattle.race_rounds.specs.Ends.{FailsAfter, PredicatesFit, NumberPasses, of_predicates, of_run, CauseMeets, SaysOfWord}
use Rattle.race_rounds.specs.Rounds.{is_by_products}
use Rattle.race_rounds.proofs.DecideCuts.{decided_cuts}

pub predicates_pass : (t : TypedProgram) (g : Graph) (depth : ℕ) (w : List Letter) (nodes : List PlainNode) → g ≡ lowered t →
    path_decision g depth w ≡ refuted nodes → (NumbersFit g w nodes → ⊥) → NumberPasses t depth w
predicates_pass t g depth w nodes e p n =
    let decided : path_decision (lowered t) depth w ≡ refuted nodes = subst (λ (x : Graph). path_decision x depth w ≡ refuted nodes) e p in
    let none : NumbersFit (lowered t) w nodes → ⊥ = subst (λ (x : Graph). NumbersFit x w nodes → ⊥) e n in
    of_predicates nodes decided (λ (f : PredicatesFit (lowered t) w nodes). none (record {
      cuts = decided_cuts (lowered t) depth w nodes decided;
      sums = f.sums;
      steps = f.steps;
    }))

-- what the fault of choices_of says of the word, by the cause that is made of it
pub fault_says : (t : TypedProgram) (g : Graph) (l : Limits) (n : ℕ) (w : List Letter) (values : List ℤ) (step : ℕ) (fault : ReplayCause) (cause : Cause) → g ≡ lowered t →
    path_decision g l.depth w ≡ whole values → (fault ≡ causes.Number → cause ≡ Number) → (fault ≡ causes.Product → cause ≡ Product) →
    IsToldFault t (point_of values) w (At step fault) → CauseMeets t l n cause w
fault_says t g l n w values step causes.Blocked cause e p one two h = absurd h
fault_says t g l n w values step causes.Ended cause e p one two h = absurd h
fault_says t g l n w values step causes.Short cause e p one two h = absurd h
fault_says t g l n w values step causes.Number cause e p one two h =
    subst (λ (c : Cause). CauseMeets t l n c w) (sym (one refl)) (of_run values step (subst (λ (x : Graph). path_decision x l.depth w ≡ whole values) e p) h)
fault_says t g l n w values step causes.BadChoice cause e p one two h = absurd h
fault_says t g l n w values step causes.Product cause e p one two h =
    subst (λ (c : Cause). CauseMeets t l n c w) (sym (two refl))
    (h.0, record { values = values; step = step; decided = subst (λ (x : Graph). path_decision x l.depth w ≡ whole values) e p; stops = h.1 })

pub rounds_say : (t : TypedProgram) (g : Graph) (l : Limits) (n : ℕ) (v w : List Letter) (nodes : List PlainNode) → g ≡ lowered t → v ≡ w → l.rounds ≤ n →
    RefutesPath g v nodes → SaysOfWord t l n w (Unknown Rounds w)
rounds_say t g l n v w nodes e s r h =
    (refl, (r, (nodes, subst (λ (x : List Letter). RefutesPath (lowered t) x nodes) s (subst (λ (x : Graph). RefutesPath x v nodes) e h))))

-- a run that is told of a word and fails
pub told_run_fails : (t : TypedProgram) (w : List Letter) (values : List ℤ) (steps : ℕ) (choices : List ℤ) →
    ((s : TypedProgram) (n : ℕ) (cs : List ℤ) (made : ℕ) (used : List ℤ) (i : ℕ) → TriedFails s n cs made used i → FailsWith s made used i) →
    AllByRecursion (Holds (point_of values)) (path_of (lowered t) w).rows → ToldFails t (point_of values) w steps choices → AllByRecursion Fits choices →
    FailsAfter t w steps choices
told_run_fails t w values steps choices alone meets told fit = record {
  point = values;
  meets = meets;
  assertion = told.assertion;
  fails = alone t (length (told_run t (point_of values) w told.states)) (choices_among (told_run t (point_of values) w told.states)) steps choices told.assertion told.fails;
  exact = λ x. told;
  fit = fit;
}

-- a run that fails with other choices than the told ones, where the word has a coarse letter
pub other_run_fails : (t : TypedProgram) (w : List Letter) (values : List ℤ) (steps : ℕ) (choices : List ℤ) →
    AllByRecursion (Holds (point_of values)) (path_of (lowered t) w).rows → (IsExactWord (lowered t) w → ⊥) → IsGuessed t steps choices → AllByRecursion Fits choices →
    FailsAfter t w steps choices
other_run_fails t w values steps choices meets coarse guessed fit =
    record { point = values; meets = meets; assertion = guessed.0; fails = guessed.1; exact = λ x. absurd (coarse x); fit = fit }

-- a cause that is the word's products says that the word has a coarse letter
pub coarse_by_products : (t : TypedProgram) (l : Limits) (n : ℕ) (w : List Letter) (c : Cause) → CauseMeets t l n c w → is_by_products c ≡ true → IsExactWord (lowered t) w → ⊥
coarse_by_products t l n w Rounds m e x = absurd (cc)
coarse_by_products t l n w Whole m e x = absurd (cc)
coarse_by_products t l n w Number m e x = absurd (cc)
coarse_by_products t l n w Product m e x = m.0 x
