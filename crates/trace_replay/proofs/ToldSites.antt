-- The run that a whole point and an accepting run tell, and how Tried ends with its choices.
use Rattle.std.proofs.Common.{◌≡◌, ℕ, ℤ, List, [], ◌∷◌, length, Option, Result, Ok, Err, inl, inr, refl, sym, subst, IsTrue}
use Rattle.std.specs.Prelude.{IfOk, IfErr}
use Rattle.std.specs.List.{AllByRecursion}
use Rattle.typed_tree.specs.TypedTree.{TypedProgram}
use Rattle.typed_tree.specs.TypingRules.ValidProgram.{is_valid}
use Rattle.lin_rows.specs.Rows.{Holds}
use Rattle.nwa_base.specs.declared.letters.Letter.{Letter}
use Rattle.nwa_base.specs.Members.{Member}
use Rattle.nwa_base.specs.Automata.{Automaton, IsAutomaton}
use Rattle.nwa_base.specs.Runs.{EndsFinal, IsAcceptingRun}
use Rattle.letter_acts.specs.declared.sites.Site.{Site}
use Rattle.letter_acts.specs.Invariant.{Graph, IsGraph, site_places}
use Rattle.lowered_graph.specs.Lowered.{lowered}
use Rattle.lowered_graph.specs.Laws.{IsExactWord}
use Rattle.lowered_graph.specs.LoweredChoices.Choices.{FailsAtLast}
use Rattle.lowered_graph.specs.LoweredChoices.Laws.{TracesFail}
use Rattle.path_rows.specs.Paths.{path_of}
use Rattle.trace_replay.specs.PathTraces.Solved.{first_position, next_positions, EndsIn}
use Rattle.trace_replay.specs.PathTraces.Laws.{SolutionsAreTraces}
use Rattle.trace_replay.specs.declared.causes.ReplayCause.TheVariants.{Blocked, Ended, Short, Number, BadChoice, Product}
use Rattle.trace_replay.specs.declared.causes.ReplayFault.{ReplayFault}
use Rattle.trace_replay.specs.declared.causes.ReplayFault.TheVariants.{At, Memory}
use Rattle.trace_replay.specs.Replays.{choices_among}
use Rattle.trace_replay.specs.Tried.{TriedFails, TriedPasses, TriedStops}
use Rattle.trace_replay.specs.ReplayAnswers.{IsTriedFault}
use Rattle.trace_replay.specs.ToldRuns.{told_run, IsTrailOf, ToldFails, IsToldFault}
use Rattle.trace_replay.proofs.TriedLaws.{tried_fails_replays}
use Rattle.trace_replay.proofs.ToldEnds.{told_trail, told_passes, told_stops}

-- the last state
last_final : (m : Automaton) (states : List ℕ) → EndsFinal m states → (e : ℕ) × Member m.finals e × EndsIn e states
last_final m [] h = absurd h
last_final m (q ∷ []) h = (q, h, refl)
last_final m (q ∷ r ∷ more) h = last_final m (r ∷ more) h

site_at : (sites : List Site) (e : ℕ) → Member (site_places sites) e → (s : Site) × Member sites s × (s.place ≡ e)
site_at [] e m = absurd m
site_at (s ∷ ss) e (inl h) = (s, inl refl, h)
site_at (s ∷ ss) e (inr m) = let r = site_at ss e m in (r.0, inr r.1, r.2)

-- the assertion at whose failing an accepting run ends
pub record EndsAtSite (g : Graph) (states : List ℕ) : Type 0 where
  pub site : Site
  pub is_site : Member g.sites site
  pub ends : EndsIn site.place states

pub ends_at_site : (g : Graph) (w : List Letter) (states : List ℕ) → IsGraph g → IsAcceptingRun g.automaton w states → EndsAtSite g states
ends_at_site g w states ok run =
    let last = last_final g.automaton states run.ends in
    let s = site_at g.sites last.0 (ok.sites.finals.back last.0 last.1) in
    record { site = s.0; is_site = s.1; ends = subst (λ (e : ℕ). EndsIn e states) (sym s.2) last.2 }

-- where the word has no coarse letter
pub told_fails : TracesFail → SolutionsAreTraces → (t : TypedProgram) (w : List Letter) (point : ℕ → ℤ) (states : List ℕ) → IsTrue (is_valid t) → IsGraph (lowered t) → IsAutomaton (lowered t).automaton →
    IsAcceptingRun (lowered t).automaton w states → AllByRecursion (Holds point) (path_of (lowered t) w).rows → (e : EndsAtSite (lowered t) states) → IsExactWord (lowered t) w →
    FailsAtLast t (told_run t point w states) e.site.id.number
told_fails fails traces t w point states v ok automaton run rows e exact =
    fails t e.site.id.number w (first_position point (lowered t)) (next_positions point (lowered t) w states) v exact
    (traces (lowered t) w point states e.site ok automaton run rows e.is_site e.ends)

-- ---- Tried

module _ (t : TypedProgram) (point : ℕ → ℤ) (w : List Letter) (states : List ℕ) (taken : List (Option ℤ)) (i : ℕ) (run : IsAcceptingRun (lowered t).automaton w states)
    (is : taken ≡ told_run t point w states) (fails : IsExactWord (lowered t) w → FailsAtLast t (told_run t point w states) i) where
  -- its fault
  pub told_fault : (fault : ReplayFault) → IsTriedFault t (length taken) (choices_among taken) fault → IsToldFault t point w fault
  told_fault Memory h = tt
  told_fault (At step Number) h =
      let passes : TriedPasses t (length (told_run t point w states)) (choices_among (told_run t point w states)) step =
      subst (λ (l : List (Option ℤ)). TriedPasses t (length l) (choices_among l) step) is h in
      record { states = states; accepting = run; passes = passes; exact = λ x. told_passes t i step (told_run t point w states) (fails x) passes }
  told_fault (At step Product) h =
      let stops : TriedStops t (length (told_run t point w states)) (choices_among (told_run t point w states)) step =
      subst (λ (l : List (Option ℤ)). TriedStops t (length l) (choices_among l) step) is h in
      (λ x. told_stops t i step (told_run t point w states) (fails x) stops, record { states = states; accepting = run; stops = stops })
  told_fault (At step Blocked) h = h
  told_fault (At step Ended) h = h
  told_fault (At step Short) h = h
  told_fault (At step BadChoice) h = h

  -- its failure
  pub told_failure : (site : Site) → Member (lowered t).sites site → EndsIn site.place states → site.id.number ≡ i → (steps : ℕ) (used : List ℤ) →
      (j : ℕ) × TriedFails t (length taken) (choices_among taken) steps used j → ToldFails t point w steps used
  told_failure site is_site ends number steps used h =
      let tried : TriedFails t (length (told_run t point w states)) (choices_among (told_run t point w states)) steps used h.0 =
      subst (λ (l : List (Option ℤ)). TriedFails t (length l) (choices_among l) steps used h.0) is h.1 in
      record {
        states = states;
        accepting = run;
        site = site;
        is_site = is_site;
        ends = ends;
        assertion = h.0;
        fails = tried;
        replays = tried_fails_replays t (length (told_run t point w states)) (choices_among (told_run t point w states)) steps used h.0 tried;
        exact = λ x.
            subst (IsTrailOf t (told_run t point w states) steps used) (sym number)
            (told_trail t i h.0 steps (told_run t point w states) used (fails x) tried);
      }

pub if_ok : {T E : Type 0} (P Q : T → Type 0) (r : Result T E) → ((x : T) → P x → Q x) → IfOk r P → IfOk r Q
if_ok P Q (Ok x) f h = f x h
if_ok P Q (Err e) f h = tt

pub if_err : {T E : Type 0} (P Q : E → Type 0) (r : Result T E) → ((e : E) → P e → Q e) → IfErr r P → IfErr r Q
if_err P Q (Ok x) f h = tt
if_err P Q (Err e) f h = f e h
