use Rattle.std.proofs.Common.{◌≡◌, ◌∙◌, ℕ, ℤ, List, length, refl, ap, subst}
use Rattle.std.specs.List.{AllByRecursion}
use Rattle.typed_tree.specs.TypedTree.{TypedProgram}
use Rattle.typed_tree.specs.TypingRules.TypedParts.{typed_program}
use Rattle.lin_rows.specs.Rows.{Holds}
use Rattle.lin_rows.specs.Points.{point_of}
use Rattle.nwa_base.specs.declared.letters.Letter.{Letter}
use Rattle.nwa_base.specs.Automata.{IsAutomaton}
use Rattle.nwa_base.specs.Runs.{IsAcceptingRun}
use Rattle.letter_acts.specs.Invariant.{Graph, IsGraph}
use Rattle.letter_acts.specs.Kept.{Keeps}
use Rattle.lowered_graph.specs.Lowered.{lowered}
use Rattle.lowered_graph.specs.Laws.{IsExactWord}
use Rattle.lowered_graph.specs.LoweredChoices.Choices.{trace_choices, FailsAtLast}
use Rattle.path_rows.specs.Paths.{path_of}
use Rattle.trace_replay.specs.PathTraces.Solved.{next_positions}
use Rattle.trace_replay.specs.FailureText.{numbers}
use Rattle.trace_replay.specs.Replays.{choices_among}
use Rattle.trace_replay.specs.ReplayAnswers.{IsTriedFault}
use Rattle.trace_replay.specs.ToldRuns.{told_run, IsToldFault}
use Rattle.trace_replay.proofs.ToldSites.{EndsAtSite, ends_at_site, told_fails, told_fault, told_failure, if_ok, if_err}
use Rattle.trace_replay.proofs.choosing.choices_of.Goals as goal

pub returns-clause-told : goal.returns-clause-told
unfolding Keeps
returns-clause-told c =
    let t : TypedProgram = typed_program c.args.program.now in
    let point : ℕ → ℤ = point_of c.args.point.now in
    let w : List Letter = c.args.word.now in
    let is : c.args.icfg.now ≡ lowered t = c.requires.lowered in
    let states : List ℕ = c.in_ok-run.run'.items in
    let accepting : IsAcceptingRun (lowered t).automaton w states = subst (λ (g : Graph). IsAcceptingRun g.automaton w states) is c.in_ok-run.ensures in
    let graph : IsGraph (lowered t) = subst IsGraph is c.nwa.ensures.valid in
    let automaton : IsAutomaton (lowered t).automaton = subst IsAutomaton (c.nwa.ensures.value ∙ ap (λ (g : Graph). g.automaton) is) c.states-states.ensures.valid in
    let rows : AllByRecursion (Holds point) (path_of (lowered t) w).rows = subst (λ (g : Graph). AllByRecursion (Holds point) (path_of g w).rows) is c.requires.solves in
    let site : EndsAtSite (lowered t) states = ends_at_site (lowered t) w states graph accepting in
    let fails : IsExactWord (lowered t) w → FailsAtLast t (told_run t point w states) site.site.id.number =
    told_fails c.choices_of_traces.ensures.fail c.solutions_are_traces.ensures t w point states c.globals-globals.ensures.valid graph automaton accepting rows site in
    let taken : c.deref-2.result.now ≡ told_run t point w states =
    c.deref-2.ensures.value ∙ c.in_ok-taken.ensures.value ∙ (λ k. trace_choices t (next_positions point (is k) w (c.deref.ensures.value k))) in
    if_ok _ _ c.trail_of.result
    (λ trail so. told_failure t point w states c.deref-2.result.now site.site.id.number accepting taken fails site.site site.is_site site.ends refl trail.steps (numbers trail.choices.items) so)
    c.trail_of.ensures.trail

pub returns-clause-fault : goal.returns-clause-fault
unfolding Keeps
returns-clause-fault c =
    let t : TypedProgram = typed_program c.args.program.now in
    let point : ℕ → ℤ = point_of c.args.point.now in
    let w : List Letter = c.args.word.now in
    let is : c.args.icfg.now ≡ lowered t = c.requires.lowered in
    let states : List ℕ = c.in_ok-run.run'.items in
    let accepting : IsAcceptingRun (lowered t).automaton w states = subst (λ (g : Graph). IsAcceptingRun g.automaton w states) is c.in_ok-run.ensures in
    let graph : IsGraph (lowered t) = subst IsGraph is c.nwa.ensures.valid in
    let automaton : IsAutomaton (lowered t).automaton = subst IsAutomaton (c.nwa.ensures.value ∙ ap (λ (g : Graph). g.automaton) is) c.states-states.ensures.valid in
    let rows : AllByRecursion (Holds point) (path_of (lowered t) w).rows = subst (λ (g : Graph). AllByRecursion (Holds point) (path_of g w).rows) is c.requires.solves in
    let site : EndsAtSite (lowered t) states = ends_at_site (lowered t) w states graph accepting in
    let fails : IsExactWord (lowered t) w → FailsAtLast t (told_run t point w states) site.site.id.number =
    told_fails c.choices_of_traces.ensures.fail c.solutions_are_traces.ensures t w point states c.globals-globals.ensures.valid graph automaton accepting rows site in
    let taken : c.deref-2.result.now ≡ told_run t point w states =
    c.deref-2.ensures.value ∙ c.in_ok-taken.ensures.value ∙ (λ k. trace_choices t (next_positions point (is k) w (c.deref.ensures.value k))) in
    if_err (IsTriedFault t (length c.deref-2.result.now) (choices_among c.deref-2.result.now)) (IsToldFault t point w) c.trail_of.result
    (told_fault t point w states c.deref-2.result.now site.site.id.number accepting taken fails) c.trail_of.ensures.fault
