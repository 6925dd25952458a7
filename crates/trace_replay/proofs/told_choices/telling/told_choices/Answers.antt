use Rattle.std.proofs.Common.{◌≡◌, ◌∙◌, ℕ, ℤ, sym, ap, subst}
use Rattle.typed_tree.specs.TypedTree.{TypedProgram}
use Rattle.typed_tree.specs.TypingRules.TypedParts.{typed_program}
use Rattle.lin_rows.specs.Points.{point_of}
use Rattle.nwa_base.specs.Automata.{Automaton}
use Rattle.nwa_base.specs.Runs.{IsAcceptingRun}
use Rattle.letter_acts.specs.Invariant.{Graph, IsGraph}
use Rattle.letter_acts.specs.Kept.{Keeps}
use Rattle.lowered_graph.specs.Lowered.{lowered}
use Rattle.lowered_graph.proofs.KnownPlaces.{PlaceLaws}
use Rattle.lowered_graph.specs.LoweredChoices.Choices.{trace_choices}
use Rattle.trace_replay.specs.PathTraces.Solved.{next_positions}
use Rattle.trace_replay.specs.ToldChoices.Telling.{all_choices}
use Rattle.trace_replay.specs.ToldChoices.Ties.Views.{plain_kinds, plain_positions}
use Rattle.trace_replay.proofs.ToldSites.{if_ok}
use Rattle.trace_replay.proofs.ToldChoices.Told.{all_told}
use Rattle.trace_replay.proofs.told_choices.telling.told_choices.Goals as goal

pub returns-clause-value : goal.returns-clause-value
unfolding Keeps
returns-clause-value c =
    let t : TypedProgram = typed_program c.args.program.now in
    let g : Graph = c.args.icfg.now in
    let point : ℕ → ℤ = point_of c.args.point.now in
    let laws : PlaceLaws = record {
      numbered = c.places_of_typed_programs.ensures.numbered;
      differ = c.places_of_typed_programs.ensures.differ;
      begin = c.places_of_typed_programs.ensures.begin;
      lead = c.places_of_typed_programs.ensures.lead;
      starts = c.places_of_typed_programs.ensures.starts;
    } in
    let is : g ≡ lowered t = c.requires.lowered in
    let graph : IsGraph (lowered t) = subst IsGraph is c.nwa.ensures.valid in
    let run : IsAcceptingRun (lowered t).automaton c.args.word.now c.args.run.now = subst (λ (h : Graph). IsAcceptingRun h.automaton c.args.word.now c.args.run.now) is c.requires.accepting in
    let kinds = ap plain_kinds c.deref.ensures.value ∙ c.in_ok-kinds.ensures in
    let insides = ap (λ (m : Automaton). m.insides) (c.nwa.ensures.value ∙ ap (λ (h : Graph). h.automaton) is) in
    let positions = ap plain_positions c.deref-2.ensures.value ∙ c.in_ok-positions.ensures.value ∙ ap (λ (h : Graph). next_positions point h c.args.word.now c.args.run.now) is in
    let found = (λ i. all_choices t (kinds i) (insides i) (positions i))
    ∙ all_told laws t c.globals-globals.ensures.valid graph point c.args.word.now c.args.run.now run
    ∙ ap (λ (h : Graph). trace_choices t (next_positions point h c.args.word.now c.args.run.now)) (sym is) in
    if_ok _ _ c.all_choices.result (λ v so. so ∙ found) c.all_choices.ensures.value
