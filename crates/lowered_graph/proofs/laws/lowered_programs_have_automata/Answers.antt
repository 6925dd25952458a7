use Rattle.lowered_graph.proofs.KnownPlaces.{PlaceLaws}
use Rattle.lowered_graph.proofs.GraphParts.{has_procedures}
use Rattle.lowered_graph.proofs.GraphEdges.{has_edges}
use Rattle.lowered_graph.proofs.GraphStates.{is_automaton}
use Rattle.lowered_graph.proofs.WholeGraph.{actions_typed, no_olds}
use Rattle.lowered_graph.proofs.laws.lowered_programs_have_automata.Goals as goal

pub returns : goal.returns
returns c t v =
    let l : PlaceLaws = record {
      numbered = c.places_of_typed_programs.ensures.numbered;
      differ = c.places_of_typed_programs.ensures.differ;
      begin = c.places_of_typed_programs.ensures.begin;
      lead = c.places_of_typed_programs.ensures.lead;
      starts = c.places_of_typed_programs.ensures.starts;
    } in
    let w = actions_typed c.points_of_typed_programs.ensures.known c.points_of_typed_programs.ensures.imports t v in
    is_automaton t v (has_procedures l t v) (has_edges l t v (no_olds t w))
