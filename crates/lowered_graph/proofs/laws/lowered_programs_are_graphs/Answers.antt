use Rattle.lowered_graph.proofs.WholeGraph.{is_graph}
use Rattle.lowered_graph.proofs.laws.lowered_programs_are_graphs.Goals as goal

pub returns : goal.returns
returns c =
    is_graph
    (record {
      numbered = c.places_of_typed_programs.ensures.numbered;
      differ = c.places_of_typed_programs.ensures.differ;
      begin = c.places_of_typed_programs.ensures.begin;
      lead = c.places_of_typed_programs.ensures.lead;
      starts = c.places_of_typed_programs.ensures.starts;
    })
    c.points_of_typed_programs.ensures.known c.points_of_typed_programs.ensures.imports
