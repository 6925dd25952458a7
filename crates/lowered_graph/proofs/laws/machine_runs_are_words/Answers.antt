use Rattle.lowered_graph.proofs.RunsJoined.{machine_fails}
use Rattle.lowered_graph.proofs.laws.machine_runs_are_words.Goals as goal

pub returns : goal.returns
returns c =
    machine_fails (record {
      numbered = c.places_of_typed_programs.ensures.numbered;
      differ = c.places_of_typed_programs.ensures.differ;
      begin = c.places_of_typed_programs.ensures.begin;
      lead = c.places_of_typed_programs.ensures.lead;
      starts = c.places_of_typed_programs.ensures.starts;
    })
