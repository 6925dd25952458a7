use Rattle.lowered_graph.proofs.LoweredChoices.ToldTraces.{traces_fail, traces_are_run}
use Rattle.lowered_graph.proofs.lowered_choices.laws.choices_of_traces.Goals as goal

pub returns-clause-fail : goal.returns-clause-fail
returns-clause-fail c =
    traces_fail (record {
      numbered = c.places_of_typed_programs.ensures.numbered;
      differ = c.places_of_typed_programs.ensures.differ;
      begin = c.places_of_typed_programs.ensures.begin;
      lead = c.places_of_typed_programs.ensures.lead;
      starts = c.places_of_typed_programs.ensures.starts;
    })

pub returns-clause-along : goal.returns-clause-along
returns-clause-along c =
    traces_are_run (record {
      numbered = c.places_of_typed_programs.ensures.numbered;
      differ = c.places_of_typed_programs.ensures.differ;
      begin = c.places_of_typed_programs.ensures.begin;
      lead = c.places_of_typed_programs.ensures.lead;
      starts = c.places_of_typed_programs.ensures.starts;
    })
