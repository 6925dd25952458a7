use Rattle.boogie_run.proofs.BoogiePlaces.PlaceLaws.{places_numbered, numbers_differ, first_is_listed, leads_to_points, starts_lead_to_points}
use Rattle.boogie_run.proofs.boogie_places.laws.places_of_typed_programs.Goals as goal

pub returns-clause-numbered : goal.returns-clause-numbered
returns-clause-numbered c = places_numbered

pub returns-clause-differ : goal.returns-clause-differ
returns-clause-differ c = numbers_differ

pub returns-clause-begin : goal.returns-clause-begin
returns-clause-begin c = first_is_listed

pub returns-clause-lead : goal.returns-clause-lead
returns-clause-lead c = leads_to_points

pub returns-clause-starts : goal.returns-clause-starts
returns-clause-starts c = starts_lead_to_points
