-- Lists of events, as the workers' events come one after another.
use Rattle.std.specs.Prelude.{List, [], ◌∷◌}
use Rattle.nwa_base.specs.declared.letters.Letter.{Letter}
use Rattle.nwa_base.specs.Automata.{Automaton}
use Rattle.race_core.specs.declared.events.Event.{Event}
use Rattle.race_core.specs.declared.events.Event.TheVariants.{Read, Publish, Finish}
use Rattle.race_core.specs.Histories.{IsInfeasible}
use Rattle.race_core.specs.Races.{Race}
use Rattle.race_core.specs.Steps.{after, IsFairEvent}

module _ {E : Type 0} where
  -- the state after all events
  abbrev pub after_all : Race E → List (Event E) → Race E
  after_all r [] = r
  after_all r (x ∷ xs) = after_all (after r x) xs

  -- the evidence of a publication meets the law of evidence
  abbrev pub HasInfeasibleEvidence : (E → Automaton) → (E → List Letter → Type 0) → Event E → Type 0
  HasInfeasibleEvidence automaton feasible (Read worker) = Unit {0}
  HasInfeasibleEvidence automaton feasible (Publish worker base entry kept) = IsInfeasible automaton feasible entry.evidence
  HasInfeasibleEvidence automaton feasible (Finish worker base end) = Unit {0}

  -- each event meets its condition at the state that it comes to
  abbrev pub AreFair : (E → Automaton) → (E → List Letter → Type 0) → Race E → List (Event E) → Type 0
  AreFair automaton feasible r [] = Unit {0}
  AreFair automaton feasible r (x ∷ xs) =
      IsFairEvent automaton r x × HasInfeasibleEvidence automaton feasible x × AreFair automaton feasible (after r x) xs
