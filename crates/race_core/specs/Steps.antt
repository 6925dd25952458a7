-- Race events: what each makes of the state, and what is answered.
use Rattle.std.specs.Prelude.{ℕ, ◌+◌, ◌≤◌, nat_eq, nat_le, if◌then◌else◌, List, [], ◌∷◌, ◌++◌, length, Option, None, Some}
use Rattle.std.specs.Arc.{arc_value}
use Rattle.nwa_base.specs.Automata.{Automaton}
use Rattle.race_core.specs.declared.ends.End.{End}
use Rattle.race_core.specs.declared.events.Entry.{Entry}
use Rattle.race_core.specs.declared.events.Event.{Event}
use Rattle.race_core.specs.declared.events.Event.TheVariants.{Read, Publish, Finish}
use Rattle.race_core.specs.declared.events.Outcome.{Outcome}
use Rattle.race_core.specs.declared.events.Outcome.TheVariants.{Seen, Published, Finished, NotPublished, NotFinished}
use Rattle.race_core.specs.declared.events.Refused.{Refused}
use Rattle.race_core.specs.declared.events.FinishRefused.{FinishRefused}
use Rattle.race_core.specs.declared.events.Why.{Why}
use Rattle.race_core.specs.declared.events.Why.TheVariants.{Ended, Full, Stale}
use Rattle.race_core.specs.Ends.{kind_of}
use Rattle.race_core.specs.Histories.{IsFair}
use Rattle.race_core.specs.Races.{Race}

-- an event that was made for another version is refused with the version
abbrev pub staleness : ℕ → ℕ → Option Why
staleness version base = if nat_eq base version then None else Some (Stale version)

-- Why a publication is refused, at this end, version and limit: first Ended, then Full, then Stale. None where it is taken.
abbrev pub publish_refusal : Option End → ℕ → ℕ → ℕ → Option Why
publish_refusal (Some e) version limit base = Some (Ended (kind_of e))
publish_refusal None version limit base = if nat_le limit version then Some (Full limit) else staleness version base

-- why an end is refused, at this end and version: first Ended, then Stale; None where it is taken
abbrev pub finish_refusal : Option End → ℕ → ℕ → Option Why
finish_refusal (Some e) version base = Some (Ended (kind_of e))
finish_refusal None version base = staleness version base

module _ {E : Type 0} where
  -- a publication that is taken adds its entry and sets what is kept; one that is refused changes nothing
  abbrev pub published : Option Why → Race E → Entry E → Automaton → Race E
  published None r entry kept = record r { history = r.history ++ entry ∷ []; kept = kept }
  published (Some why) r entry kept = r

  -- an end that is taken is set; one that is refused changes nothing
  abbrev pub finished : Option Why → Race E → End → Race E
  finished None r end = record r { end = Some end }
  finished (Some why) r end = r

  -- the state after the event
  abbrev pub after : Race E → Event E → Race E
  after r (Read worker) = r
  after r (Publish worker base entry kept) =
      published (publish_refusal r.end (length r.history) r.limit base) r entry (arc_value kept)
  after r (Finish worker base end) = finished (finish_refusal r.end (length r.history) base) r end

  -- the answer to a publication: the new version, or what was handed in with the reason
  abbrev pub publish_outcome : Option Why → ℕ → (Why → Refused E) → Outcome E
  publish_outcome None version refuse = Published (version + 1)
  publish_outcome (Some why) version refuse = NotPublished (refuse why)

  -- the answer to an end: that it is set, or what was handed in with the reason
  abbrev pub finish_outcome : Option Why → End → Outcome E
  finish_outcome None end = Finished
  finish_outcome (Some why) end = NotFinished (record { why = why; end = end })

  -- the answer to the event
  abbrev pub outcome : Race E → Event E → Outcome E
  outcome r (Read worker) = Seen (length r.history)
  outcome r (Publish worker base entry kept) =
      publish_outcome (publish_refusal r.end (length r.history) r.limit base) (length r.history)
      (λ why. record { why = why; entry = entry; kept = kept })
  outcome r (Finish worker base end) = finish_outcome (finish_refusal r.end (length r.history) base) end

  -- The condition of an event: a publication whose base is at most the version is fair at its base.
  abbrev pub IsFairEvent : (E → Automaton) → Race E → Event E → Type 0
  IsFairEvent automaton r (Read worker) = Unit {0}
  IsFairEvent automaton r (Publish worker base entry kept) =
      base ≤ length r.history → IsFair automaton r.program r.history base entry (arc_value kept)
  IsFairEvent automaton r (Finish worker base end) = Unit {0}
