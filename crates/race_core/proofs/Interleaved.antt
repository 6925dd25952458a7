-- What every list of events keeps, and what one publication does.
use Rattle.std.proofs.Common.{◌≡◌, ◌≢◌, ℕ, ◌+◌, ◌≤◌, ◌<◌, ◌⊎◌, ◌↔◌, inl, inr, Bool, true, false, nat_eq, nat_le, if◌then◌else◌, List, [], ◌∷◌, ◌++◌, take, length, sym, subst, ap, refl, Option, None, Some, arith, length-append}
use Rattle.std.specs.Arc.{arc_value}
use Rattle.nwa_base.specs.declared.letters.Letter.{Letter}
use Rattle.nwa_base.specs.Automata.{Automaton}
use Rattle.nwa_base.specs.Acceptance.{Accepts}
use Rattle.race_core.specs.declared.ends.End.{End}
use Rattle.race_core.specs.declared.events.Entry.{Entry}
use Rattle.race_core.specs.declared.events.Event.{Event}
use Rattle.race_core.specs.declared.events.Event.TheVariants.{Read, Publish, Finish}
use Rattle.race_core.specs.declared.events.Why.{Why}
use Rattle.race_core.specs.declared.events.Why.TheVariants.{Ended, Full, Stale}
use Rattle.race_core.specs.Histories.{Removed, Keeps, IsNext, IsFair, IsInfeasible, IsLegal}
use Rattle.race_core.specs.Races.{Race, RaceIsSound}
use Rattle.race_core.specs.Steps.{staleness, publish_refusal, finish_refusal, published, finished, after, IsFairEvent}
use Rattle.race_core.specs.Interleavings.{after_all, HasInfeasibleEvidence, AreFair}
use Rattle.race_core.proofs.Legality.{removed_last, removed_more, fair_next, fair_keeps, legal_more}

-- a publication is taken exactly where no end is set, the version is below the limit, and the base is the version
pub publication_is_taken : (end : Option End) (version limit base : ℕ) →
    (publish_refusal end version limit base ≡ None) ↔ ((end ≡ None) × (version < limit) × (base ≡ version))
publication_is_taken None version limit base = grind arith
publication_is_taken (Some e) version limit base = grind arith

-- an end is taken exactly where no end is set and the base is the version
pub end_is_taken : (end : Option End) (version base : ℕ) →
    (finish_refusal end version base ≡ None) ↔ ((end ≡ None) × (base ≡ version))
end_is_taken None version base = grind arith
end_is_taken (Some e) version base = grind arith

module _ {E : Type 0} where
  published_stays : (o : Option Why) (r : Race E) (entry : Entry E) (kept : Automaton) →
      ((published o r entry kept).program ≡ r.program) × ((published o r entry kept).limit ≡ r.limit)
  published_stays None r entry kept = (refl, refl)
  published_stays (Some why) r entry kept = (refl, refl)

  finished_stays : (o : Option Why) (r : Race E) (end : End) →
      ((finished o r end).program ≡ r.program) × ((finished o r end).limit ≡ r.limit)
  finished_stays None r end = (refl, refl)
  finished_stays (Some why) r end = (refl, refl)

  -- no event changes the program
  pub program_stays : (r : Race E) (x : Event E) → (after r x).program ≡ r.program
  program_stays r (Read worker) = refl
  program_stays r (Publish worker base entry kept) =
      (published_stays (publish_refusal r.end (length r.history) r.limit base) r entry (arc_value kept)).0
  program_stays r (Finish worker base end) = (finished_stays (finish_refusal r.end (length r.history) base) r end).0

  -- no event changes the limit
  pub limit_stays : (r : Race E) (x : Event E) → (after r x).limit ≡ r.limit
  limit_stays r (Read worker) = refl
  limit_stays r (Publish worker base entry kept) =
      (published_stays (publish_refusal r.end (length r.history) r.limit base) r entry (arc_value kept)).1
  limit_stays r (Finish worker base end) = (finished_stays (finish_refusal r.end (length r.history) base) r end).1

module _ {E : Type 0} (automaton : E → Automaton) where
  -- what is accepted after a publication, by the words before it
  pub own_word_is_removed : (r : Race E) (base : ℕ) (entry : Entry E) (kept : Automaton) → length r.history ≤ base →
      Keeps automaton r.program r.history r.kept → IsFair automaton r.program r.history base entry kept →
      Accepts r.kept entry.word × (Accepts kept entry.word → ⊥) × ((w : List Letter) → Accepts kept w → Accepts r.kept w)
  own_word_is_removed r base entry kept le keeps fair =
      let n = fair_next automaton r.program r.history base entry kept le fair in
      let k = fair_keeps automaton r.program r.history base entry kept le fair in (
        (keeps entry.word).1 (n.error, n.fresh),
        (λ a. ((k entry.word).0 a).1 (removed_last automaton r.history entry entry.word n.own)),
        (λ w a. let b = (k w).0 a in (keeps w).1 (b.0, λ s. b.1 (removed_more automaton r.history entry w s))),
      )

  module _ (feasible : E → List Letter → Type 0) where
    -- a next entry keeps the state sound; the conditions are said of a state that is equal
    pub sound_added : (q r : Race E) (entry : Entry E) (kept : Automaton) → q ≡ r → length r.history < r.limit →
        IsNext automaton r.program r.history entry → Keeps automaton r.program (r.history ++ entry ∷ []) kept →
        IsInfeasible automaton feasible entry.evidence → RaceIsSound automaton feasible q →
        RaceIsSound automaton feasible (record q { history = q.history ++ entry ∷ []; kept = kept })
    sound_added q r entry kept e room next keeps i s =
        let N : Race E → Type 0 = λ x. IsNext automaton x.program x.history entry in
        let K : Race E → Type 0 = λ x. Keeps automaton x.program (x.history ++ entry ∷ []) kept in
        let L : Race E → Type 0 = λ x. length x.history < x.limit in
        let lt = subst L (sym e) room in
        let len = length-append q.history (entry ∷ []) in
        record {
          legal = legal_more automaton feasible q.program q.history entry s.legal (subst N (sym e) next) i;
          keeps = subst K (sym e) keeps;
          room = omega (arith, len, lt);
        }

    sound_published : (o : Option Why) (r : Race E) (base : ℕ) (entry : Entry E) (kept : Automaton) →
        (o ≡ None → (length r.history < r.limit) × (base ≡ length r.history)) →
        (base ≤ length r.history → IsFair automaton r.program r.history base entry kept) →
        IsInfeasible automaton feasible entry.evidence → RaceIsSound automaton feasible r →
        RaceIsSound automaton feasible (published o r entry kept)
    sound_published (Some why) r base entry kept taken fair i s = s
    sound_published None r base entry kept taken fair i s =
        let t = taken refl in
        let le : length r.history ≤ base = omega (arith, t.1) in
        let f = fair (omega (arith, t.1)) in
        sound_added r r entry kept refl t.0 (fair_next automaton r.program r.history base entry kept le f)
        (fair_keeps automaton r.program r.history base entry kept le f) i s

    sound_finished : (o : Option Why) (r : Race E) (end : End) → RaceIsSound automaton feasible r →
        RaceIsSound automaton feasible (finished o r end)
    sound_finished None r end s = record { legal = s.legal; keeps = s.keeps; room = s.room }
    sound_finished (Some why) r end s = s

    -- one event keeps the state sound
    pub sound_after : (r : Race E) (x : Event E) → IsFairEvent automaton r x → HasInfeasibleEvidence automaton feasible x →
        RaceIsSound automaton feasible r → RaceIsSound automaton feasible (after r x)
    sound_after r (Read worker) f p s = s
    sound_after r (Publish worker base entry kept) f p s =
        sound_published (publish_refusal r.end (length r.history) r.limit base) r base entry (arc_value kept)
        (λ none. let t = (publication_is_taken r.end (length r.history) r.limit base).0 none in (t.1, t.2)) f p s
    sound_after r (Finish worker base end) f p s = sound_finished (finish_refusal r.end (length r.history) base) r end s

    -- every list of events does
    pub sound_after_all : (r : Race E) (xs : List (Event E)) → AreFair automaton feasible r xs →
        RaceIsSound automaton feasible r → RaceIsSound automaton feasible (after_all r xs)
    sound_after_all r [] f s = s
    sound_after_all r (x ∷ xs) f s = sound_after_all (after r x) xs f.2 (sound_after r x f.0 f.1 s)
