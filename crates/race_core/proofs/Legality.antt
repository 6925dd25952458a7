-- Legal histories grow at their end, and their beginnings are legal.
use Rattle.std.proofs.Common.{◌≡◌, ℕ, ◌≤◌, ◌⊎◌, inl, inr, List, [], ◌∷◌, ◌++◌, take, length, sym, subst, ap, append_assoc, append-nil, ⊎_elim}
use Rattle.std.proofs.lemmas.List.{take_all}
use Rattle.nwa_base.specs.declared.letters.Letter.{Letter}
use Rattle.nwa_base.specs.Automata.{Automaton}
use Rattle.nwa_base.specs.Acceptance.{Accepts}
use Rattle.race_core.specs.declared.events.Entry.{Entry}
use Rattle.race_core.specs.Histories.{Removed, Keeps, IsNext, IsFair, IsInfeasible, IsLegalAfter, IsLegal}

module _ {E : Type 0} (automaton : E → Automaton) where
  -- what the last of a history's automata accepts is removed
  pub removed_last : (h : List (Entry E)) (e : Entry E) (w : List Letter) → Accepts (automaton e.evidence) w →
      Removed automaton (h ++ e ∷ []) w
  removed_last [] e w a = inl a
  removed_last (x ∷ h) e w a = inr (removed_last h e w a)

  -- what was removed stays so
  pub removed_more : (h : List (Entry E)) (e : Entry E) (w : List Letter) → Removed automaton h w →
      Removed automaton (h ++ e ∷ []) w
  removed_more [] e w r = absurd r
  removed_more (x ∷ h) e w r = ⊎_elim (λ a. inl a) (λ s. inr (removed_more h e w s)) r

  -- where the base is the version, fairness speaks of the whole history
  pub fair_next : (program : Automaton) (h : List (Entry E)) (base : ℕ) (entry : Entry E) (kept : Automaton) →
      length h ≤ base → IsFair automaton program h base entry kept → IsNext automaton program h entry
  fair_next program h base entry kept le f =
      let P : List (Entry E) → Type 0 = λ t. IsNext automaton program t entry in subst P (take_all base h le) f.next

  pub fair_keeps : (program : Automaton) (h : List (Entry E)) (base : ℕ) (entry : Entry E) (kept : Automaton) →
      length h ≤ base → IsFair automaton program h base entry kept → Keeps automaton program (h ++ entry ∷ []) kept
  fair_keeps program h base entry kept le f =
      let P : List (Entry E) → Type 0 = λ t. Keeps automaton program (t ++ entry ∷ []) kept in subst P (take_all base h le) f.keeps

  module _ (feasible : E → List Letter → Type 0) where
    legal_more_after : (program : Automaton) (before h : List (Entry E)) (e : Entry E) →
        IsLegalAfter automaton feasible program before h → IsNext automaton program (before ++ h) e →
        IsInfeasible automaton feasible e.evidence → IsLegalAfter automaton feasible program before (h ++ e ∷ [])
    legal_more_after program before [] e l n i =
        let P : List (Entry E) → Type 0 = λ t. IsNext automaton program t e in (subst P (append-nil before) n, i, tt)
    legal_more_after program before (x ∷ h) e l n i =
        let P : List (Entry E) → Type 0 = λ t. IsNext automaton program t e in
        (l.0, l.1, legal_more_after program (before ++ x ∷ []) h e l.2 (subst P (sym (append_assoc before (x ∷ []) h)) n) i)

    -- a legal history with a next entry is legal
    pub legal_more : (program : Automaton) (h : List (Entry E)) (e : Entry E) →
        IsLegal automaton feasible program h → IsNext automaton program h e →
        IsInfeasible automaton feasible e.evidence → IsLegal automaton feasible program (h ++ e ∷ [])
    legal_more program h e l n i = legal_more_after program [] h e l n i

    legal_begins_after : (program : Automaton) (before h more : List (Entry E)) →
        IsLegalAfter automaton feasible program before (h ++ more) → IsLegalAfter automaton feasible program before h
    legal_begins_after program before [] more l = tt
    legal_begins_after program before (x ∷ h) more l = (l.0, l.1, legal_begins_after program (before ++ x ∷ []) h more l.2)

    -- a beginning of a legal history is legal
    pub legal_begins : (program : Automaton) (h more : List (Entry E)) →
        IsLegal automaton feasible program (h ++ more) → IsLegal automaton feasible program h
    legal_begins program h more l = legal_begins_after program [] h more l
