-- What is kept behind one more entry.
use Rattle.std.proofs.Common.{◌≡◌, ◌⊎◌, inl, inr, List, [], ◌∷◌, ◌++◌, length, take, sym, subst, arith}
use Rattle.std.proofs.lemmas.List.{take_all}
use Rattle.nwa_base.specs.declared.letters.Letter.{Letter}
use Rattle.nwa_base.specs.Automata.{Automaton}
use Rattle.nwa_base.specs.Acceptance.{Accepts}
use Rattle.race_core.specs.declared.events.Entry.{Entry}
use Rattle.race_core.specs.Histories.{Removed, Keeps, IsFair}
use Rattle.race_workers.specs.KeptWords.Without.{IsWithout}

module _ {E : Type 0} (automaton : E → Automaton) where
  -- a word is removed by a history with one more entry by the history or by the entry
  removed_last : (h : List (Entry E)) (e : Entry E) (w : List Letter) → Removed automaton (h ++ e ∷ []) w → Removed automaton h w ⊎ Accepts (automaton e.evidence) w
  removed_last [] e w (inl a) = inr a
  removed_last [] e w (inr r) = absurd r
  removed_last (x ∷ h) e w (inl a) = inl (inl a)
  removed_last (x ∷ h) e w (inr r) = elim (removed_last h e w r) [ inl s ↦ inl (inr s) | inr a ↦ inr a ]

  removed_before : (h : List (Entry E)) (e : Entry E) (w : List Letter) → Removed automaton h w → Removed automaton (h ++ e ∷ []) w
  removed_before [] e w r = absurd r
  removed_before (x ∷ h) e w (inl a) = inl a
  removed_before (x ∷ h) e w (inr r) = inr (removed_before h e w r)

  removed_by_last : (h : List (Entry E)) (e : Entry E) (w : List Letter) → Accepts (automaton e.evidence) w → Removed automaton (h ++ e ∷ []) w
  removed_by_last [] e w a = inl a
  removed_by_last (x ∷ h) e w a = inr (removed_by_last h e w a)

  pub kept_behind : (program kept next : Automaton) (h : List (Entry E)) (e : Entry E) → Keeps automaton program h kept →
      IsWithout kept (automaton e.evidence) next → Keeps automaton program (h ++ e ∷ []) next
  kept_behind program kept next h e k n w = (
    λ a. let b = (n w).0 a in let c = (k w).0 b.0 in (c.0, λ r. elim (removed_last h e w r) [ inl s ↦ c.1 s | inr x ↦ b.1 x ]),
    λ a. (n w).1 ((k w).1 (a.0, λ s. a.1 (removed_before h e w s)), λ x. a.1 (removed_by_last h e w x)),
  )

  pub published : (program kept next : Automaton) (h : List (Entry E)) (e : Entry E) → Keeps automaton program h kept →
      Accepts kept e.word → Accepts (automaton e.evidence) e.word → IsWithout kept (automaton e.evidence) next →
      IsFair automaton program h (length h) e next
  published program kept next h e k a own n =
      let c = (k e.word).0 a in let all : take (length h) h ≡ h = take_all (length h) h (omega arith) in
      record {
        next = record { error = c.0; own = own; fresh = λ r. c.1 (subst (λ (l : List (Entry E)). Removed automaton l e.word) all r) };
        keeps = subst (λ (l : List (Entry E)). Keeps automaton program (l ++ e ∷ []) next) (sym all) (kept_behind program kept next h e k n);
      }
