-- Histories: which are legal, and which words they leave.
use Rattle.std.specs.Prelude.{◌⊎◌, ◌↔◌, ℕ, List, [], ◌∷◌, ◌++◌, take}
use Rattle.nwa_base.specs.declared.letters.Letter.{Letter}
use Rattle.nwa_base.specs.Automata.{Automaton}
use Rattle.nwa_base.specs.Acceptance.{Accepts}
use Rattle.race_core.specs.declared.events.Entry.{Entry}

module _ {E : Type 0} (automaton : E → Automaton) where
  -- some automaton of the history accepts the word
  abbrev pub Removed : List (Entry E) → List Letter → Type 0
  Removed [] w = ⊥
  Removed (e ∷ h) w = Accepts (automaton e.evidence) w ⊎ Removed h w

  -- Kept language: the automaton accepts exactly the program's words that no automaton of the history accepts.
  abbrev pub Keeps : Automaton → List (Entry E) → Automaton → Type 0
  Keeps program h kept = (w : List Letter) → Accepts kept w ↔ (Accepts program w × (Removed h w → ⊥))

  -- the entry's word is one of the program, its own automaton accepts it, and none of the history does
  pub record IsNext (program : Automaton) (h : List (Entry E)) (e : Entry E) : Type 0 where
    pub error : Accepts program e.word
    pub own : Accepts (automaton e.evidence) e.word
    pub fresh : Removed h e.word → ⊥

  -- The condition of a publication: the entry may come after the first `base` entries, and `kept` is what is kept then.
  pub record IsFair (program : Automaton) (h : List (Entry E)) (base : ℕ) (entry : Entry E) (kept : Automaton) : Type 0 where
    pub next : IsNext program (take base h) entry
    pub keeps : Keeps program (take base h ++ entry ∷ []) kept

  module _ (feasible : E → List Letter → Type 0) where
    -- no word that the automaton accepts is feasible
    abbrev pub IsInfeasible : E → Type 0
    IsInfeasible b = (w : List Letter) → Accepts (automaton b) w → feasible b w → ⊥

    -- each entry may come after those before it, of which these came first, and has an automaton of infeasible words
    abbrev pub IsLegalAfter : Automaton → List (Entry E) → List (Entry E) → Type 0
    IsLegalAfter program before [] = Unit {0}
    IsLegalAfter program before (e ∷ h) = IsNext program before e × IsInfeasible e.evidence × IsLegalAfter program (before ++ e ∷ []) h

    -- Legal history.
    abbrev pub IsLegal : Automaton → List (Entry E) → Type 0
    IsLegal program h = IsLegalAfter program [] h
