-- In a race for the empty word, an entry whose automaton is the program leaves no word.
use Rattle.std.proofs.Common.{◌≡◌, ℕ, List, [], ◌∷◌, inl, refl, subst, sym}
use Rattle.nwa_base.specs.declared.letters.Kind.{Kind}
use Rattle.nwa_base.specs.declared.letters.Kind.TheVariants.{Inside, Call, Back}
use Rattle.nwa_base.specs.declared.letters.Letter.{Letter}
use Rattle.nwa_base.specs.Automata.{Automaton}
use Rattle.nwa_base.specs.Acceptance.{Follows, AcceptsFrom, Accepts}
use Rattle.race_core.specs.declared.events.Entry.{Entry}
use Rattle.race_core.specs.Histories.{IsFair}
use Rattle.race_core.specs.Samples.{empty_word, no_word}

no_edge : (kind : Kind) (a : Letter) (e : ℕ) (rest : List ℕ → Type 0) → Follows no_word kind a [] 0 e rest → ⊥
no_edge Inside a e rest f = f.0
no_edge Call a e rest f = f.0
no_edge Back a e rest f = f

nothing_accepted : (w : List Letter) → Accepts no_word w → ⊥
nothing_accepted [] a = a
nothing_accepted (x ∷ w) a = no_edge x.kind x a.0 (λ stack. AcceptsFrom no_word stack a.0 w) a.1

module _ {E : Type 0} (automaton : E → Automaton) where
  fair_there : (h : List (Entry E)) (entry : Entry E) → entry.word ≡ [] → automaton entry.evidence ≡ empty_word →
      IsFair automaton empty_word h 0 entry no_word
  fair_there h entry word own =
      let W : List Letter → Type 0 = λ w. Accepts empty_word w in
      let A : Automaton → Type 0 = λ m. Accepts m entry.word in
      let there : Accepts empty_word entry.word = subst W (sym word) (inl refl) in
      record {
        next = record { error = there; own = subst A (sym own) there; fresh = λ r. r };
        keeps = λ w. (
          (λ a. absurd (nothing_accepted w a)),
          (λ k. let B : Automaton → Type 0 = λ m. Accepts m w in absurd (k.1 (inl (subst B (sym own) k.0)))),
        );
      }

  -- the publication is fair at base 0
  pub fair_sample : (program : Automaton) (h : List (Entry E)) (entry : Entry E) (kept : Automaton) → program ≡ empty_word →
      entry.word ≡ [] → automaton entry.evidence ≡ empty_word → kept ≡ no_word → IsFair automaton program h 0 entry kept
  fair_sample program h entry kept p word own k =
      let P : Automaton → Type 0 = λ m. IsFair automaton m h 0 entry kept in
      let K : Automaton → Type 0 = λ m. IsFair automaton empty_word h 0 entry m in
      subst P (sym p) (subst K (sym k) (fair_there h entry word own))
