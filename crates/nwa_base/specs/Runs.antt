-- Runs as lists of states, read by their places (Alur and Madhusudan, 2009).
use Rattle.std.specs.Prelude.{◌≡◌, ℕ, List, [], ◌∷◌, Some, slice_index}
use Rattle.nwa_base.specs.declared.letters.Kind.{Kind}
use Rattle.nwa_base.specs.declared.letters.Kind.TheVariants.{Inside, Call, Back}
use Rattle.nwa_base.specs.declared.letters.Letter.{Letter}
use Rattle.nwa_base.specs.Members.{Member}
use Rattle.nwa_base.specs.Words.{match_back}
use Rattle.nwa_base.specs.Automata.{Automaton}

-- An edge by a letter of this kind leads from q to e. For a return it reads the run's state at the place of the call that
-- the return matches, which is the state before that call. `front` are the letters before, last first.
abbrev pub StepsTo : Automaton → List ℕ → Kind → List Letter → ℕ → Letter → ℕ → Type 0
StepsTo m run Inside front q a e = Member m.insides (q, a, e)
StepsTo m run Call front q a e = Member m.calls (q, a, e)
StepsTo m run Back front q a e = (place : ℕ) × (match_back front 0 ≡ Some place) × Member m.backs (q, slice_index run place, a, e)

-- from the first of these states on, the last of the run, each letter follows an edge
abbrev pub StepsOn : Automaton → List ℕ → List Letter → List Letter → List ℕ → Type 0
StepsOn m run front w [] = ⊥
StepsOn m run front [] (q ∷ []) = Unit {0}
StepsOn m run front [] (q ∷ e ∷ more) = ⊥
StepsOn m run front (a ∷ w) (q ∷ []) = ⊥
StepsOn m run front (a ∷ w) (q ∷ e ∷ more) = StepsTo m run a.kind front q a e × StepsOn m run (a ∷ front) w (e ∷ more)

-- the states begin in this one
abbrev pub BeginsIn : ℕ → List ℕ → Type 0
BeginsIn start [] = ⊥
BeginsIn start (q ∷ more) = q ≡ start

-- the states end in a final one
abbrev pub EndsFinal : Automaton → List ℕ → Type 0
EndsFinal m [] = ⊥
EndsFinal m (q ∷ []) = Member m.finals q
EndsFinal m (q ∷ e ∷ more) = EndsFinal m (e ∷ more)

-- the states, one more than the letters, are a run of the automaton over the word
pub record IsRun (m : Automaton) (w : List Letter) (run : List ℕ) : Type 0 where
  pub start : BeginsIn m.start run
  pub steps : StepsOn m run [] w run

-- a run that ends in a final state
pub record IsAcceptingRun (m : Automaton) (w : List Letter) (run : List ℕ) : Type 0 where
  pub is_run : IsRun m w run
  pub ends : EndsFinal m run
